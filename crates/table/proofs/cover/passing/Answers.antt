use Rattle.std.proofs.Common.{◌^◌, rules, refl, subst, arith}
use Rattle.std.proofs.lemmas.Iterator.{YieldsList-from_range, items_from_drains}
use Rattle.table.proofs.Build.{Built, built_all}
use Rattle.table.proofs.cover.passing.Given as given
use Rattle.table.proofs.cover.passing.Goals as goal
use Rattle.table.proofs.cover.passing.Goals.{After-drop-test}

built : (g : given.Over) (c : After-drop-test g) → Built (2 ^ c.args.pins) c.fold-bits.result (given.F-post g c.args.test)
built g c =
    let ran = c.fold-bits.ensures.ran in
    let rows = c.rows.result in
    let all = items_from_drains ran.0 (ran.2.1.0, ran.2.1.1, λ _. (ran.2.0, ran.2.1.2)) (YieldsList-from_range 0 rows rows refl (omega arith)) in
    let set = built_all _ _ rows c.rows.ensures.few _ ran.0 ran.1 c.fold-bits.result all ran.3 (λ set m b q k. search rules) in
    subst (λ n. Built n c.fold-bits.result (given.F-post g c.args.test)) c.rows.ensures.value set

pub invariant_of-result : goal.invariant_of-result
invariant_of-result g c = record { few = c.requires.few; fits = (built g c).fits }

pub returns-clause-each : goal.returns-clause-each
returns-clause-each g c = (built g (goal.at.returns-clause-each g c).After-drop-test).each
