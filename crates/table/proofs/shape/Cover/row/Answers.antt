use Rattle.std.proofs.Common.{⊎_elim, rules, subst}
use Rattle.std.proofs.lemmas.Result.{err_from_is_err_and}
use Rattle.table.specs.Line.{Covers, Holds}
use Rattle.table.specs.declared.shape.Output.TheVariants.{Zero, One}
use Rattle.table.proofs.Build.{holds_passing}
use Rattle.table.proofs.shape.Cover.row.Goals as goal

pub returns-in_err-try_from : goal.returns-in_err-try_from
returns-in_err-try_from c =
    let p = err_from_is_err_and c.from_residual.result c.from_residual.ensures.1 in
    let told = c.in_err-try_from.ensures in
    rw (p.1, p.2) (told.0, λ formed. ⊎_elim (told.1 Zero) (told.1 One) formed.ends)

pub returns : goal.returns
returns c = record {
  formed = search rules;
  ends = search rules;
  same = c.passing.ensures.pins;
  covers =
      subst (λ pins. Holds pins c.passing.result.bits (Covers c.args.line.plane.now)) c.passing.ensures.pins
      (holds_passing c.passing.result (Covers c.args.line.plane.now) (rw c.passing.ensures.pins (λ m l. let told = c.passing.ensures.each m l in search rules)));
}
