use Rattle.std.proofs.Common.{◌≡◌, ℕ, Bool, true, false, eqb, ◌<◌, List, [], ◌∷◌, length, MatchBool, refl, sym, ◌∙◌, arith}
use Rattle.std.proofs.lemmas.Bool.{eqb-true, eqb-false}
use Rattle.reach.specs.declared.queue.Found.{Found}
use Rattle.reach.specs.Listed.{trails}
use Rattle.reach.proofs.Listed.{length-trails}
use Rattle.reach.proofs.queue.Queue.is_empty.Goals as goal

nothing : (xs : List (List ℕ)) → length xs ≡ 0 → xs ≡ []
nothing [] e = refl
nothing (x ∷ xs) e = absurd (omega arith)

counted : (found : List Found) (r : Bool) → r ≡ eqb (length found) 0 → MatchBool r (trails [] found ≡ []) (0 < length (trails [] found))
counted found true e = nothing (trails [] found) (length-trails found ∙ eqb-true (length found) 0 (sym e))
counted found false e = let some = eqb-false (length found) 0 (sym e) in omega (arith, length-trails found, some)

pub returns : goal.returns
returns c = counted c.args.self.now.found.items c.is_empty.result c.is_empty.ensures
