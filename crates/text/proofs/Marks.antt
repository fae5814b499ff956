-- The first byte that passes a test, one step on.
use Rattle.std.proofs.Common.{◌≡◌, ℕ, ◌+◌, Bool, true, false, not, List, ◌∷◌, ap, ◌∙◌, arith}
use Rattle.std.specs.List.{position_or_len}
use Rattle.std.proofs.lemmas.Bool.{cond-true, cond-false}

module _ (p : ℕ → Bool) (b : ℕ) (bs : List ℕ) where
  pub mark_here : p b ≡ true → position_or_len p (b ∷ bs) ≡ 0
  mark_here t = cond-false (not (p b)) _ _ (ap not t)

  pub mark_later : p b ≡ false → position_or_len p (b ∷ bs) ≡ position_or_len p bs + 1
  mark_later t = let e : 1 + position_or_len p bs ≡ position_or_len p bs + 1 = omega arith in cond-true (not (p b)) _ _ (ap not t) ∙ e
