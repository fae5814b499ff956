-- What a table of flags holds.
use Rattle.std.specs.Prelude.{ℕ, suc, cond, List, [], ◌∷◌, ◌==◌}

-- how many flags are 0
abbrev pub zeros : List ℕ → ℕ
zeros [] = 0
zeros (b ∷ bs) = cond (b == 0) (suc (zeros bs)) (zeros bs)

-- how many flags are set
abbrev pub marked : List ℕ → ℕ
marked [] = 0
marked (b ∷ bs) = cond (b == 0) (marked bs) (suc (marked bs))
