-- What it is to follow, to be reached and to be a way, for a relation that tells after each number a list of numbers.
use Rattle.std.specs.Prelude.{◌≡◌, ℕ, ◌<◌, ◌⊎◌, List, [], ◌∷◌}

-- y is one of the numbers
abbrev pub Among : ℕ → List ℕ → Type 0
Among y [] = ⊥
Among y (x ∷ xs) = (y ≡ x) ⊎ Among y xs

-- b follows a: it is told after a, and is below 1,024. What is told and is not below 1,024 follows nothing.
abbrev pub Follows : (ℕ → List ℕ) → ℕ → ℕ → Type 0
Follows next a b = (b < 1024) × Among b (next a)

-- What is reached from the start: the start, if it is below 1,024, and what follows a number that is reached.
pub data Reach (next : ℕ → List ℕ) (start : ℕ) : ℕ → Type 0 where
  here : start < 1024 → Reach next start start
  onward : {a b : ℕ} → Reach next start a → Follows next a b → Reach next start b

-- A way from a to b: it begins with a, ends with b, and each number on it is followed by the next.
abbrev pub Way : (ℕ → List ℕ) → ℕ → ℕ → List ℕ → Type 0
Way next a b [] = ⊥
Way next a b (x ∷ []) = (x ≡ a) × (x ≡ b)
Way next a b (x ∷ (y ∷ ys)) = (x ≡ a) × Follows next x y × Way next y b (y ∷ ys)
