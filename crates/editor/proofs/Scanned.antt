-- The first number of a range that has a property, where none beyond the range has it.
use Rattle.std.proofs.Common.{◌≡◌, ℕ, ◌<◌, ◌≤◌, Some, None, Option, MatchOption, arith}

pub first_of_all : (m end : ℕ) (P : ℕ → Type 0) (r : Option ℕ) → end ≡ m → ((s : ℕ) → P s → s < m)
    → MatchOption r ((k : ℕ) → 0 ≤ k → k < end → k < m → P k → ⊥) (λ i. (0 ≤ i) × (i < end) × (i < m → P i) × ((k : ℕ) → 0 ≤ k → k < i → k < m → P k → ⊥))
    → MatchOption r ((s : ℕ) → P s → ⊥) (λ s. P s × ((t : ℕ) → t < s → P t → ⊥))
first_of_all m end P None e below h = λ s p. h s (omega arith) (omega (arith, e, below s p)) (below s p) p
first_of_all m end P (Some i) e below h = (h.2 (omega (arith, e, h.1)), λ t lt p. h.3 t (omega arith) lt (below t p) p)
