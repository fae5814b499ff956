-- The pins on each signal, as chains that run upward by pin number.
use Rattle.std.specs.Prelude.{◌≡◌, ℕ, zero, suc, ◌*◌, ◌<◌, ◌≤◌, cond, List, length, ◌==◌, ◌≢◌}
use Rattle.board.specs.Layout.{word, first, pin, next, back, needed}

-- r is one more than the least number from `from` on, below `top`, at which f is v; 0 where there is none
abbrev pub Least : (ℕ → ℕ) → ℕ → ℕ → ℕ → ℕ → Type 0
Least f top v from zero = (q : ℕ) → from ≤ q → q < top → f q ≢ v
Least f top v from (suc p) = (from ≤ p) × (p < top) × (f p ≡ v) × ((q : ℕ) → from ≤ q → q < p → f q ≢ v)

-- r is one more than the greatest number below `below` at which f is v; 0 where there is none
abbrev pub Greatest : (ℕ → ℕ) → ℕ → ℕ → ℕ → Type 0
Greatest f v below zero = (q : ℕ) → q < below → f q ≢ v
Greatest f v below (suc p) = (p < below) × (f p ≡ v) × ((q : ℕ) → p < q → q < below → f q ≢ v)

-- Each signal tells the first pin on it; each pin tells the next pin on the same signal, and the last one before it.
pub record Chained (m : ℕ) (ws : List ℕ) : Type 0 where
  pub long : needed m ≤ length ws
  pub within : (q : ℕ) → q < 4 * m → pin m ws q ≤ m
  pub firsts : (a : ℕ) → a < m → Least (pin m ws) (4 * m) (suc a) 0 (first m ws a)
  pub nexts : (q : ℕ) → q < 4 * m → 0 < pin m ws q → Least (pin m ws) (4 * m) (pin m ws q) (suc q) (next m ws q)
  pub backs : (q : ℕ) → q < 4 * m → 0 < pin m ws q → Greatest (pin m ws) (pin m ws q) q (back m ws q)

-- Pin q changes to v, and nothing else but the chains does.
pub record Repins (m : ℕ) (ws : List ℕ) (q v : ℕ) (ws' : List ℕ) : Type 0 where
  pub chained : Chained m ws'
  pub size : length ws' ≡ length ws
  pub pins : (x : ℕ) → x < 4 * m → pin m ws' x ≡ cond (q == x) v (pin m ws x)
  pub fields : (at : ℕ) → at < 5 * m → word ws' at ≡ word ws at
