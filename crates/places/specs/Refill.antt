-- What filling the places anew makes of the words of a store.
use Rattle.std.specs.Prelude.{◌≡◌, ℕ, suc, ◌+◌, ◌*◌, ◌<◌, ◌≤◌, Bool, false, cond, not, List, ◌++◌, length, take, drop, ◌==◌, ◌≢◌, nat_lt, slice_index}
use Rattle.netlist.specs.Places.{Order, those, segment}
use Rattle.board.specs.Layout.{word, needed, seat, holder}
use Rattle.board.specs.Board.{order_of}

-- whether a number is flagged
abbrev pub flagged : List ℕ → ℕ → Bool
flagged flags x = cond (nat_lt x 1024) (not (slice_index flags x == 0)) false

-- the signals that do not move
abbrev pub others : (ℕ → Bool) → List ℕ → List ℕ
others moves xs = those (λ x. not (moves x)) xs

-- the places from low to high, filled anew: first by the signals that do not move, then by those that do
abbrev pub filled : (ℕ → Bool) → Order → ℕ → ℕ → Order
filled moves o low high = take low o ++ (others moves (segment o low high) ++ (those moves (segment o low high) ++ drop (suc high) o))

-- The words hold a board of m signals, and low and high are places on it.
pub record Range (m : ℕ) (ws : List ℕ) (low high : ℕ) : Type 0 where
  pub few : m ≤ 1024
  pub long : needed m ≤ length ws
  pub upward : low ≤ high
  pub within : high < m

-- The order is another, and no word but those of the order changes.
pub record Reordered (m : ℕ) (ws : List ℕ) (o : Order) (ws' : List ℕ) : Type 0 where
  pub order : order_of m ws' ≡ o
  pub size : length ws' ≡ length ws
  pub before : (at : ℕ) → at < 4 * m → word ws' at ≡ word ws at
  pub behind : (at : ℕ) → 5 * m ≤ at → word ws' at ≡ word ws at

-- So many places from low on are walked: the signals met that do not move are written, up to the place `next`, and those that do are held back.
pub record Walked (moves : ℕ → Bool) (m : ℕ) (ws : List ℕ) (low many : ℕ) (ws' : List ℕ) (next : ℕ) (back : List ℕ) : Type 0 where
  pub words : Reordered m ws ((take low (order_of m ws) ++ others moves (take many (drop low (order_of m ws)))) ++ drop next (order_of m ws)) ws'
  pub fills : next ≡ low + length (others moves (take many (drop low (order_of m ws))))
  pub holds : back ≡ those moves (take many (drop low (order_of m ws)))

-- The signal at each place from low up to `top` has this place; no other word changes.
pub record Renumbered (m : ℕ) (ws : List ℕ) (low top : ℕ) (ws' : List ℕ) : Type 0 where
  pub size : length ws' ≡ length ws
  pub seats : (p : ℕ) → low ≤ p → p < top → seat m ws' (holder m ws p) ≡ p
  pub rest : (at : ℕ) → ((p : ℕ) → low ≤ p → p < top → at ≢ 3 * m + holder m ws p) → word ws' at ≡ word ws at
