-- When the words of a store hold a board that is in order.
use Rattle.std.specs.Prelude.{◌≡◌, ℕ, ◌^◌, ◌<◌, ◌≤◌, List, length}
use Rattle.words.specs.Meaning.{Meaning}
use Rattle.netlist.specs.Netlist.{Driver, absent, input, gate, latch}
use Rattle.netlist.specs.Places.{Arranges, Ordered}
use Rattle.board.specs.Board.{driver_at, netlist_of, order_of, Sound}

-- A table has no bit at or above 2 ^ pins, and a start is at most 3.
abbrev pub Fitting : Driver → Type 0
Fitting absent = Unit {0}
Fitting input = Unit {0}
Fitting (gate table pins) = (length pins ≤ 4) × (table < 2 ^ (2 ^ length pins))
Fitting (latch start pin) = start ≤ 3

-- What is kept twice agrees, the places are a permutation of the signals, each gate stands behind all signals that feed it, and every table and start fits.
pub record Stands (m : ℕ) (ws : List ℕ) : Type 0 where
  pub sound : Sound m ws
  pub permutes : Arranges m (order_of m ws)
  pub ordered : Ordered (netlist_of m ws) (order_of m ws)
  pub fits : (s : ℕ) → s < m → Fitting (driver_at m ws s)

-- Nothing but words of the present image is changed.
pub record Inside (before after : Meaning) : Type 0 where
  pub levels : after.saved ≡ before.saved
  pub limit : after.limit ≡ before.limit
