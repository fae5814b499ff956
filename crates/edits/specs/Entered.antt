-- An edit is in the words, and no pin is put yet.
use Rattle.std.specs.Prelude.{◌≡◌, ℕ, ◌<◌, List}
use Rattle.netlist.specs.declared.edit.Edit.{Edit}
use Rattle.netlist.specs.Edits.{asked}
use Rattle.board.specs.Board.{driver_at, netlist_of, order_of, Sound}
use Rattle.board.specs.Standing.{Fitting}

pub record Entered (m : ℕ) (ws : List ℕ) (e : Edit) (ws' : List ℕ) : Type 0 where
  pub netlist : netlist_of m ws' ≡ asked (netlist_of m ws) e
  pub order : order_of m ws' ≡ order_of m ws
  pub sound : Sound m ws'
  pub fits : (s : ℕ) → s < m → Fitting (driver_at m ws' s)
