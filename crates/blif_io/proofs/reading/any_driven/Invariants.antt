use Rattle.std.proofs.Common.{◌≡◌, ℕ, ◌<◌}
use Rattle.netlist.specs.Netlist.{absent, driver_of}
use Rattle.board.specs.Board.{netlist_of}
use Rattle.blif_io.proofs.reading.any_driven.Given as goal

abbrev pub invariant-loop-signal : goal.invariant-loop-signal
invariant-loop-signal g l = (s : ℕ) → s < l.signal → driver_of (netlist_of l.editor.signals l.editor.words.image) s ≡ absent
