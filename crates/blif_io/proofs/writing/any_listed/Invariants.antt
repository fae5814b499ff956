use Rattle.std.proofs.Common.{◌≡◌, ℕ, ◌<◌, false}
use Rattle.board.specs.Board.{netlist_of}
use Rattle.blif_io.specs.Writing.{lists}
use Rattle.blif_io.proofs.writing.any_listed.Given as goal

abbrev pub invariant-loop-signal : goal.invariant-loop-signal
invariant-loop-signal g l = (k : ℕ) → k < l.signal → lists l.listing (netlist_of l.editor.signals l.editor.words.image) k ≡ false
