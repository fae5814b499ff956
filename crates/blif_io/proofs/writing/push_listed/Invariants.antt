use Rattle.std.proofs.Common.{◌≡◌, ◌++◌, map}
use Rattle.board.specs.Board.{netlist_of}
use Rattle.blif.specs.Description.{name_of}
use Rattle.blif.specs.Written.{spelled_names}
use Rattle.blif_io.specs.Writing.{listed_below}
use Rattle.blif_io.proofs.writing.push_listed.Given as goal

abbrev pub invariant-loop-signal : goal.invariant-loop-signal
invariant-loop-signal g l =
    l.out.items ≡ l.initial.out.items ++ spelled_names (map (name_of l.names.signals) (listed_below l.listing (netlist_of l.editor.signals l.editor.words.image) l.signal))
