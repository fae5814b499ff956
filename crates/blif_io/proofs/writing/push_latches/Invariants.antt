use Rattle.std.proofs.Common.{◌≡◌, ◌++◌}
use Rattle.std.specs.List.{flat_map, range_with_len}
use Rattle.netlist.specs.Netlist.{driver_of}
use Rattle.board.specs.Board.{netlist_of}
use Rattle.blif.specs.Written.{latch_statement}
use Rattle.blif_io.specs.Writing.{spelled_statements}
use Rattle.blif_io.proofs.writing.push_latches.Given as goal

abbrev pub invariant-loop-signal : goal.invariant-loop-signal
invariant-loop-signal g l =
    l.out.items ≡ l.initial.out.items
    ++ spelled_statements (flat_map (λ s. latch_statement l.names.signals s (driver_of (netlist_of l.editor.signals l.editor.words.image) s)) (range_with_len 0 l.signal))
