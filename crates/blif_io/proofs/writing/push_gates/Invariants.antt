use Rattle.std.proofs.Common.{◌≡◌, ◌++◌, take}
use Rattle.std.specs.List.{flat_map}
use Rattle.netlist.specs.Netlist.{driver_of}
use Rattle.board.specs.Board.{netlist_of, order_of}
use Rattle.blif.specs.Written.{gate_statement}
use Rattle.blif_io.specs.Writing.{spelled_statements}
use Rattle.blif_io.proofs.writing.push_gates.Given as goal

abbrev pub invariant-loop-place : goal.invariant-loop-place
invariant-loop-place g l =
    l.out.items ≡ l.initial.out.items
    ++ spelled_statements (flat_map (λ s. gate_statement l.names.signals s (driver_of (netlist_of l.editor.signals l.editor.words.image) s)) (take l.place (order_of l.editor.signals l.editor.words.image)))
