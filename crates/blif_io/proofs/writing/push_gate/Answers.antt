use Rattle.std.proofs.Common.{◌∙◌}
use Rattle.netlist.specs.Netlist.{driver_of}
use Rattle.board.specs.Board.{netlist_of}
use Rattle.blif_io.proofs.Pushing.{gate_spelled}
use Rattle.blif_io.proofs.writing.push_gate.Goals as goal

pub returns-in_ok-push_cover : goal.returns-in_ok-push_cover
returns-in_ok-push_cover g c =
    gate_spelled c.args.names.now.signals c.args.signal (driver_of (netlist_of c.args.editor.now.signals c.args.editor.now.words.image) c.args.signal) c.in-Some.table c.as_slice.result.now _ _ _
    c.in-Some.ensures (c.as_slice.ensures ∙ c.in-Some-pins.ensures.1.nets) c.in_ok-push_gate_line.ensures c.in_ok-push_cover.ensures
