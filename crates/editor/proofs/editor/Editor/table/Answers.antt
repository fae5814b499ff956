use Rattle.std.proofs.Common.{subst}
use Rattle.netlist.specs.Netlist.{driver_of}
use Rattle.board.specs.Board.{netlist_of}
use Rattle.editor.specs.Questions.{HasTable}
use Rattle.editor.proofs.Ordering.{reached_stands}
use Rattle.editor.proofs.Told.{table-told}
use Rattle.editor.proofs.editor.Editor.table.Goals as goal

pub returns-in-Gate : goal.returns-in-Gate
returns-in-Gate g c =
    let b = c.self.inside.board in
    subst (λ s. HasTable (driver_of (netlist_of s.signals s.words.image) c.args.signal) c.table_at.result) c.self.view_is
    (table-told b.signals b.words.image c.args.signal c.table_at.result c.in-Gate.ensures c.table_at.ensures (reached_stands b.signals b.words c.self.invariant))
