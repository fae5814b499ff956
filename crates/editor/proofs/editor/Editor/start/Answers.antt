use Rattle.std.proofs.Common.{◌≡◌, Some, subst}
use Rattle.netlist.specs.Netlist.{driver_of}
use Rattle.board.specs.Board.{netlist_of}
use Rattle.editor.specs.Questions.{start_of}
use Rattle.editor.proofs.Told.{start-told}
use Rattle.editor.proofs.editor.Editor.start.Goals as goal

pub returns-in-Latch : goal.returns-in-Latch
returns-in-Latch g c =
    let b = c.self.inside.board in
    subst (λ s. Some c.read.result ≡ start_of (driver_of (netlist_of s.signals s.words.image) c.args.signal)) c.self.view_is
    (start-told b.signals b.words.image c.args.signal c.read.result c.read.ensures c.in-Latch.ensures)
