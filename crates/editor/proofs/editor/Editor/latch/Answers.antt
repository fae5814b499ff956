use Rattle.netlist.specs.declared.edit.Edit.TheVariants.{Latch}
use Rattle.editor.proofs.Calling.{edited_early}
use Rattle.editor.proofs.editor.Editor.latch.Goals as goal

pub returns : goal.returns
returns g c =
    edited_early c.args.self.now.board c.add_latch.new.board (Latch c.args.signal c.args.net c.args.start) c.add_latch.result c.clear.new.self c.in_ok-serves.ensures
    c.add_latch.ensures.makes c.add_latch.ensures.early c.clear.ensures c.add_latch.ensures.stays
