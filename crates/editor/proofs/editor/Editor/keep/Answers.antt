use Rattle.std.proofs.Common.{sym, subst}
use Rattle.editor.specs.declared.call.Call.TheVariants.{Keep}
use Rattle.editor.specs.Steps.{Called}
use Rattle.editor.proofs.Calling.{keeps_whole}
use Rattle.editor.proofs.editor.Editor.keep.Goals as goal

pub returns-clause-whole : goal.returns-clause-whole
returns-clause-whole g c =
    let reply = c.close_keeping-reply in
    keeps_whole c.args.self.now reply.new.self c.settle.result (subst (Called c.args.self.now Keep reply.new.self) (sym c.settle.ensures.closed) reply.ensures)
