use Rattle.editor.proofs.Calling.{called_early, reached_early}
use Rattle.editor.proofs.editor.Editor.output.Goals as goal

pub invariant_of-self-2 : goal.invariant_of-self-2
invariant_of-self-2 g c = reached_early _ _ _ _ c.self.invariant c.in_ok-begin_edit.ensures.serves c.mark_output.ensures

pub returns : goal.returns
returns g c = called_early _ _ _ _ _ _ _ c.self.view_is c.self.invariant c.in_ok-begin_edit.ensures.serves c.mark_output.ensures c.begin_edit.ensures.empties
