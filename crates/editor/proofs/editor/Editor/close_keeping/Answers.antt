use Rattle.editor.specs.declared.call.Call.TheVariants.{Keep}
use Rattle.editor.proofs.Calling.{called_by, reached_by}
use Rattle.editor.proofs.editor.Editor.close_keeping.Goals as goal

pub invariant_of-self : goal.invariant_of-self
invariant_of-self g c = reached_by _ _ Keep _ c.self.invariant tt c.in_ok-serves.ensures (λ _ sound. c.keep_batch.ensures.replies sound) c.keep_batch.ensures.stays

pub returns : goal.returns
returns g c = called_by _ _ _ _ Keep _ c.self.view_is c.self.invariant tt c.in_ok-serves.ensures (λ _ sound. c.keep_batch.ensures.replies sound) c.keep_batch.ensures.stays
