use Rattle.editor.specs.declared.call.Call.TheVariants.{Drop}
use Rattle.editor.proofs.Calling.{called_by, reached_by}
use Rattle.editor.proofs.editor.Editor.close_dropping.Goals as goal

pub invariant_of-self : goal.invariant_of-self
invariant_of-self g c = reached_by _ _ Drop _ c.self.invariant tt c.in_ok-serves.ensures (λ _ _. c.drop_batch.ensures.replies c.self.inside.board.signals) c.drop_batch.ensures.stays

pub returns : goal.returns
returns g c = called_by _ _ _ _ Drop _ c.self.view_is c.self.invariant tt c.in_ok-serves.ensures (λ _ _. c.drop_batch.ensures.replies c.self.inside.board.signals) c.drop_batch.ensures.stays
