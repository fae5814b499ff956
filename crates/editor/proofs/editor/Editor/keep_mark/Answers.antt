use Rattle.editor.specs.declared.call.Call.TheVariants.{KeepMark}
use Rattle.editor.proofs.Calling.{called_by, reached_by}
use Rattle.editor.proofs.editor.Editor.keep_mark.Goals as goal

pub invariant_of-self : goal.invariant_of-self
invariant_of-self g c = reached_by _ _ KeepMark _ c.self.invariant tt c.in_ok-serves.ensures (λ _ _. c.keep_mark.ensures.replies c.self.inside.board.signals) c.keep_mark.ensures.stays

pub returns : goal.returns
returns g c = called_by _ _ _ _ KeepMark _ c.self.view_is c.self.invariant tt c.in_ok-serves.ensures (λ _ _. c.keep_mark.ensures.replies c.self.inside.board.signals) c.keep_mark.ensures.stays
