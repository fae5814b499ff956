use Rattle.std.proofs.Common.{refl}
use Rattle.editor.specs.declared.call.Call.TheVariants.{DropMark}
use Rattle.desk.proofs.Holding.{backed_after}
use Rattle.desk.proofs.Playing.{plays, stays_at_hand}
use Rattle.desk.proofs.desk.Desk.drop_mark.Goals as goal

pub invariant_of-self : goal.invariant_of-self
invariant_of-self g c = backed_after _ _ DropMark _ _ _ c.drop_mark.ensures (stays_at_hand DropMark _ _ refl) c.self.invariant

pub returns : goal.returns
returns g c = plays _ c.self.inside.editor c.drop_mark.new.self _ _ DropMark _ c.self.view_is c.drop_mark.ensures (stays_at_hand DropMark _ _ refl)
