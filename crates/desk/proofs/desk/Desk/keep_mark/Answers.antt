use Rattle.std.proofs.Common.{refl}
use Rattle.editor.specs.declared.call.Call.TheVariants.{KeepMark}
use Rattle.desk.proofs.Holding.{backed_after}
use Rattle.desk.proofs.Playing.{plays, stays_at_hand}
use Rattle.desk.proofs.desk.Desk.keep_mark.Goals as goal

pub invariant_of-self : goal.invariant_of-self
invariant_of-self g c = backed_after _ _ KeepMark _ _ _ c.keep_mark.ensures (stays_at_hand KeepMark _ _ refl) c.self.invariant

pub returns : goal.returns
returns g c = plays _ c.self.inside.editor c.keep_mark.new.self _ _ KeepMark _ c.self.view_is c.keep_mark.ensures (stays_at_hand KeepMark _ _ refl)
