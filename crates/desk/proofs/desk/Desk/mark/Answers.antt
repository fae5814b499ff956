use Rattle.std.proofs.Common.{refl}
use Rattle.editor.specs.declared.call.Call.TheVariants.{Mark}
use Rattle.desk.proofs.Holding.{backed_after}
use Rattle.desk.proofs.Playing.{plays, stays_at_hand}
use Rattle.desk.proofs.desk.Desk.mark.Goals as goal

pub invariant_of-self : goal.invariant_of-self
invariant_of-self g c = backed_after _ _ Mark _ _ _ c.mark.ensures (stays_at_hand Mark _ _ refl) c.self.invariant

pub returns : goal.returns
returns g c = plays _ c.self.inside.editor c.mark.new.self _ _ Mark _ c.self.view_is c.mark.ensures (stays_at_hand Mark _ _ refl)
