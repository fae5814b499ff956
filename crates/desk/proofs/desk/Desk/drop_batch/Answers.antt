use Rattle.std.proofs.Common.{sym, subst}
use Rattle.editor.specs.declared.call.Call.TheVariants.{Drop}
use Rattle.desk.proofs.Holding.{backed_after}
use Rattle.desk.proofs.Playing.{plays, closed_at_hand, drops_without}
use Rattle.desk.specs.Plays.{Plays}
use Rattle.desk.proofs.desk.Desk.drop_batch.Goals as goal

pub invariant_of-self-in-Some : goal.invariant_of-self-in-Some
invariant_of-self-in-Some g c =
    backed_after _ _ Drop _ _ _ c.drop_batch.ensures.called
    (closed_at_hand Drop _ _ c.in-Some.ticket _ (λ some none. (some, none)) c.in-Some.ensures.value c.closed.ensures.hand c.drop_batch.ensures.back)
    c.self.invariant

pub returns-in-None-clause-plays : goal.returns-in-None-clause-plays
returns-in-None-clause-plays g c =
    drops_without _ _ _ _ c.self.view_is c.in-None.ensures.value c.in-None.ensures.after c.no_ticket.ensures.reply c.no_ticket.ensures.order c.self.invariant

pub returns-in-Some-clause-plays : goal.returns-in-Some-clause-plays
returns-in-Some-clause-plays g c =
    subst (Plays _ Drop _) (sym c.closed.ensures.reply)
    (plays _ c.self.inside.editor c.drop_batch.new.self _ _ Drop _ c.self.view_is c.drop_batch.ensures.called
    (closed_at_hand Drop _ _ c.in-Some.ticket _ (λ some none. (some, none)) c.in-Some.ensures.value c.closed.ensures.hand c.drop_batch.ensures.back))
