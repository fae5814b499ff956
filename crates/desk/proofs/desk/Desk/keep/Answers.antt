use Rattle.std.proofs.Common.{sym, subst}
use Rattle.editor.specs.declared.call.Call.TheVariants.{Keep}
use Rattle.editor.specs.Steps.{Called}
use Rattle.editor.proofs.Calling.{plain_whole}
use Rattle.desk.proofs.Holding.{backed_after}
use Rattle.desk.proofs.Playing.{plays, closed_at_hand, keeps_without}
use Rattle.desk.specs.Plays.{Plays}
use Rattle.desk.proofs.desk.Desk.keep.Goals as goal

pub invariant_of-self-in-Some : goal.invariant_of-self-in-Some
invariant_of-self-in-Some g c =
    backed_after _ _ Keep _ _ _ c.keep.ensures.called
    (closed_at_hand Keep _ _ c.in-Some.ticket _ (λ some none. (some, none)) c.in-Some.ensures.value c.closed.ensures.hand c.keep.ensures.back)
    c.self.invariant

pub returns-in-None-clause-plays : goal.returns-in-None-clause-plays
returns-in-None-clause-plays g c =
    keeps_without _ _ _ _ c.self.view_is c.in-None.ensures.value c.in-None.ensures.after c.no_ticket.ensures.reply c.no_ticket.ensures.order c.self.invariant

pub returns-in-Some-clause-plays : goal.returns-in-Some-clause-plays
returns-in-Some-clause-plays g c =
    subst (Plays _ Keep _) (sym c.closed.ensures.reply)
    (plays _ c.self.inside.editor c.keep.new.self _ _ Keep _ c.self.view_is c.keep.ensures.called
    (closed_at_hand Keep _ _ c.in-Some.ticket _ (λ some none. (some, none)) c.in-Some.ensures.value c.closed.ensures.hand c.keep.ensures.back))

pub returns-in-Some-clause-whole : goal.returns-in-Some-clause-whole
returns-in-Some-clause-whole g c =
    let e = c.self.inside.editor in
    let e' = c.keep.new.self in
    plain_whole e e' c.closed.result (subst (Called e Keep e') (sym c.closed.ensures.reply) c.keep.ensures.called)
