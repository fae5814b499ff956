use Rattle.std.proofs.Common.{◌∙◌, refl, sym, subst}
use Rattle.editor.specs.declared.call.Call.TheVariants.{Drop}
use Rattle.editor.specs.Calls.{RefusedWith}
use Rattle.desk.specs.Held.{Backed}
use Rattle.desk.proofs.Returning.{refused_there, back_at_hand, told, told_of, unchanged}
use Rattle.desk.proofs.Ticketless.{drop_from_ten}
use Rattle.desk.proofs.desk.Desk.drop_at.Goals as goal

pub invariant_of-self-2 : goal.invariant_of-self-2
invariant_of-self-2 g c =
    let refused = refused_there _ _ Drop _ _ tt (λ z. (refl, z)) (drop_from_ten c.other.inside.editor.signals c.other.inside.editor.words) c.if-is_some.ensures c.drop_batch.ensures.called c.other.invariant in
    let same = back_at_hand _ _ _ _ c.in_ok-ticket.ticket refused.0 c.drop_batch.ensures.back c.in_ok-ticket.ensures.value c.closed.ensures.hand in
    subst (Backed c.self.inside.editor.signals c.self.inside.editor.words) (sym same) c.self.invariant

pub returns-clause-own : goal.returns-clause-own
returns-clause-own g c =
    let refused = refused_there _ _ Drop _ _ tt (λ z. (refl, z)) (drop_from_ten c.other.inside.editor.signals c.other.inside.editor.words) c.if-is_some.ensures c.drop_batch.ensures.called c.other.invariant in
    unchanged _ _ _ c.self.view_is (back_at_hand _ _ _ _ c.in_ok-ticket.ticket refused.0 c.drop_batch.ensures.back c.in_ok-ticket.ensures.value c.closed.ensures.hand)

pub returns-clause-told : goal.returns-clause-told
returns-clause-told g c =
    let refused = refused_there _ _ Drop _ _ tt (λ z. (refl, z)) (drop_from_ten c.other.inside.editor.signals c.other.inside.editor.words) c.if-is_some.ensures c.drop_batch.ensures.called c.other.invariant in
    told _ _ _ c.err.ensures.value (subst (RefusedWith _) (sym c.closed.ensures.reply) refused.0) ∙ told_of _ _ _ _ c.in_ok-ticket.ticket c.self.view_is c.other.view_is c.in_ok-ticket.ensures.value c.if-is_some.ensures
