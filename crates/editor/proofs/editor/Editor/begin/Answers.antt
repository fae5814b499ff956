use Rattle.std.proofs.Common.{Ok, Err, sym, ap, ◌∙◌, subst}
use Rattle.std.proofs.lemmas.Result.{err_from_is_err_and}
use Rattle.editor.specs.declared.call.Call.TheVariants.{Begin}
use Rattle.editor.specs.State.{state_of}
use Rattle.editor.specs.Steps.{Called, begun}
use Rattle.editor.proofs.Calling.{called_by, reached_by}
use Rattle.editor.proofs.editor.Editor.begin.Goals as goal

pub invariant_of-self : goal.invariant_of-self
invariant_of-self g c =
    let opened = c.in_err-open_batch.ensures in
    reached_by _ _ Begin (Err c.in_err-open_batch.field-0.0) c.self.invariant tt c.in_ok-serves.ensures (λ two _. opened.replies c.self.inside.board.signals two) opened.stays

pub invariant_of-self-2 : goal.invariant_of-self-2
invariant_of-self-2 g c =
    let opened = c.in_ok-open_batch.ensures in
    reached_by _ _ Begin (Ok 0) c.self.invariant tt c.in_ok-serves.ensures (λ two _. opened.replies c.self.inside.board.signals two) opened.stays

pub returns-in_err-open_batch : goal.returns-in_err-open_batch
returns-in_err-open_batch g c =
    let opened = c.in_err-open_batch.ensures in
    let (e, is, same) = err_from_is_err_and c.from_residual-in_err-open_batch.result c.from_residual-in_err-open_batch.ensures.1 in
    subst (λ r. Called c.args.self.now Begin (state_of c.open_batch.new.board c.self.inside.shown) (begun r)) (sym (is ∙ ap Err same))
    (called_by _ _ _ _ Begin (Err c.in_err-open_batch.field-0.0) c.self.view_is c.self.invariant tt c.in_ok-serves.ensures (λ two _. opened.replies c.self.inside.board.signals two) opened.stays)

pub returns : goal.returns
returns g c =
    let opened = c.in_ok-open_batch.ensures in
    called_by _ _ _ _ Begin (Ok 0) c.self.view_is c.self.invariant tt c.in_ok-serves.ensures (λ two _. opened.replies c.self.inside.board.signals two) opened.stays
