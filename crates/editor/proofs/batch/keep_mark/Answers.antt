use Rattle.std.proofs.Common.{Err, sym, refl, ap, ◌∙◌, subst}
use Rattle.std.proofs.lemmas.Result.{err_from_is_err_and}
use Rattle.editor.specs.declared.call.Call.TheVariants.{KeepMark}
use Rattle.editor.specs.Calls.{Replies}
use Rattle.editor.specs.Plain.{plain}
use Rattle.editor.proofs.batch.keep_mark.Goals as goal

pub returns-in_err-check_mark-clause-replies : goal.returns-in_err-check_mark-clause-replies
returns-in_err-check_mark-clause-replies g c = λ m.
    let a = c.args.board.now.words in
    let (e, is, same) = err_from_is_err_and c.from_residual.result c.from_residual.ensures.1 in
    let h = c.in_err-check_mark.ensures m in
    subst (λ r. Replies m a KeepMark a (plain r)) (sym (is ∙ ap Err same)) (h.0, h.1, refl)
