use Rattle.std.proofs.Common.{Err, vec_items, sym, ap, ◌∙◌, subst}
use Rattle.std.proofs.lemmas.Result.{err_from_is_err_and}
use Rattle.text.specs.Lines.{contents, Reads}
use Rattle.text.specs.Ahead.{ahead}
use Rattle.text.proofs.Whole.{reads_fault, reads_unkept, reads_more, gives_some}
use Rattle.text.proofs.reader.read_lines.Goals as goal

pub returns-in_err-line : goal.returns-in_err-line
returns-in_err-line g c =
    let p = err_from_is_err_and c.from_residual.result c.from_residual.ensures.1 in
    let whole = contents g.T.Text.rules c.args.limit c.args.text.now in
    subst (Reads whole) (sym (p.1 ∙ ap Err p.2)) (reads_fault whole _ _ (vec_items c.loop-all.all) c.loop-all.invariant _ c.in_err-line.ensures.gives)

pub returns-in_err-push : goal.returns-in_err-push
returns-in_err-push g c =
    let k = g.T.Text.rules in
    let whole = contents k c.args.limit c.args.text.now in
    let old = ahead k c.loop-all.reader in
    let new = ahead k c.next_line.new.self in
    let gave = gives_some old new c.in_ok-line.field-0 c.in-Some.line c.in-Some.is c.in_ok-line.ensures.gives in
    let p = err_from_is_err_and c.from_residual-in_err-push.result c.from_residual-in_err-push.ensures.1 in
    subst (Reads whole) (sym (p.1 ∙ ap Err p.2)) (reads_unkept whole old new (vec_items c.loop-all.all) c.in-Some.line c.loop-all.invariant gave)

pub loop-all-preserved : goal.loop-all-preserved
loop-all-preserved g c =
    let k = g.T.Text.rules in
    let old = ahead k c.loop-all.reader in
    let new = ahead k c.next_line.new.self in
    let gave = gives_some old new c.in_ok-line.field-0 c.in-Some.line c.in-Some.is c.in_ok-line.ensures.gives in
    reads_more _ old new (vec_items c.loop-all.all) _ c.in-Some.line c.loop-all.invariant gave c.in_ok-push.ensures.items
