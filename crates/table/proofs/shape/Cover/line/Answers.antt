use Rattle.std.proofs.Common.{inr}
use Rattle.std.proofs.lemmas.Result.{err_from_is_err_and}
use Rattle.table.specs.Reading.{line_of}
use Rattle.table.proofs.shape.Cover.line.Goals as goal

pub returns-in_err-self-clause-takes : goal.returns-in_err-self-clause-takes
returns-in_err-self-clause-takes c =
    let p = err_from_is_err_and c.from_residual-in_err-self.result c.from_residual-in_err-self.ensures.1 in
    let stands = c.in_ok-row.ensures in
    rw (p.1, p.2) (λ lines read.
    let joins = c.in_err-self.ensures.joins lines (line_of c.args.line) read stands in
    inr (joins.0, stands.formed, joins.1))
