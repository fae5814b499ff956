use Rattle.std.proofs.Common.{map, Ok, Err, ◌∙◌}
use Rattle.std.proofs.lemmas.Result.{err_from_is_err_and}
use Rattle.table.specs.declared.fault.ReadFault.TheVariants.{OfLine}
use Rattle.table.specs.Reading.{line_of}
use Rattle.table.proofs.Exact.{reads_table}
use Rattle.table.proofs.Whole.{taken-stops, taken-all}
use Rattle.table.proofs.reading.read.Goals as goal

pub returns-in_err-line : goal.returns-in_err-line
returns-in_err-line c =
    let p = err_from_is_err_and c.from_residual-in_err-line.result c.from_residual-in_err-line.ensures.1 in
    let told = c.in_err-line.ensures in
    let inv = c.loop-line.invariant in
    let lines = c.args.lines.now in
    let fault = c.in_err-line.field-0.0 in
    let stops = taken-stops line_of lines c.args.pins c.loop-line.line-index c.loop-line.cover inv _ c.line.new.self.listed.pins fault c.loop-line-test.true told.same.0 (told.takes _ inv.read) in
    rw (p.1, p.2) (record { reads = (inv.few, stops); back = reads_table c.args.pins (map line_of lines) (Err (OfLine fault)) (inv.few, stops) })

pub returns : goal.returns
returns c =
    let inv = c.loop-line.invariant in
    let told = c.table.ensures in
    let lines = c.args.lines.now in
    let gives = taken-all line_of lines c.args.pins c.loop-line.line-index c.loop-line.cover inv c.table.result.bits c.loop-line-test.false told.gives in
    let same = told.pins ∙ inv.same in
    record { reads = (inv.few, same, gives); back = reads_table c.args.pins (map line_of lines) (Ok c.table.result) (inv.few, same, gives) }
