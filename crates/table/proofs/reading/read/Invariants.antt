use Rattle.table.specs.Reading.{line_of}
use Rattle.table.proofs.Whole.{Taken}
use Rattle.table.proofs.reading.read.Given as goal

abbrev pub invariant-loop-line : goal.invariant-loop-line
invariant-loop-line l = Taken line_of l.lines l.pins l.line-index l.cover
