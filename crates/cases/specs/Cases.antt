-- The worked cases of edits, covers, names, batches and marks, as one statement.
use Rattle.netlist.specs.Laws.{Worked}
use Rattle.table.specs.Laws.{Examples}
use Rattle.text.specs.Standing.{NameLengths}
use Rattle.editor.specs.Laws.{WorkedBatches}

pub record WorkedCases : Type 0 where
  pub edits : Worked
  pub covers : Examples
  pub names : NameLengths
  pub batches : WorkedBatches
