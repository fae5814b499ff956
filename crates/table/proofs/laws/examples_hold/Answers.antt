use Rattle.table.proofs.Samples.{examples}
use Rattle.table.proofs.laws.examples_hold.Goals as goal

pub returns : goal.returns
returns c = examples
