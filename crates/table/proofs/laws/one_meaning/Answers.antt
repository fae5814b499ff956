use Rattle.table.proofs.Ones.{means_one_table}
use Rattle.table.proofs.laws.one_meaning.Goals as goal

pub returns : goal.returns
returns c = means_one_table
