use Rattle.table.proofs.Ones.{reads-back}
use Rattle.table.proofs.laws.reads_back.Goals as goal

pub returns : goal.returns
returns c = reads-back
