use Rattle.blif.proofs.Exporting.{writes_read_back}
use Rattle.blif.proofs.laws.writes_read_back.Goals as goal

pub returns : goal.returns
returns c = writes_read_back
