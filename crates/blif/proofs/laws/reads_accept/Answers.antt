use Rattle.blif.proofs.Agreeing.{reads_accept}
use Rattle.blif.proofs.laws.reads_accept.Goals as goal

pub returns : goal.returns
returns c = reads_accept
