use Rattle.std.proofs.Common.{refl}
use Rattle.blif.proofs.Keeping.{reads_keep_names}
use Rattle.blif.proofs.laws.names_stay_readable.Goals as goal

pub returns : goal.returns
returns c = record { keeps = reads_keep_names; new = record { words = refl; model = refl } }
