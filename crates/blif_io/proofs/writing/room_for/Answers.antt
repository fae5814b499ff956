use Rattle.blif.proofs.Short.{written_is_short}
use Rattle.blif_io.proofs.writing.room_for.Goals as goal

pub returns-clause-fits : goal.returns-clause-fits
returns-clause-fits c = written_is_short _
