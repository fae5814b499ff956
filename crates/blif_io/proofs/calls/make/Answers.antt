use Rattle.std.proofs.Common.{Ok, Err, refl}
use Rattle.blif_io.proofs.calls.make.Goals as goal

pub returns-in-Ok-clause-plays : goal.returns-in-Ok-clause-plays
returns-in-Ok-clause-plays g c = (Ok c.in-Ok.count, c.in-Ok.ensures.plays, refl)

pub returns-in-Err-clause-plays : goal.returns-in-Err-clause-plays
returns-in-Err-clause-plays g c = (Err c.in-Err.refusal, c.in-Err.ensures.plays, (refl, c.signal.ensures))
