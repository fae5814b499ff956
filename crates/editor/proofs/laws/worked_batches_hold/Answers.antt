use Rattle.editor.proofs.Batches.{worked_batches}
use Rattle.editor.proofs.laws.worked_batches_hold.Goals as goal

pub returns : goal.returns
returns c = worked_batches
