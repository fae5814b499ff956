use Rattle.editor.proofs.Untold.{tells_nothing}
use Rattle.editor.proofs.laws.no_signals_tell_nothing.Goals as goal

pub returns : goal.returns
returns c = tells_nothing
