use Rattle.std.proofs.Common.{sym, ◌∙◌}
use Rattle.words.proofs.Undoing.{length-pile}
use Rattle.words.proofs.inverse_log.InverseLogStore.levels.Goals as goal

pub returns : goal.returns
returns c = c.len.ensures.value ∙ sym (length-pile _ _ _ _ _)
