use Rattle.std.proofs.Common.{sym, ◌∙◌}
use Rattle.words.proofs.Parts.{length-parts}
use Rattle.words.proofs.snapshot.SnapshotStore.levels.Goals as goal

pub returns : goal.returns
returns c = c.from.ensures ∙ c.open_levels.ensures ∙ sym (length-parts _ _ _)
