use Rattle.blif_io.proofs.Pushing.{word_line}
use Rattle.blif_io.proofs.spell.push_line.Goals as goal

pub returns : goal.returns
returns c = word_line _ _ _ _ _ _ c.in_ok-extend_from_slice.ensures.items c.in_ok-push_words.ensures c.in_ok-push.ensures.items
