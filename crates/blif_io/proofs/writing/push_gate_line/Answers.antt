use Rattle.blif_io.proofs.Pushing.{word_line, more_words}
use Rattle.blif_io.proofs.writing.push_gate_line.Goals as goal

pub returns : goal.returns
returns c =
    word_line _ _ _ _ _ _ c.in_ok-extend_from_slice.ensures.items (more_words _ _ _ _ _ c.in_ok-push_signals.ensures c.in_ok-push_signals-2.ensures) c.in_ok-push.ensures.items
