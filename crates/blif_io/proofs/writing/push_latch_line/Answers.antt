use Rattle.std.proofs.Common.{◌∷◌, [], map}
use Rattle.std.specs.Prelude.{◌+◌}
use Rattle.blif.specs.Description.{name_of}
use Rattle.blif_io.proofs.Pushing.{word_line, more_words, one_byte}
use Rattle.blif_io.proofs.writing.push_latch_line.Goals as goal

pub returns : goal.returns
returns c =
    let f = name_of c.args.names.now.signals in
    let nets = map f c.args.nets.now in
    word_line _ _ _ _ _ _ c.in_ok-extend_from_slice.ensures.items
    (more_words _ _ _ nets (f c.args.signal ∷ ((48 + c.args.start) ∷ []) ∷ []) c.in_ok-push_signals.ensures
    (more_words _ _ _ (f c.args.signal ∷ []) (((48 + c.args.start) ∷ []) ∷ []) c.in_ok-push_signals-2.ensures (one_byte _ _ _ _ _ c.in_ok-push.ensures.items c.in_ok-push-2.ensures.items c.start_digit.ensures)))
    c.in_ok-push-3.ensures.items
