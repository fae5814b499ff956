use Rattle.std.proofs.Common.{refl, sym, subst, ap, ◌∙◌, ◌∷◌, [], Err}
use Rattle.names.specs.Names.{spellings}
use Rattle.blif_io.specs.Taking.{met, viewed, Takes, TakesCover, Anything}
use Rattle.blif_io.proofs.LineSteps.{words_viewed}
use Rattle.blif_io.proofs.Running.{cover-refused, cover-taken}
use Rattle.blif_io.proofs.reader.take_cover_line.Goals as goal

pub returns-in-Ok-clause-plain : goal.returns-in-Ok-clause-plain
returns-in-Ok-clause-plain c m d names p h plain =
    cover-taken m d names c.args.gate p h (viewed c.args.line.now) plain refl (spellings c.as_slice.result.now) (words_viewed c.args.line.now.words.items ∙ ap spellings (sym c.as_slice.ensures.value)) c.in-Ok.gate
    (subst (TakesCover c.args.gate h.2 (spellings c.as_slice.result.now)) c.in-Ok.is (c.take_cover.ensures h.2 h.7))

pub returns-in-Err-clause-plain : goal.returns-in-Err-clause-plain
returns-in-Err-clause-plain c m d names p h plain =
    subst (λ f. Takes m d (met names) p (viewed c.args.line.now ∷ []) Anything d names (Err f)) (sym c.form_error.ensures)
    (cover-refused m d names c.args.gate p h (viewed c.args.line.now) plain refl (spellings c.as_slice.result.now) (words_viewed c.args.line.now.words.items ∙ ap spellings (sym c.as_slice.ensures.value)) c.in-Err.fault
    (subst (TakesCover c.args.gate h.2 (spellings c.as_slice.result.now)) c.in-Err.is (c.take_cover.ensures h.2 h.7)))
