use Rattle.std.proofs.Common.{sym, subst, ◌∷◌, [], Err, refl}
use Rattle.blif.specs.declared.fault.FormFault.TheVariants.{UnknownWord}
use Rattle.blif.specs.File.{at}
use Rattle.blif_io.specs.Taking.{met, viewed, before_of, Takes, Anything}
use Rattle.blif_io.proofs.LineSteps.{not_said, first_word, no_words}
use Rattle.blif_io.proofs.lines.take_line.Goals as goal

pub returns-in-empty-clause-takes : goal.returns-in-empty-clause-takes
returns-in-empty-clause-takes g c =
    subst (λ f. Takes c.args.desk.now.editor.signals c.args.desk.now (met c.args.names.now) (at (before_of c.args.before)) (viewed c.args.line.now ∷ []) Anything c.args.desk.now c.args.names.now (Err f)) (sym c.form_error.ensures)
    (not_said c.args.desk.now.editor.signals c.args.desk.now c.args.desk.now c.args.names.now c.args.names.now (before_of c.args.before) [] (viewed c.args.line.now) c.args.line.now.number refl refl
    (no_words c.args.line.now.words.items c.as_slice.result.now c.as_slice.ensures.value c.in-empty.len_below) UnknownWord refl refl)

pub returns-in-len1-up-clause-takes : goal.returns-in-len1-up-clause-takes
returns-in-len1-up-clause-takes g c =
    c.take_words.ensures.takes (viewed c.args.line.now) refl refl (first_word c.args.line.now.words.items c.as_slice.result.now _ c.as_slice.ensures.value c.in-len1-up.len_at_least)
