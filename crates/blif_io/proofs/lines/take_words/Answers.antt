use Rattle.std.proofs.Common.{sym, subst, ap, ◌∙◌, ◌∷◌, [], Err, refl}
use Rattle.names.specs.Names.{spellings}
use Rattle.blif.specs.File.{at}
use Rattle.blif.specs.Form.{said}
use Rattle.blif.specs.Leaf.{FormOf, saying}
use Rattle.blif_io.specs.Taking.{met, before_of, Takes, Anything, Admits, Plays, claims_now, Shaped}
use Rattle.blif.specs.Calls.{edit_of}
use Rattle.std.specs.Prelude.{map}
use Rattle.std.proofs.lemmas.List.{length-map}
use Rattle.blif_io.proofs.LineSteps.{not_said, admit-stops, taken-line, stopped-line, shaped}
use Rattle.blif_io.proofs.lines.take_words.Goals as goal

pub returns-in-Err-clause-takes : goal.returns-in-Err-clause-takes
returns-in-Err-clause-takes g c r sound at-line is =
    subst (λ f. Takes c.args.desk.now.editor.signals c.args.desk.now (met c.args.names.now) (at (before_of c.args.before)) (r ∷ []) Anything c.args.desk.now c.args.names.now (Err f)) (sym c.form_error.ensures)
    (not_said c.args.desk.now.editor.signals c.args.desk.now c.args.desk.now c.args.names.now c.args.names.now (before_of c.args.before) (c.args.first.now.bytes.now ∷ spellings c.args.rest.now) r c.args.line sound at-line is c.in-Err.fault
    (subst (FormOf (spellings c.args.rest.now) (said (c.args.first.now.bytes.now ∷ spellings c.args.rest.now))) c.in-Err.is c.form_of.ensures) refl)

pub returns-in-Err-admit-clause-takes : goal.returns-in-Err-admit-clause-takes
returns-in-Err-admit-clause-takes g c r sound at-line is =
    admit-stops c.args.desk.now.editor.signals c.args.desk.now c.args.desk.now c.args.names.now c.admit.new.names (before_of c.args.before) (c.args.first.now.bytes.now ∷ spellings c.args.rest.now) r c.args.line sound at-line is
    (saying c.in-Ok.form (spellings c.args.rest.now)) c.in-Err-admit.fault c.signals-room.result (c.signals-room.ensures.count ∙ ap (λ e. e.signals) c.editor.ensures)
    (subst (FormOf (spellings c.args.rest.now) (said (c.args.first.now.bytes.now ∷ spellings c.args.rest.now))) c.in-Ok.is c.form_of.ensures)
    (subst (λ k. Admits c.signals-room.result (met c.args.names.now) (before_of c.args.before) (saying c.in-Ok.form (spellings c.args.rest.now)) (met c.admit.new.names) c.args.line k) c.in-Err-admit.is c.admit.ensures)

pub admit-requires : goal.admit-requires
admit-requires g c = let n = length-map c.args.rest.now (λ w. w.bytes.now) in subst (Shaped c.in-Ok.form) n (shaped c.args.first.now.bytes.now (spellings c.args.rest.now) c.in-Ok.form (subst (FormOf (spellings c.args.rest.now) (said (c.args.first.now.bytes.now ∷ spellings c.args.rest.now))) c.in-Ok.is c.form_of.ensures))

pub make_form-requires-clause-shaped : goal.make_form-requires-clause-shaped
make_form-requires-clause-shaped g c = let n = length-map c.args.rest.now (λ w. w.bytes.now) in subst (Shaped c.in-Ok.form) n (shaped c.args.first.now.bytes.now (spellings c.args.rest.now) c.in-Ok.form (subst (FormOf (spellings c.args.rest.now) (said (c.args.first.now.bytes.now ∷ spellings c.args.rest.now))) c.in-Ok.is c.form_of.ensures))

pub place_behind-requires : goal.place_behind-requires
place_behind-requires g c = let n = length-map c.args.rest.now (λ w. w.bytes.now) in subst (Shaped c.in-Ok.form) n (shaped c.args.first.now.bytes.now (spellings c.args.rest.now) c.in-Ok.form (subst (FormOf (spellings c.args.rest.now) (said (c.args.first.now.bytes.now ∷ spellings c.args.rest.now))) c.in-Ok.is c.form_of.ensures))

pub returns-in-Ok-make_form-clause-takes : goal.returns-in-Ok-make_form-clause-takes
returns-in-Ok-make_form-clause-takes g c r sound at-line is =
    taken-line c.args.desk.now.editor.signals c.args.desk.now c.make_form.new.desk c.args.names.now c.admit.new.names (before_of c.args.before) (c.args.first.now.bytes.now ∷ spellings c.args.rest.now) r c.args.line sound at-line is
    (saying c.in-Ok.form (spellings c.args.rest.now)) c.signals-room.result (c.signals-room.ensures.count ∙ ap (λ e. e.signals) c.editor.ensures)
    (subst (FormOf (spellings c.args.rest.now) (said (c.args.first.now.bytes.now ∷ spellings c.args.rest.now))) c.in-Ok.is c.form_of.ensures) c.in_default.field-0
    (subst (λ k. Admits c.signals-room.result (met c.args.names.now) (before_of c.args.before) (saying c.in-Ok.form (spellings c.args.rest.now)) (met c.admit.new.names) c.args.line k) c.in_default.is c.admit.ensures)
    c.place_behind.result c.in-Ok-make_form.count
    (subst (Plays c.args.desk.now (map (edit_of c.admit.new.names.signals) (claims_now (saying c.in-Ok.form (spellings c.args.rest.now)))) c.make_form.new.desk) c.in-Ok-make_form.is c.make_form.ensures.plays)
    c.place_behind.ensures

pub returns-in-Err-make_form-clause-takes : goal.returns-in-Err-make_form-clause-takes
returns-in-Err-make_form-clause-takes g c r sound at-line is =
    subst (λ f. Takes c.args.desk.now.editor.signals c.args.desk.now (met c.args.names.now) (at (before_of c.args.before)) (r ∷ []) Anything c.make_form.new.desk c.admit.new.names (Err f)) (sym c.editor_error.ensures)
    (stopped-line c.args.desk.now.editor.signals c.args.desk.now c.make_form.new.desk c.args.names.now c.admit.new.names (before_of c.args.before) (c.args.first.now.bytes.now ∷ spellings c.args.rest.now) r c.args.line sound at-line is
    (saying c.in-Ok.form (spellings c.args.rest.now)) c.signals-room.result (c.signals-room.ensures.count ∙ ap (λ e. e.signals) c.editor.ensures)
    (subst (FormOf (spellings c.args.rest.now) (said (c.args.first.now.bytes.now ∷ spellings c.args.rest.now))) c.in-Ok.is c.form_of.ensures) c.in_default.field-0
    (subst (λ k. Admits c.signals-room.result (met c.args.names.now) (before_of c.args.before) (saying c.in-Ok.form (spellings c.args.rest.now)) (met c.admit.new.names) c.args.line k) c.in_default.is c.admit.ensures)
    c.in-Err-make_form.refused
    (subst (Plays c.args.desk.now (map (edit_of c.admit.new.names.signals) (claims_now (saying c.in-Ok.form (spellings c.args.rest.now)))) c.make_form.new.desk) c.in-Err-make_form.is c.make_form.ensures.plays))
