use Rattle.std.proofs.Common.{sym, subst, ap, ◌∙◌, [], Err}
use Rattle.blif_io.specs.declared.place.Place.TheVariants as here
use Rattle.blif_io.specs.Taking.{met, before_of, Stands, Takes, Uncovered}
use Rattle.blif_io.specs.Reader.{Finishes}
use Rattle.blif_io.proofs.Running.{ended-well, begun-only, not_ended, closed-late, closing-stops}
use Rattle.blif_io.proofs.reader.finish.Goals as goal

pub returns-in-Ended-clause-ends : goal.returns-in-Ended-clause-ends
returns-in-Ended-clause-ends g c m p h =
    ended-well m c.args.desk.now c.args.names.now p (subst (λ q. Stands c.args.names.now.signals q p) (c.in-At.is ∙ ap here.At c.in-Ended.is) h)

pub returns-in-Nothing-clause-ends : goal.returns-in-Nothing-clause-ends
returns-in-Nothing-clause-ends g c m p h =
    subst (λ f. Finishes m c.args.desk.now (met c.args.names.now) p c.args.desk.now (Err f)) (sym c.form_error.ensures)
    (begun-only m c.args.desk.now c.args.names.now p (before_of c.in-At.before) (subst (λ q. Stands c.args.names.now.signals q p) c.in-At.is h) (not_ended c.in-At.before c.in-Nothing.is))

pub returns-in-Ok-clause-ends : goal.returns-in-Ok-clause-ends
returns-in-Ok-clause-ends g c m p h =
    subst (λ f. Finishes m c.args.desk.now (met c.args.names.now) p c.close_gate.new.desk (Err f)) (sym c.form_error-in-Ok.ensures)
    (closed-late m c.args.desk.now c.close_gate.new.desk c.args.names.now p c.in-Ok.field-0 c.in-Ok.ensures.place
    (subst (Takes m c.args.desk.now (met c.args.names.now) p [] Uncovered c.close_gate.new.desk c.args.names.now) c.in-Ok.is (c.close_gate.ensures.takes m p (subst (λ q. Stands c.args.names.now.signals q p) c.in-Covering.is h))))

pub returns-in-Err-clause-ends : goal.returns-in-Err-clause-ends
returns-in-Err-clause-ends g c m p h =
    closing-stops m c.args.desk.now c.close_gate.new.desk c.args.names.now p c.in-Err.fault
    (subst (Takes m c.args.desk.now (met c.args.names.now) p [] Uncovered c.close_gate.new.desk c.args.names.now) c.in-Err.is (c.close_gate.ensures.takes m p (subst (λ q. Stands c.args.names.now.signals q p) c.in-Covering.is h)))
