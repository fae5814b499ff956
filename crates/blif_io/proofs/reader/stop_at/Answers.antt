use Rattle.std.proofs.Common.{sym, ap, subst, ◌∙◌, [], Err}
use Rattle.blif.specs.declared.fault.FileFault.TheVariants.{Text}
use Rattle.blif.specs.Form.{statements}
use Rattle.blif.specs.Rows.{dotted}
use Rattle.blif_io.specs.Taking.{met, before_of, Stands, Takes, Uncovered}
use Rattle.blif_io.proofs.LineSteps.{wrong_text}
use Rattle.blif_io.proofs.Running.{at-row, cover-wrong, closed-stops, then-stops, takes-signals}
use Rattle.blif_io.proofs.reader.stop_at.Goals as goal

pub returns-in-At-clause-takes : goal.returns-in-At-clause-takes
returns-in-At-clause-takes g c p r h e =
    at-row c.args.desk.now.editor.signals c.args.desk.now c.args.desk.now (met c.args.names.now) r c.args.names.now c.args.names.now c.args.place c.in-At.field-0 p (Err (Text c.args.fault)) c.in-At.is h
    (wrong_text c.args.desk.now.editor.signals c.args.desk.now c.args.names.now (before_of c.in-At.field-0) r c.args.fault e)

pub returns-in-Ok-clause-takes : goal.returns-in-Ok-clause-takes
returns-in-Ok-clause-takes g c p r h e =
    let dot = ap dotted e.first ∙ sym c.fault_is_dotted.ensures ∙ c.if-fault_is_dotted.true in
    let closed = subst (Takes c.args.desk.now.editor.signals c.args.desk.now (met c.args.names.now) p [] Uncovered c.close_gate.new.desk c.args.names.now) c.in-Ok.is (c.close_gate.ensures.takes c.args.desk.now.editor.signals p (subst (λ q. Stands c.args.names.now.signals q p) c.in-Covering.is h)) in
    then-stops c.args.desk.now.editor.signals c.args.desk.now c.close_gate.new.desk c.close_gate.new.desk (met c.args.names.now) c.args.names.now c.args.names.now p r dot c.in-Ok.field-0 c.in-Ok.ensures.place closed (Text c.args.fault)
    (wrong_text c.close_gate.new.desk.editor.signals c.close_gate.new.desk c.args.names.now statements r c.args.fault e)
    (takes-signals c.args.desk.now.editor.signals c.args.desk.now c.close_gate.new.desk (met c.args.names.now) p [] Uncovered c.args.names.now c.in-Ok.field-0 closed)

pub returns-in-Err-clause-takes : goal.returns-in-Err-clause-takes
returns-in-Err-clause-takes g c p r h e =
    let dot = ap dotted e.first ∙ sym c.fault_is_dotted.ensures ∙ c.if-fault_is_dotted.true in
    closed-stops c.args.desk.now.editor.signals c.args.desk.now c.close_gate.new.desk c.close_gate.new.desk (met c.args.names.now) c.args.names.now c.args.names.now p r dot c.in-Err.refused
    (subst (Takes c.args.desk.now.editor.signals c.args.desk.now (met c.args.names.now) p [] Uncovered c.close_gate.new.desk c.args.names.now) c.in-Err.is (c.close_gate.ensures.takes c.args.desk.now.editor.signals p (subst (λ q. Stands c.args.names.now.signals q p) c.in-Covering.is h)))

pub returns-else-fault_is_dotted-clause-takes : goal.returns-else-fault_is_dotted-clause-takes
returns-else-fault_is_dotted-clause-takes g c p r h e =
    cover-wrong c.args.desk.now.editor.signals c.args.desk.now c.args.names.now c.in-Covering.gate p (subst (λ q. Stands c.args.names.now.signals q p) c.in-Covering.is h) r
    (ap dotted e.first ∙ sym c.fault_is_dotted.ensures ∙ c.if-fault_is_dotted.false) c.args.fault e
