use Rattle.std.proofs.Common.{subst, ◌∷◌, []}
use Rattle.blif.specs.Form.{statements}
use Rattle.blif.specs.File.{at}
use Rattle.blif_io.specs.Taking.{met, viewed, Takes, Uncovered, Anything}
use Rattle.blif_io.proofs.Running.{closed-stops, then-taken, then-stops, takes-signals}
use Rattle.blif_io.proofs.reader.take_behind_gate.Goals as goal

pub returns-in-Err-clause-takes : goal.returns-in-Err-clause-takes
returns-in-Err-clause-takes g c p h dot =
    closed-stops c.args.desk.now.editor.signals c.args.desk.now c.close_gate.new.desk c.close_gate.new.desk (met c.args.names.now) c.args.names.now c.args.names.now p (viewed c.args.line.now) dot c.in-Err.fault
    (subst (Takes c.args.desk.now.editor.signals c.args.desk.now (met c.args.names.now) p [] Uncovered c.close_gate.new.desk c.args.names.now) c.in-Err.is (c.close_gate.ensures.takes c.args.desk.now.editor.signals p h))

pub returns-in-Ok-take_line-clause-takes : goal.returns-in-Ok-take_line-clause-takes
returns-in-Ok-take_line-clause-takes g c p h dot =
    let closed = subst (Takes c.args.desk.now.editor.signals c.args.desk.now (met c.args.names.now) p [] Uncovered c.close_gate.new.desk c.args.names.now) c.in-Ok.is (c.close_gate.ensures.takes c.args.desk.now.editor.signals p h) in
    then-taken c.args.desk.now.editor.signals c.args.desk.now c.close_gate.new.desk c.take_line.new.desk (met c.args.names.now) c.args.names.now c.take_line.new.names p (viewed c.args.line.now) dot c.in-Ok.step c.in-Ok.ensures.place closed c.in-Ok-take_line.step
    (subst (Takes c.close_gate.new.desk.editor.signals c.close_gate.new.desk (met c.args.names.now) (at statements) (viewed c.args.line.now ∷ []) Anything c.take_line.new.desk c.take_line.new.names) c.in-Ok-take_line.is c.take_line.ensures.takes)
    (takes-signals c.args.desk.now.editor.signals c.args.desk.now c.close_gate.new.desk (met c.args.names.now) p [] Uncovered c.args.names.now c.in-Ok.step closed)

pub returns-in-Err-take_line-clause-takes : goal.returns-in-Err-take_line-clause-takes
returns-in-Err-take_line-clause-takes g c p h dot =
    let closed = subst (Takes c.args.desk.now.editor.signals c.args.desk.now (met c.args.names.now) p [] Uncovered c.close_gate.new.desk c.args.names.now) c.in-Ok.is (c.close_gate.ensures.takes c.args.desk.now.editor.signals p h) in
    then-stops c.args.desk.now.editor.signals c.args.desk.now c.close_gate.new.desk c.take_line.new.desk (met c.args.names.now) c.args.names.now c.take_line.new.names p (viewed c.args.line.now) dot c.in-Ok.step c.in-Ok.ensures.place closed c.in-Err-take_line.fault
    (subst (Takes c.close_gate.new.desk.editor.signals c.close_gate.new.desk (met c.args.names.now) (at statements) (viewed c.args.line.now ∷ []) Anything c.take_line.new.desk c.take_line.new.names) c.in-Err-take_line.is c.take_line.ensures.takes)
    (takes-signals c.args.desk.now.editor.signals c.args.desk.now c.close_gate.new.desk (met c.args.names.now) p [] Uncovered c.args.names.now c.in-Ok.step closed)
