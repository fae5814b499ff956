use Rattle.std.proofs.Common.{sym, subst, ◌∷◌, [], Ok, Err, arith}
use Rattle.text.specs.Rules.{file_rules}
use Rattle.text.specs.Lines.{rest, Gives}
use Rattle.text.specs.Ahead.{ahead}
use Rattle.text.proofs.Whole.{gives_some}
use Rattle.blif.specs.Rows.{FaultOf}
use Rattle.blif_io.specs.Taking.{met, viewed, Takes, Anything}
use Rattle.blif_io.specs.Reader.{Finishes}
use Rattle.blif_io.proofs.Running.{few_words, line-few, count-few, run-more, run-refused, run-fault, run-short, run-ends, run-fails}
use Rattle.blif_io.proofs.reader.take_lines.Goals as goal

pub take_next-requires : goal.take_next-requires
take_next-requires g c =
    line-few c.args.desk.now c.lines.desk c.lines.desk (met c.args.names.now) (rest file_rules c.args.text.now 0 1) (ahead file_rules c.lines.reader) (ahead file_rules c.next_line.new.self) c.lines.total c.lines.place c.lines.names c.lines.names c.lines.invariant.0 c.in-Ok-Some.line
    (gives_some (ahead file_rules c.lines.reader) (ahead file_rules c.next_line.new.self) c.in-Ok-Some.field-0 c.in-Ok-Some.line c.in-Ok-Some.field-0-is c.in-Ok-Some.ensures.gives) (few_words c.args.limit c.args.text.now c.requires).1

pub overflow_add-total : goal.overflow_add-total
overflow_add-total g c =
    let few = count-few c.args.desk.now c.lines.desk c.take_next.new.desk (met c.args.names.now) (rest file_rules c.args.text.now 0 1) (ahead file_rules c.lines.reader) (ahead file_rules c.next_line.new.self) c.lines.total c.lines.place c.lines.names c.take_next.new.names c.lines.invariant.0 c.in-Ok-Some.line
    (gives_some (ahead file_rules c.lines.reader) (ahead file_rules c.next_line.new.self) c.in-Ok-Some.field-0 c.in-Ok-Some.line c.in-Ok-Some.field-0-is c.in-Ok-Some.ensures.gives) (few_words c.args.limit c.args.text.now c.requires).1 c.in-Ok.step.count c.in-Ok.ensures.small in
    omega (arith, few)

pub lines-preserved : goal.lines-preserved
lines-preserved g c = (
  run-more c.args.desk.now c.lines.desk c.take_next.new.desk (met c.args.names.now) (rest file_rules c.args.text.now 0 1) (ahead file_rules c.lines.reader) (ahead file_rules c.next_line.new.self) c.lines.total c.lines.place c.lines.names c.take_next.new.names c.lines.invariant.0 c.in-Ok-Some.line
      (gives_some (ahead file_rules c.lines.reader) (ahead file_rules c.next_line.new.self) c.in-Ok-Some.field-0 c.in-Ok-Some.line c.in-Ok-Some.field-0-is c.in-Ok-Some.ensures.gives) c.in-Ok.step (subst (Takes c.lines.desk.editor.signals c.lines.desk (met c.lines.names) c.lines.invariant.0.point (viewed c.in-Ok-Some.line ∷ []) Anything c.take_next.new.desk c.take_next.new.names) c.in-Ok.is (c.take_next.ensures.takes c.lines.invariant.0.point c.lines.invariant.0.stands)) c.in-Ok.ensures.small,
  λ h. c.in-Ok.ensures.clean (c.lines.invariant.1 h),
)

pub returns-in-Err-clause-reads : goal.returns-in-Err-clause-reads
returns-in-Err-clause-reads g c =
    run-refused c.args.desk.now c.lines.desk c.take_next.new.desk (met c.args.names.now) (rest file_rules c.args.text.now 0 1) (ahead file_rules c.lines.reader) (ahead file_rules c.next_line.new.self) c.lines.total c.lines.place c.lines.names c.take_next.new.names c.lines.invariant.0 c.in-Ok-Some.line
    (gives_some (ahead file_rules c.lines.reader) (ahead file_rules c.next_line.new.self) c.in-Ok-Some.field-0 c.in-Ok-Some.line c.in-Ok-Some.field-0-is c.in-Ok-Some.ensures.gives) c.in-Err.fault (subst (Takes c.lines.desk.editor.signals c.lines.desk (met c.lines.names) c.lines.invariant.0.point (viewed c.in-Ok-Some.line ∷ []) Anything c.take_next.new.desk c.take_next.new.names) c.in-Err.is (c.take_next.ensures.takes c.lines.invariant.0.point c.lines.invariant.0.stands))

pub returns-in-Ok-finish-clause-reads : goal.returns-in-Ok-finish-clause-reads
returns-in-Ok-finish-clause-reads g c =
    run-ends c.args.desk.now c.lines.desk c.finish.new.desk (met c.args.names.now) (rest file_rules c.args.text.now 0 1) (ahead file_rules c.lines.reader) c.lines.total c.lines.place c.lines.names c.lines.invariant.0
    (subst (λ o. Gives (ahead file_rules c.lines.reader) (ahead file_rules c.next_line.new.self) (Ok o)) c.in-Ok-None.field-0-is c.in-Ok-None.ensures.gives).0 c.in-Ok-finish.field-0
    (subst (Finishes c.args.desk.now.editor.signals c.lines.desk (met c.lines.names) c.lines.invariant.0.point c.finish.new.desk) c.in-Ok-finish.is (c.finish.ensures.ends c.args.desk.now.editor.signals c.lines.invariant.0.point c.lines.invariant.0.stands))

pub returns-in-Err-finish-clause-reads : goal.returns-in-Err-finish-clause-reads
returns-in-Err-finish-clause-reads g c =
    run-fails c.args.desk.now c.lines.desk c.finish.new.desk (met c.args.names.now) (rest file_rules c.args.text.now 0 1) (ahead file_rules c.lines.reader) c.lines.total c.lines.place c.lines.names c.lines.invariant.0
    (subst (λ o. Gives (ahead file_rules c.lines.reader) (ahead file_rules c.next_line.new.self) (Ok o)) c.in-Ok-None.field-0-is c.in-Ok-None.ensures.gives).0 c.in-Err-finish.fault
    (subst (Finishes c.args.desk.now.editor.signals c.lines.desk (met c.lines.names) c.lines.invariant.0.point c.finish.new.desk) c.in-Err-finish.is (c.finish.ensures.ends c.args.desk.now.editor.signals c.lines.invariant.0.point c.lines.invariant.0.stands))

pub returns-in-Err-Text-clause-reads : goal.returns-in-Err-Text-clause-reads
returns-in-Err-Text-clause-reads g c =
    run-fault c.args.desk.now c.lines.desk c.stop_at.new.desk (met c.args.names.now) (rest file_rules c.args.text.now 0 1) (ahead file_rules c.lines.reader) c.lines.total c.lines.place c.lines.names c.lines.invariant.0
    c.in-Err-Text.fault c.stop_at.result (subst (λ e. Gives (ahead file_rules c.lines.reader) (ahead file_rules c.next_line.new.self) (Err e)) c.in-Err-Text.field-0-is c.in-Err-Text.ensures.gives).1
    (λ p r h f. c.stop_at.ensures.takes p r h (subst (FaultOf r) (sym c.in-Err-Text.fault-is) f))

pub returns-in-Err-Memory-clause-reads : goal.returns-in-Err-Memory-clause-reads
returns-in-Err-Memory-clause-reads g c =
    run-short c.args.desk.now c.lines.desk c.lines.desk (met c.args.names.now) (rest file_rules c.args.text.now 0 1) (ahead file_rules c.lines.reader) c.lines.total c.lines.place c.lines.names c.lines.invariant.0
    (subst (λ e. Gives (ahead file_rules c.lines.reader) (ahead file_rules c.next_line.new.self) (Err e)) c.in-Err-Memory.field-0-is c.in-Err-Memory.ensures.gives).1
