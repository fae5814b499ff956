use Rattle.std.proofs.Common.{take, ap, ◌∙◌, arith}
use Rattle.names.proofs.Entering.{stand_all, stand_more, stand_stops}
use Rattle.names.proofs.signals.Signals.enter.Goals as goal

pub returns-in-Err : goal.returns-in-Err
returns-in-Err c =
    stand_stops c.loop-word.invariant _ (omega arith) c.add.new.self c.truncate.new.self c.in-Err.fault c.in-Err.ensures (c.truncate.ensures ∙ ap (λ n. take n c.add.new.self) c.len-before.ensures.len)

pub returns : goal.returns
returns c = stand_all c.loop-word.invariant (omega arith)

pub loop-word-preserved : goal.loop-word-preserved
loop-word-preserved c = stand_more c.loop-word.invariant _ (omega arith) c.add.new.self c.in_default.ensures
