use Rattle.std.proofs.Common.{arith}
use Rattle.words.proofs.Copies.{copy_more}
use Rattle.words.proofs.snapshot.copy_part.Goals as goal

pub loop-i-preserved : goal.loop-i-preserved
loop-i-preserved c =
    copy_more c.args.words.now c.args.from c.args.to c.args.size c.requires.source c.requires.target c.requires.apart
    c.loop-i.words c.put.new.words _ c.loop-i.i (omega arith) c.loop-i-test.true c.loop-i.invariant c.put.ensures
