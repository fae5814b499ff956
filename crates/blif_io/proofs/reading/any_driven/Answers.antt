use Rattle.std.proofs.Common.{arith}
use Rattle.blif_io.proofs.Sessions.{all_absent}
use Rattle.blif_io.proofs.reading.any_driven.Goals as goal

pub returns : goal.returns
returns g c =
    all_absent c.args.editor.now.signals c.args.editor.now.words.image (λ s lt. c.loop-signal.invariant s (omega (arith, c.loop-signal-test.false, c.signals-signal-end.ensures)))
