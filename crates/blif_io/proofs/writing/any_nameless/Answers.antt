use Rattle.std.proofs.Common.{arith}
use Rattle.blif_io.proofs.Barring.{all_named}
use Rattle.blif_io.proofs.writing.any_nameless.Goals as goal

pub returns : goal.returns
returns g c =
    all_named c.args.editor.now.signals c.args.named c.args.editor.now.words.image (λ s lt le. c.loop-signal.invariant s (omega (arith, c.loop-signal-test.false, c.signals-signal-end.ensures)) le)
