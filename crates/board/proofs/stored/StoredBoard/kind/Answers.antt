use Rattle.std.proofs.Common.{◌∙◌, arith}
use Rattle.board.proofs.Driving.{kind-told, kind_past}
use Rattle.board.proofs.stored.StoredBoard.kind.Goals as goal

pub returns-then-signal-signals : goal.returns-then-signal-signals
returns-then-signal-signals g c =
    c.read_kind.ensures ∙ kind-told c.args.self.now.signals c.args.self.now.words.image c.args.signal (omega (arith, c.if-signal-signals.true, c.signals.ensures.signals))

pub returns-else-signal-signals : goal.returns-else-signal-signals
returns-else-signal-signals g c =
    kind_past c.args.self.now.signals c.args.self.now.words.image c.args.signal (omega (arith, c.if-signal-signals.false, c.signals.ensures.signals))
