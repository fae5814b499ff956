use Rattle.std.proofs.Common.{ap, arith}
use Rattle.board.proofs.Walk.{detached}
use Rattle.board.proofs.stored.StoredBoard.detach.Goals as goal

pub returns-clause-detaches : goal.returns-clause-detaches
returns-clause-detaches g c = λ chained low some.
    detached c.args.self.now.signals c.args.self.now.words.image c.remove.new.self.words.image c.args.pin c.read-on.result c.read.result c.read-2.result
    (omega (arith, c.if-on-eq0.false)) c.read-on.ensures c.read.ensures c.read-2.ensures
    (ap (λ b. b.words.image) c.remove.ensures) chained low
