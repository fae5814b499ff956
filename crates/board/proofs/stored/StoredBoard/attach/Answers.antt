use Rattle.std.proofs.Common.{ap}
use Rattle.board.proofs.Walk.{attached}
use Rattle.board.proofs.stored.StoredBoard.attach.Goals as goal

pub returns-clause-attaches : goal.returns-clause-attaches
returns-clause-attaches g c = λ chained low there off.
    let gap = c.find_gap-gap.result in
    attached c.args.self.now.signals c.args.self.now.words.image c.insert.new.self.words.image c.args.pin c.args.signal gap.before gap.behind
    (ap (λ b. b.words.image) c.insert.ensures) c.find_gap-gap.ensures chained low there off
