use Rattle.std.proofs.Common.{◌-◌, ◌*◌, ◌<◌}
use Rattle.board.specs.Chain.{Chained}
use Rattle.board.proofs.Walk.{Walked}
use Rattle.board.proofs.stored.StoredBoard.find_gap.Given as goal

abbrev pub invariant-loop-before : goal.invariant-loop-before
invariant-loop-before g l =
    Chained l.self.signals l.self.words.image → l.pin < 4 * l.self.signals → l.signal < l.self.signals
    → Walked l.self.signals l.self.words.image l.pin l.signal l.before l.behind

abbrev pub decreases-loop-before : goal.decreases-loop-before
decreases-loop-before g l = l.pin - l.before
