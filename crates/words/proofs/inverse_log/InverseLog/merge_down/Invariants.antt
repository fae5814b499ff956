use Rattle.std.proofs.Common.{◌-◌}
use Rattle.words.specs.InverseLog.{undo, Notes}
use Rattle.words.specs.LogSteps.{Stays}
use Rattle.words.proofs.inverse_log.InverseLog.merge_down.Given as goal

abbrev pub invariant-loop-place : goal.invariant-loop-place
invariant-loop-place l =
    let ws = l.initial.self.words.now in
    let n = l.initial.self.shape.size in
    record {
      notes : Notes n l.initial.self.shape.limit (l.level - 1) (undo ws n l.level l.place) ws l.initial.self.noted.items l.self.words.now l.self.noted.items;
      stays : Stays l.initial.self l.self;
    }
