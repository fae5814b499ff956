use Rattle.std.proofs.Common.{◌≡◌, ◌+◌, ◌≤◌, [], ◌++◌, length, get_or}
use Rattle.reach.specs.Listed.{listed, told_by}
use Rattle.reach.proofs.Listed.{left}
use Rattle.reach.proofs.queue.Queue.path.Given as goal

-- what is walked so far, then the trail that is left, is the trail of the place
abbrev pub invariant-loop-next : goal.invariant-loop-next
invariant-loop-next l =
    record {
      joins : l.numbers.items ++ told_by l.next (listed l.self) ≡ get_or (listed l.self) l.place [];
      room : length l.numbers.items + left l.next ≤ l.place + 1;
    }

abbrev pub decreases-loop-next : goal.decreases-loop-next
decreases-loop-next l = left l.next
