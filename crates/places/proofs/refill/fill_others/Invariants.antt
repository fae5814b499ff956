use Rattle.std.proofs.Common.{◌≡◌, ◌+◌, ◌-◌, ◌<◌, ◌≤◌, length}
use Rattle.board.specs.Stored.{OnlyWords}
use Rattle.places.specs.Refill.{Range, Walked, flagged}
use Rattle.places.proofs.refill.fill_others.Given as goal

abbrev pub invariant-loop-place : goal.invariant-loop-place
invariant-loop-place g l =
    let m = l.initial.board.signals in
    let ws = l.initial.board.words.image in
    let low = l.fn.span.low in
    (Range m ws low l.fn.span.high → Walked (flagged l.search.flags.now) m ws low (l.place - low) l.board.words.image l.next l.held.items)
    × (l.next + length l.held.items ≡ l.place)
    × (l.place < 4294967296)
    × (length l.held.items ≤ 1024)
    × OnlyWords l.initial.board l.board
