use Rattle.std.proofs.Common.{◌+◌, ◌≤◌, ◌++◌, length, take, drop}
use Rattle.board.specs.Layout.{needed}
use Rattle.board.specs.Board.{order_of}
use Rattle.board.specs.Stored.{OnlyWords}
use Rattle.places.specs.Refill.{Reordered}
use Rattle.places.proofs.refill.fill_held.Given as goal

abbrev pub invariant-loop-i : goal.invariant-loop-i
invariant-loop-i g l =
    let m = l.initial.board.signals in
    let ws = l.initial.board.words.image in
    (needed m ≤ length ws → l.from + length l.held ≤ m
    → Reordered m ws (take l.from (order_of m ws) ++ (take l.i l.held ++ drop (l.from + l.i) (order_of m ws))) l.board.words.image)
    × OnlyWords l.initial.board l.board
