use Rattle.netlist.specs.Places.{Arranges}
use Rattle.board.specs.Board.{order_of}
use Rattle.board.specs.Stored.{OnlyWords}
use Rattle.places.specs.Refill.{Range, Renumbered}
use Rattle.places.proofs.refill.renumber.Given as goal

abbrev pub invariant-loop-place : goal.invariant-loop-place
invariant-loop-place g l =
    let m = l.initial.board.signals in
    let ws = l.initial.board.words.image in
    (Range m ws l.fn.span.low l.fn.span.high → Arranges m (order_of m ws) → Renumbered m ws l.fn.span.low l.place l.board.words.image)
    × OnlyWords l.initial.board l.board
