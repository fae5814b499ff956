use Rattle.board.specs.Stored.{OnlyWords}
use Rattle.edits.specs.Cells.{Wirable, Changed, cell_at, as_wired}
use Rattle.edits.proofs.enter.attach_all.Given as goal

abbrev pub invariant-loop-pin : goal.invariant-loop-pin
invariant-loop-pin g l =
    let m = l.initial.board.signals in
    let ws = l.initial.board.words.image in
    (Wirable m ws l.signal.number l.pins l.fn.nets → Changed m ws l.signal.number (as_wired (cell_at m ws l.signal.number) l.pin l.fn.nets) l.board.words.image)
    × OnlyWords l.initial.board l.board
