use Rattle.board.specs.Stored.{OnlyWords}
use Rattle.edits.specs.Cells.{Site, Changed, cell_at, as_unwired}
use Rattle.edits.proofs.enter.detach_all.Given as goal

abbrev pub invariant-loop-pin : goal.invariant-loop-pin
invariant-loop-pin g l =
    let m = l.initial.board.signals in
    let ws = l.initial.board.words.image in
    (Site m ws l.signal.number → Changed m ws l.signal.number (as_unwired (cell_at m ws l.signal.number) l.pin) l.board.words.image) × OnlyWords l.initial.board l.board
