use Rattle.std.proofs.Common.{◌≡◌, ◌*◌, ◌≤◌}
use Rattle.words.specs.Meaning.{size}
use Rattle.board.specs.Stored.{OnlyWords}
use Rattle.editor.specs.Making.{Seated}
use Rattle.editor.proofs.making.seat_all.Given as goal

abbrev pub invariant-loop-signal : goal.invariant-loop-signal
invariant-loop-signal g l =
    let m = l.initial.board.signals in
    OnlyWords l.initial.board l.board × (size l.board.words ≡ size l.initial.board.words)
    × (5 * m ≤ size l.initial.board.words → Seated m l.signal l.initial.board.words.image l.board.words.image)
