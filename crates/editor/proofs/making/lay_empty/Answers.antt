use Rattle.std.proofs.Common.{ℕ, ◌*◌, ◌≤◌, subst}
use Rattle.words.specs.Meaning.{size}
use Rattle.editor.specs.Making.{Seated}
use Rattle.editor.proofs.Written.{empty_laid}
use Rattle.editor.proofs.making.lay_empty.Goals as goal

pub returns-clause-lays : goal.returns-clause-lays
returns-clause-lays g c =
    let b = c.args.board.now in
    let d = c.clear.new.self in
    let f = c.seat_all.new.board in
    λ few room.
    empty_laid b.signals b.words d.words f.words c.clear.ensures.cleared
    (let P : ℕ → Type 0 = λ k. 5 * k ≤ size d.words → Seated k k d.words.image f.words.image in subst P c.clear.ensures.only.stays.signals c.seat_all.ensures.seats)
    c.seat_all.ensures.long room
