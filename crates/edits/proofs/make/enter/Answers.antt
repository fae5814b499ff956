use Rattle.std.proofs.Common.{◌≡◌, [], ◌∷◌, length, refl, rules}
use Rattle.edits.proofs.Entering.{entered-input, entered-output, entered-gate, entered-latch, entered-delete, entered_move}
use Rattle.edits.proofs.make.enter.Goals as goal

pub returns-in-Input-clause-enters : goal.returns-in-Input-clause-enters
returns-in-Input-clause-enters g c = λ few stands p.
    let b = c.args.board.now in
    rw c.in-Input.is (entered-input b.signals b.words.image few stands c.in-Input.signal _ (rw c.in-Input.is at p) c.enter_input.ensures.enters)

pub returns-in-Output-clause-enters : goal.returns-in-Output-clause-enters
returns-in-Output-clause-enters g c = λ few stands p.
    let b = c.args.board.now in
    let x = c.in-Output in
    rw x.is (entered-output b.signals b.words.image few stands x.signal x.mark _ (rw x.is at p) c.enter_output.ensures.enters)

pub returns-in-Gate-clause-enters : goal.returns-in-Gate-clause-enters
returns-in-Gate-clause-enters g c = λ few stands p.
    let b = c.args.board.now in
    let x = c.in-Gate in
    let four : length x.nets ≡ 4 = search rules in
    rw x.is (entered-gate b.signals b.words.image few stands x.signal x.pins x.nets x.table _ four (rw x.is at p) c.enter_driver.ensures.enters)

pub returns-in-Latch-clause-enters : goal.returns-in-Latch-clause-enters
returns-in-Latch-clause-enters g c = λ few stands p.
    let b = c.args.board.now in
    let x = c.in-Latch in
    rw x.is (entered-latch b.signals b.words.image few stands x.signal x.net x.start (x.net ∷ x.net ∷ x.net ∷ x.net ∷ []) _ refl (rw x.is at p) c.enter_driver-in-Latch.ensures.enters)

pub returns-in-Delete-clause-enters : goal.returns-in-Delete-clause-enters
returns-in-Delete-clause-enters g c = λ few stands p.
    let b = c.args.board.now in
    rw c.in-Delete.is (entered-delete b.signals b.words.image few stands c.in-Delete.signal _ (rw c.in-Delete.is at p) c.enter_delete.ensures.enters)

pub returns-in-Move-clause-enters : goal.returns-in-Move-clause-enters
returns-in-Move-clause-enters g c = λ few stands p.
    let b = c.args.board.now in
    let x = c.in-Move in
    rw x.is (entered_move b.signals b.words.image few stands x.signal x.pin x.net _ (rw x.is at p) c.enter_move.ensures.enters)
