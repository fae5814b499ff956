use Rattle.std.proofs.Common.{refl, get_or, ap, arith}
use Rattle.words.proofs.Logs.{stays_noted}
use Rattle.words.proofs.Noting.{note_room, owed_log_word, owed_log_value, owed_log_note, log-notes, notes_old, refilled}
use Rattle.words.proofs.inverse_log.InverseLog.note.Goals as goal

pub returns-then-has_noted-clause-notes : goal.returns-then-has_noted-clause-notes
returns-then-has_noted-clause-notes c = notes_old _ _ _ _ _ _ _ c.if-has_noted.ensures

pub cell-word_cell-requires : goal.cell-word_cell-requires
cell-word_cell-requires c =
    let room = note_room c.args.self.now c.args.level c.args.at c.args.former _ (omega arith) (omega arith) c.if-has_noted.ensures (ap (λ xs. get_or xs c.args.level 0) c.deref.ensures.0) in
    (omega arith, room)

pub cell-value_cell-requires : goal.cell-value_cell-requires
cell-value_cell-requires c =
    let room = note_room c.args.self.now c.args.level c.args.at c.args.former _ (omega arith) (omega arith) c.if-has_noted.ensures (ap (λ xs. get_or xs c.args.level 0) c.deref.ensures.0) in
    (omega arith, room)

pub invariant_of-self : goal.invariant_of-self
invariant_of-self c =
    owed_log_word c.args.self.now c.args.level c.args.at c.args.former _ _ _ _
    (record { used = omega arith; below = omega arith; missing = c.if-has_noted.ensures; count-is = ap (λ xs. get_or xs c.args.level 0) c.deref.ensures.0; x-is = c.cell-word_cell.ensures; y-is = c.cell-value_cell.ensures; z-is = c.cell-place_cell.ensures })

pub invariant_of-self-2 : goal.invariant_of-self-2
invariant_of-self-2 c =
    owed_log_value c.args.self.now c.args.level c.args.at c.args.former _ _ _ _
    (record { used = omega arith; below = omega arith; missing = c.if-has_noted.ensures; count-is = ap (λ xs. get_or xs c.args.level 0) c.deref.ensures.0; x-is = c.cell-word_cell.ensures; y-is = c.cell-value_cell.ensures; z-is = c.cell-place_cell.ensures })

pub invariant_of-self-3 : goal.invariant_of-self-3
invariant_of-self-3 c =
    owed_log_note c.args.self.now c.args.level c.args.at c.args.former _ _ _ _
    (record { used = omega arith; below = omega arith; missing = c.if-has_noted.ensures; count-is = ap (λ xs. get_or xs c.args.level 0) c.deref.ensures.0; x-is = c.cell-word_cell.ensures; y-is = c.cell-value_cell.ensures; z-is = c.cell-place_cell.ensures })
    _ (refilled _ _ _ _ c.deref_mut.ensures.value)

pub returns-clause-notes : goal.returns-clause-notes
returns-clause-notes c =
    log-notes c.args.self.now c.args.level c.args.at c.args.former _ _ _ _
    (record { used = omega arith; below = omega arith; missing = c.if-has_noted.ensures; count-is = ap (λ xs. get_or xs c.args.level 0) c.deref.ensures.0; x-is = c.cell-word_cell.ensures; y-is = c.cell-value_cell.ensures; z-is = c.cell-place_cell.ensures })
    _ (refilled _ _ _ _ c.deref_mut.ensures.value)

pub returns-clause-stays : goal.returns-clause-stays
returns-clause-stays c =
    stays_noted c.args.self.now _ refl refl c.args.level _
    (log-notes c.args.self.now c.args.level c.args.at c.args.former _ _ _ _
    (record { used = omega arith; below = omega arith; missing = c.if-has_noted.ensures; count-is = ap (λ xs. get_or xs c.args.level 0) c.deref.ensures.0; x-is = c.cell-word_cell.ensures; y-is = c.cell-value_cell.ensures; z-is = c.cell-place_cell.ensures })
    _ (refilled _ _ _ _ c.deref_mut.ensures.value))
