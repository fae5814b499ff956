use Rattle.std.proofs.Common.{ℕ, ◌∙◌, subst}
use Rattle.edits.specs.Puts.{ReadyAll, PutsPins}
use Rattle.edits.proofs.Whole.{placing}
use Rattle.edits.proofs.make.place.Goals as goal

pub returns-clause-places : goal.returns-clause-places
returns-clause-places g c =
    let b = c.args.board.now in
    let b₁ = c.enter.new.board in
    let b₂ = c.put_all.new.board in
    let on = c.as_slice.result.now in
    λ few stands p.
    placing b.signals b.words.image c.args.checked.edit b₁.words b₂.words c.signal.result on c.put_all.result few stands p
    (c.enter.ensures.enters few stands p) c.signal.ensures (c.as_slice.ensures.value ∙ c.nets_to_put-nets.ensures)
    (let P : ℕ → Type 0 = λ k. ReadyAll k b₁.words.image c.signal.result on → PutsPins k b₁.words c.signal.result on b₂.words c.put_all.result in
    subst P c.enter.ensures.only.stays.signals c.put_all.ensures.puts)
