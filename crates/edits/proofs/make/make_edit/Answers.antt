use Rattle.std.proofs.Common.{◌≡◌, ℕ, ◌≤◌, Ok, Err, Result, sym, subst}
use Rattle.words.specs.Meaning.{Meaning}
use Rattle.reach.specs.declared.path.Path.{Path}
use Rattle.netlist.specs.declared.edit.Edit.{Edit}
use Rattle.board.specs.Standing.{Stands}
use Rattle.edits.specs.Checks.{Passes}
use Rattle.board.specs.Board.{netlist_of}
use Rattle.edits.specs.Makes.{Placing, Makes, Faults, reply_of}
use Rattle.edits.proofs.Whole.{workable, passable, made_accepted, made_looped, loop-shown}
use Rattle.edits.proofs.make.make_edit.Goals as goal

-- the change and the puts, at as many signals and of the edit that was checked
placed-same : (k m : ℕ) (a₁ a₂ : Meaning) (d e : Edit) (r : Result ℕ Path) → k ≡ m → d ≡ e →
    (k ≤ 1024 → Stands k a₁.image → Passes k (netlist_of k a₁.image) d → Placing k a₁.image d a₂.image r) →
    m ≤ 1024 → Stands m a₁.image → Passes m (netlist_of m a₁.image) e → Placing m a₁.image e a₂.image r
placed-same k m a₁ a₂ d e r same is h =
    subst (λ n. n ≤ 1024 → Stands n a₁.image → Passes n (netlist_of n a₁.image) e → Placing n a₁.image e a₂.image r) same
    (subst (λ x. k ≤ 1024 → Stands k a₁.image → Passes k (netlist_of k a₁.image) x → Placing k a₁.image x a₂.image r) is h)

pub returns-in-Ok-clause-makes : goal.returns-in-Ok-clause-makes
returns-in-Ok-clause-makes g c =
    let b = c.args.board.now in
    let b₁ = c.open_level.new.self in
    let b₂ = c.place.new.board in
    let m = b.signals in
    let same = c.open_level.ensures.stays.signals in
    λ w.
    let checks = c.in_ok-checked.ensures.checks w.few w.stands.sound in
    made_accepted m b.words b₁.words b₂.words c.keep_level.new.self.words c.args.edit w checks c.open_level.result c.open_level.ensures.opens c.place.ensures.only.inside
    c.in-Ok.count c.keep_level.result
    (placed-same b₁.signals m b₁.words b₂.words c.in_ok-checked.checked.edit c.args.edit (Ok c.in-Ok.count) same c.in_ok-checked.ensures.same c.in-Ok.ensures.places w.few
    (workable m b.words b₁.words b₂.words c.keep_level.new.self.words c.args.edit w checks c.open_level.result c.open_level.ensures.opens c.place.ensures.only.inside)
    (passable m b.words b₁.words b₂.words c.keep_level.new.self.words c.args.edit w checks c.open_level.result c.open_level.ensures.opens c.place.ensures.only.inside))
    c.keep_level.ensures.keeps

pub returns-in-Err-clause-makes : goal.returns-in-Err-clause-makes
returns-in-Err-clause-makes g c =
    let b = c.args.board.now in
    let b₁ = c.open_level.new.self in
    let b₂ = c.place.new.board in
    let m = b.signals in
    let same = c.open_level.ensures.stays.signals in
    λ w.
    let checks = c.in_ok-checked.ensures.checks w.few w.stands.sound in
    subst (λ f. Makes m b.words c.args.edit c.drop_level.new.self.words (reply_of (Err f))) (sym c.from.ensures)
    (made_looped m b.words b₁.words b₂.words c.drop_level.new.self.words c.args.edit w checks c.open_level.result c.open_level.ensures.opens c.place.ensures.only.inside
    c.in-Err.path c.drop_level.result
    (placed-same b₁.signals m b₁.words b₂.words c.in_ok-checked.checked.edit c.args.edit (Err c.in-Err.path) same c.in_ok-checked.ensures.same c.in-Err.ensures.places w.few
    (workable m b.words b₁.words b₂.words c.drop_level.new.self.words c.args.edit w checks c.open_level.result c.open_level.ensures.opens c.place.ensures.only.inside)
    (passable m b.words b₁.words b₂.words c.drop_level.new.self.words c.args.edit w checks c.open_level.result c.open_level.ensures.opens c.place.ensures.only.inside))
    c.drop_level.ensures.drops)

pub returns-in-Err-clause-faults : goal.returns-in-Err-clause-faults
returns-in-Err-clause-faults g c =
    let b = c.args.board.now in
    let b₁ = c.open_level.new.self in
    let b₂ = c.place.new.board in
    let m = b.signals in
    let same = c.open_level.ensures.stays.signals in
    λ w.
    let checks = c.in_ok-checked.ensures.checks w.few w.stands.sound in
    subst (λ f. Faults (netlist_of m b.words.image) c.args.edit (Err f)) (sym c.from.ensures)
    (loop-shown m b.words b₁.words b₂.words c.drop_level.new.self.words c.args.edit w checks c.open_level.result c.open_level.ensures.opens c.place.ensures.only.inside
    c.in-Err.path
    (placed-same b₁.signals m b₁.words b₂.words c.in_ok-checked.checked.edit c.args.edit (Err c.in-Err.path) same c.in_ok-checked.ensures.same c.in-Err.ensures.places w.few
    (workable m b.words b₁.words b₂.words c.drop_level.new.self.words c.args.edit w checks c.open_level.result c.open_level.ensures.opens c.place.ensures.only.inside)
    (passable m b.words b₁.words b₂.words c.drop_level.new.self.words c.args.edit w checks c.open_level.result c.open_level.ensures.opens c.place.ensures.only.inside)))
