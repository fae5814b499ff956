use Rattle.std.proofs.Common.{ℕ, ◌+◌, ◌≤◌, List, ◌++◌, length, take, drop, refl, subst}
use Rattle.board.specs.Layout.{needed}
use Rattle.board.specs.Board.{order_of}
use Rattle.places.specs.Refill.{Reordered, flagged}
use Rattle.places.proofs.Filling.{walked_all}
use Rattle.places.proofs.refill.refill.Goals as goal

pub returns-clause-fills : goal.returns-clause-fills
returns-clause-fills g c =
    let b = c.args.board.now in
    let b₁ = c.fill_others-next.new.board in
    let ws₁ = b₁.words.image in
    let ws₂ = c.fill_held.new.board.words.image in
    let next = c.fill_others-next.result.next in
    let back = c.fill_others-next.result.held.items in
    let held = c.as_slice.result.now in
    λ range.
    walked_all (flagged c.args.search.now.flags.now) b.signals b.words.image c.args.span.low c.args.span.high range next (length back) ws₁ ws₂ back
    (c.fill_others-next.ensures.walked range) refl
    (let P : List ℕ → ℕ → Type 0 = λ xs k. needed k ≤ length ws₁ → next + length xs ≤ k → Reordered k ws₁ (take next (order_of k ws₁) ++ (xs ++ drop (next + length xs) (order_of k ws₁))) ws₂ in
    subst (λ xs. P xs b.signals) c.as_slice.ensures.value (subst (P held) c.fill_others-next.ensures.only.stays.signals c.fill_held.ensures.writes))
