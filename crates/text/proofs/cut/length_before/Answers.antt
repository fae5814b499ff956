use Rattle.std.proofs.Common.{rules, ℕ, Bool, ◌≡◌, true, false, eqb, sym, refl, ◌∙◌}
use borrow.Author.Tests.{tests}
use Rattle.std.proofs.lemmas.Iterator.{YieldsList-from_slice, IsFirst-from_position, index_from_first}
use Rattle.std.specs.List.{position_or_len}
use Rattle.text.proofs.Marks.{mark_here, mark_later}
use Rattle.text.proofs.cut.length_before.Goals as goal

pub returns-clause-value : goal.returns-clause-value
returns-clause-value c =
    let bs = c.args.bytes.now in
    let p : ℕ → Bool = λ b. eqb b c.args.mark in
    let first = IsFirst-from_position _ _ c.position.result (λ x. p x ≡ true) (λ x. p x ≡ false) c.position.ensures.ran (YieldsList-from_slice bs cc) (λ x q k. search (rules, tests)) (λ x q k. search (rules, tests)) in
    c.unwrap_or.ensures ∙ sym (index_from_first (position_or_len p) (λ x. p x ≡ true) (λ x. p x ≡ false) refl (mark_here p) (mark_later p) bs c.position.result first)
