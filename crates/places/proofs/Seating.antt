-- Each signal is told its place anew, step by step.
use Rattle.std.proofs.Common.{◌≡◌, ℕ, ◌+◌, ◌*◌, ◌<◌, ◌≤◌, List, get_or, set, sym, ap, ◌∙◌, subst, ⊎_elim, arith}
use Rattle.std.proofs.lemmas.List.{length-set, get_or-set_same, get_or-set_other}
use Rattle.std.proofs.lemmas.Bool.{cases_eq}
use Rattle.netlist.specs.Places.{place, Arranges}
use Rattle.board.specs.Layout.{word, holder}
use Rattle.board.specs.Board.{order_of}
use Rattle.places.specs.Refill.{Range, Renumbered}
use Rattle.places.proofs.Words.{order_at}

module _ (m : ℕ) (ws : List ℕ) (perm : Arranges m (order_of m ws)) where
  pub holder_small : (p : ℕ) → p < m → holder m ws p < m
  holder_small p lt = subst (λ v. v < m) (order_at m ws p lt) (perm.below p lt)

  pub holder-place : (p : ℕ) → p < m → place (order_of m ws) (holder m ws p) ≡ p
  holder-place p lt = ap (place (order_of m ws)) (sym (order_at m ws p lt)) ∙ perm.once p lt

  pub holders_differ : (p q : ℕ) → p < m → q < m → holder m ws p ≡ holder m ws q → p ≡ q
  holders_differ p q lt less e = sym (holder-place p lt) ∙ ap (place (order_of m ws)) e ∙ holder-place q less

module _ (m : ℕ) (ws : List ℕ) (low high : ℕ) (range : Range m ws low high) (perm : Arranges m (order_of m ws)) where
  pub seated_more : (now at x : ℕ) (ws' : List ℕ) → low ≤ now → now ≤ high → Renumbered m ws low now ws' → x ≡ word ws' (4 * m + now) → at ≡ 3 * m + x →
      Renumbered m ws low (now + 1) (set ws' at now)
  seated_more now at x ws' after inside was read is =
      let small : (p : ℕ) → p < now + 1 → holder m ws p < m = λ p lt. holder_small m ws perm p (omega (arith, range.within)) in
      let stood : x ≡ holder m ws now =
      read ∙ was.rest (4 * m + now) (λ p up lt e. let s = small p (omega arith) in omega arith) in
      let here : at ≡ 3 * m + holder m ws now = is ∙ ap (λ v. 3 * m + v) stood in
      record {
        size = length-set ws' at now ∙ was.size;
        seats = λ p up lt.
            ⊎_elim
            (λ e.
            ap (λ k. get_or (set ws' at now) (3 * m + holder m ws k) 0) e ∙ ap (λ k. get_or (set ws' at now) k 0) (sym here)
            ∙ get_or-set_same ws' at now 0 (let s = small now (omega arith) in omega (arith, here, was.size, range.long)) ∙ sym e)
            (λ ne.
            get_or-set_other ws' at (3 * m + holder m ws p) now 0
            (λ e. ne (holders_differ m ws perm p now (omega (arith, range.within)) (omega (arith, range.within)) (omega (arith, e, here))))
            ∙ was.seats p up (omega (arith, lt, ne)))
            (cases_eq p now);
        rest = λ k out.
            get_or-set_other ws' at k now 0 (λ e. out now after (omega arith) (e ∙ here)) ∙ was.rest k (λ p up lt. out p up (omega arith));
      }
