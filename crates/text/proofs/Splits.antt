-- A line is cut at its separators, part by part.
use Rattle.std.proofs.Common.{◌≡◌, ℕ, suc, ◌+◌, ◌<◌, ◌≤◌, cond, ◌⊎◌, List, [], ◌∷◌, length, take, drop, filter, Some, None, Option, MatchOption, ap, sym, refl, ◌∙◌, ⊎_elim, add-one, arith}
use denote.Ref.{Bor}
use Rattle.std.specs.List.{position_or_len, slice_range}
use Rattle.std.proofs.lemmas.List.{take_all, take_rest}
use Rattle.std.proofs.lemmas.Bool.{cond-true, cond-false, cases_Bool}
use Rattle.text.specs.Rules.{Rules, separates}
use Rattle.text.specs.Words.{part, onto, parts, is_word_lem, left_words}
use Rattle.text.proofs.Marks.{mark_here, mark_later}

module _ (k : Rules) (n : ℕ) where
  pub parts_last : (at : ℕ) (bs : List ℕ) → position_or_len (separates k) bs ≡ length bs → parts k n at bs ≡ part at n bs ∷ []
  parts_last at [] e = refl
  parts_last at (b ∷ bs) e =
      ⊎_elim
      (λ t. absurd (omega (arith, sym (mark_here (separates k) b bs t) ∙ e)))
      (λ t.
      let u : position_or_len (separates k) bs ≡ length bs = omega (arith, sym (mark_later (separates k) b bs t) ∙ e) in
      cond-false (separates k b) _ _ t ∙ ap (onto at b) (parts_last (at + 1) bs u))
      (cases_Bool (separates k b))

  pub parts_more : (at : ℕ) (bs : List ℕ) (m : ℕ) → position_or_len (separates k) bs ≡ m → m < length bs → parts k n at bs ≡ part at n (take m bs) ∷ parts k n (at + (m + 1)) (drop (m + 1) bs)
  parts_more at [] m e h = absurd (omega arith)
  parts_more at (b ∷ bs) m e h =
      ⊎_elim
      (λ t.
      let z : 0 ≡ m = sym (mark_here (separates k) b bs t) ∙ e in
      cond-true (separates k b) _ _ t ∙ ap (λ j. part at n (take j (b ∷ bs)) ∷ parts k n (at + (j + 1)) (drop (j + 1) (b ∷ bs))) z)
      (λ t.
      let j = position_or_len (separates k) bs in
      let u : suc j ≡ m = sym (add-one _) ∙ sym (mark_later (separates k) b bs t) ∙ e in
      let less : j < length bs = omega arith in
      let place : at + 1 + (j + 1) ≡ at + (suc j + 1) = omega arith in
      cond-false (separates k b) _ _ t ∙ ap (onto at b) (parts_more (at + 1) bs j refl less)
      ∙ ap (λ i. part at n (b ∷ take j bs) ∷ parts k n i (drop (j + 1) bs)) place
      ∙ ap (λ i. part at n (b ∷ take j bs) ∷ parts k n (at + (suc j + 1)) (drop i (b ∷ bs))) (ap suc (add-one _) ∙ sym (add-one _))
      ∙ ap (λ i. part at n (take i (b ∷ bs)) ∷ parts k n (at + (i + 1)) (drop (i + 1) (b ∷ bs))) u)
      (cases_Bool (separates k b))

-- what a slice's `get` gives of bs behind its first m + 1
abbrev pub Behind : List ℕ → ℕ → Option (Bor (List ℕ)) → Type 0
Behind bs m more =
    MatchOption more ((length bs < m + 1) ⊎ (length bs < length bs)) (λ r. (m + 1 ≤ length bs) × (length bs ≤ length bs) × (r.now ≡ slice_range bs (m + 1) (length bs)) × (length r.now + (m + 1) ≡ length bs))

-- the part before the first separator is cut off
pub words_cut : (k : Rules) (n at : ℕ) (r : Bor (List ℕ)) (m : ℕ) → m ≡ position_or_len (separates k) r.now → m ≤ length r.now → (more : Option (Bor (List ℕ))) → Behind r.now m more → left_words k n at (Some r) ≡ cond (is_word_lem k (take m r.now)) (part at n (take m r.now) ∷ left_words k n (at + (m + 1)) more) (left_words k n (at + (m + 1)) more)
words_cut k n at r m stops within None h =
    let all : m ≡ length r.now = ⊎_elim (λ lt. omega arith) (λ lt. omega arith) h in
    ap (filter (λ p. is_word_lem k p.bytes)) (parts_last k n at r.now (sym stops ∙ all) ∙ ap (λ bs. part at n bs ∷ []) (sym (take_all m r.now (omega arith))))
words_cut k n at r m stops within (Some s) h =
    ap (filter (λ p. is_word_lem k p.bytes)) (parts_more k n at r.now m (sym stops) (omega (arith, h.0)) ∙ ap (λ bs. part at n (take m r.now) ∷ parts k n (at + (m + 1)) bs) (sym (h.2 ∙ take_rest r.now (m + 1))))
