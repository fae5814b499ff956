-- Three covers of two pins.
use Rattle.std.proofs.Common.{◌≡◌, ℕ, zero, suc, ◌+◌, ◌<◌, min, Bool, true, ◌&&◌, eqb, [], ◌∷◌, get_or, codes, sym, refl, subst, inl, inr, ⊎_elim, arith}
use Rattle.std.specs.List.{ContainsAt}
use Rattle.std.proofs.ByRecursion.{has_push, has_push_cases}
use Rattle.std.proofs.lemmas.Bool.{eqb-true, cases_eq}
use Rattle.std.proofs.lemmas.Bool.Decides.{Decides-below_and}
use Rattle.table.specs.Bit.{bit}
use Rattle.table.specs.Laws.{Examples, text}
use Rattle.table.specs.Line.{Line, Iff, Agrees, Character, Characters, Covers, OnSet, Means}
use Rattle.std.proofs.lemmas.Nat.Bits.{bit_at-lt, bit_at-zero}
use Rattle.table.proofs.Lines.{both_outputs}

-- A test passed at each of the first n numbers.
abbrev every : (ℕ → Bool) → ℕ → Bool
every test zero = true
every test (suc n) = test n && every test n

same-below : (f g : ℕ → ℕ) (n : ℕ) → every (λ k. eqb (f k) (g k)) n ≡ true → (k : ℕ) → k < n → f k ≡ g k
same-below f g n e k h =
    eqb-true (f k) (g k) ((Decides-below_and (λ j. eqb (f j) (g j)) (λ j. eqb (f j) (g j) ≡ true) (every (λ j. eqb (f j) (g j))) (λ j. ((λ t. t), (λ t. t))) refl (λ _. refl) n).0 e k h)

-- A plane of two characters, character by character.
each_of_two : (P : ℕ → ℕ → Type 0) (a b : ℕ) → P 0 a → P 1 b → (i : ℕ) → i < 2 → P i (get_or (a ∷ b ∷ []) i 0)
each_of_two P a b first second zero h = first
each_of_two P a b first second (suc zero) h = second
each_of_two P a b first second (suc (suc i)) h = absurd (omega (arith, h))

two_cover : (a b m : ℕ) → Agrees a (bit m 0) → Agrees b (bit m 1) → Covers (a ∷ b ∷ []) m
two_cover a b m first second = each_of_two (λ i c. Agrees c (bit m i)) a b first second

two_characters : (a b : ℕ) → Character a → Character b → Characters (a ∷ b ∷ [])
two_characters a b first second = each_of_two (λ i c. Character c) a b first second

module _ (line : Line) (m : ℕ) where
  has_itself : ContainsAt (line ∷ []) line
  has_itself = has_push [] line

  only_line : (x : Line) → ContainsAt (line ∷ []) x → line ≡ x
  only_line x has = ⊎_elim (λ none. absurd (omega (arith, none.1))) (λ same. same) (has_push_cases [] line x has)

  listed-line : (x : Line) → ContainsAt (line ∷ []) x → Covers x.plane m → Covers line.plane m
  listed-line x has covers = subst (λ y. Covers y.plane m) (sym (only_line x has)) covers

  -- The on-set of one line.
  on_line : line.output ≡ codes "1" → Iff (Covers line.plane m) (OnSet (line ∷ []) m)
  on_line one = (
    (λ covers. inl (line, has_itself, one, covers)),
    (⊎_elim
        (λ p. listed-line p.0 p.1 p.3)
        (λ p. absurd (both_outputs line.output (subst (λ y. y.output ≡ codes "0") (sym (only_line p.0.0 p.0.1)) p.0.2) one))),
  )

  off_line : line.output ≡ codes "0" → Iff (Covers line.plane m → ⊥) (OnSet (line ∷ []) m)
  off_line none = (
    (λ free. inr ((line, has_itself, none), λ p. free (listed-line p.0 p.1 p.2))),
    (⊎_elim
        (λ p. absurd (both_outputs line.output none (subst (λ y. y.output ≡ codes "1") (sym (only_line p.0 p.1)) p.2)))
        (λ p covers. p.1 (line, has_itself, covers))),
  )

second_pin : Means 2 (text "-1" "1" ∷ []) 12
second_pin = record {
  fits = omega arith;
  bitwise = λ m l.
      let on = on_line (text "-1" "1") m refl in
      let is = same-below (bit 12) (λ k. bit k 1) 4 refl m l in (
        (λ one. on.0 (two_cover 45 49 m (inl refl) (inr (omega arith)))),
        (λ p. ⊎_elim (λ dash. absurd (omega arith)) (λ digit. omega arith) (on.1 p 1 (omega arith))),
      );
}

not_both : Means 2 (text "11" "0" ∷ []) 7
not_both = record {
  fits = omega arith;
  bitwise = λ m l.
      let off = off_line (text "11" "0") m refl in
      let is = same-below (λ k. bit 7 k + min (bit k 0) (bit k 1)) (λ k. 1) 4 refl m l in
      let low = bit_at-lt m 0 in
      let low' = bit_at-lt m 1 in (
        (λ one. off.0 (λ covers. ⊎_elim
            (λ dash. omega arith)
            (λ digit. ⊎_elim (λ dash. omega arith) (λ digit'. omega arith) (covers 1 (omega arith)))
            (covers 0 (omega arith)))),
        (λ p.
            let free : (bit m 0 ≡ 1) → (bit m 1 ≡ 1) → ⊥ = λ e e'. off.1 p (two_cover 49 49 m (inr (omega arith)) (inr (omega arith))) in
            ⊎_elim (λ e. ⊎_elim (λ e'. absurd (free e e')) (λ not. omega arith) (cases_eq (bit m 1) 1)) (λ not. omega arith) (cases_eq (bit m 0) 1)),
      );
}

no_lines : Means 2 [] 0
no_lines = record {
  fits = omega arith;
  bitwise = λ m l. (
    (λ one. absurd (omega (arith, bit_at-zero m))),
    (λ on. absurd (⊎_elim (λ p. omega (arith, p.1.1)) (λ p. omega (arith, p.0.1.1)) on)),
  );
}

pub examples : Examples
examples = record {
  second_pin = (record { formed = (record { long = refl; characters = two_characters 45 49 (inr (inr refl)) (inr (inl refl)); ends = inr refl }, tt); alike = tt }, second_pin);
  not_both = (record { formed = (record { long = refl; characters = two_characters 49 49 (inr (inl refl)) (inr (inl refl)); ends = inl refl }, tt); alike = tt }, not_both);
  no_lines = (record { formed = tt; alike = tt }, no_lines);
}
