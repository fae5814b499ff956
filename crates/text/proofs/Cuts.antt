-- A comment is cut off a line, and a line off a text.
use Rattle.std.proofs.Common.{◌≡◌, ℕ, suc, ◌+◌, ◌<◌, ◌≤◌, min, Bool, eqb, List, [], ◌∷◌, ◌++◌, length, take, drop, Some, Ok, Err, Result, sym, refl, ap, ◌∙◌, subst, ⊎_elim, add-one, arith, length-drop}
use Rattle.std.specs.List.{position_or_len}
use Rattle.std.proofs.lemmas.Bool.{cond-true, cond-false, cases_Bool, cases_lt}
use Rattle.std.proofs.lemmas.List.{drop-drop, drop_all, length-take-le}
use Rattle.text.specs.declared.faults.ReadFault.{ReadFault}
use Rattle.text.specs.declared.faults.ReadFault.TheVariants.{Text, Memory}
use Rattle.text.specs.Rules.{Rules}
use Rattle.text.proofs.Marks.{mark_here, mark_later}
use Rattle.text.specs.Words.{Part}
use Rattle.text.specs.Lines.{shown, judged, Wordy, Ready, lines, begins, Item, holds, faulty, Wrong, wrong_of, item, items, rest, first, Found, Gives}

abbrev same_byte : ℕ → ℕ → Bool
same_byte mark b = eqb b mark

pub shown_is : (bs : List ℕ) → take (position_or_len (same_byte 35) bs) bs ≡ shown bs
shown_is [] = refl
shown_is (b ∷ bs) =
    ⊎_elim
    (λ t.
    ap (λ j. take j (b ∷ bs)) (mark_here (same_byte 35) b bs t) ∙ sym (cond-true (eqb b 35) [] (b ∷ shown bs) t))
    (λ t.
    ap (λ j. take j (b ∷ bs)) (mark_later (same_byte 35) b bs t ∙ add-one _) ∙ ap (λ l. b ∷ l) (shown_is bs) ∙ sym (cond-false (eqb b 35) [] (b ∷ shown bs) t))
    (cases_Bool (eqb b 35))

pub shown_cut : (n : ℕ) (bs : List ℕ) → n ≡ position_or_len (same_byte 35) bs → take n bs ≡ shown bs
shown_cut n bs e = ap (λ j. take j bs) e ∙ shown_is bs

-- the first line and what follows it
abbrev Cut : List ℕ → List (List ℕ)
Cut bs = take (position_or_len (same_byte 10) bs) bs ∷ lines (drop (position_or_len (same_byte 10) bs + 1) bs)

begins_more : (b : ℕ) (bs : List ℕ) → (0 < length bs → lines bs ≡ Cut bs) → begins b (lines bs) ≡ (b ∷ take (position_or_len (same_byte 10) bs) bs) ∷ lines (drop (position_or_len (same_byte 10) bs + 1) bs)
begins_more b [] h = refl
begins_more b (c ∷ cs) h = ap (begins b) (h (omega arith))

pub lines_more : (bs : List ℕ) → 0 < length bs → lines bs ≡ Cut bs
lines_more [] h = absurd (omega arith)
lines_more (b ∷ bs) h =
    ⊎_elim
    (λ t.
    cond-true (eqb b 10) _ _ t
    ∙ ap (λ j. take j (b ∷ bs) ∷ lines (drop (j + 1) (b ∷ bs))) (sym (mark_here (same_byte 10) b bs t)))
    (λ t.
    cond-false (eqb b 10) _ _ t ∙ begins_more b bs (lines_more bs)
    ∙ ap (λ j. (b ∷ take (position_or_len (same_byte 10) bs) bs) ∷ lines (drop j (b ∷ bs))) (ap suc (add-one _) ∙ sym (add-one _))
    ∙ ap (λ j. take j (b ∷ bs) ∷ lines (drop (j + 1) (b ∷ bs))) (sym (add-one _) ∙ sym (mark_later (same_byte 10) b bs t)))
    (cases_Bool (eqb b 10))

-- one line is read from `at`, and the next one begins at `next`
pub record Step (text : List ℕ) (at m next : ℕ) (after raw : List ℕ) : Type 0 where
  pub is : after ≡ drop at text
  pub inside : at < length text
  pub stops : m ≡ position_or_len (same_byte 10) after
  pub within : m ≤ length after
  pub cut : raw ≡ take m after
  pub on : next ≡ at + min (m + 1) (length after)

module _ (k : Rules) (n : ℕ) {text : List ℕ} {at m next : ℕ} {after raw : List ℕ} (s : Step text at m next after raw) where
  tail : items k (n + 1) (at + length raw + 1) (lines (drop (m + 1) after)) ≡ rest k text next (n + 1)
  tail =
      let long = ap length s.is ∙ length-drop at text in
      ⊎_elim
      (λ h.
      let gone : drop (m + 1) after ≡ [] = drop_all (m + 1) after (omega arith) in
      let end : drop next text ≡ [] = drop_all next text (omega (arith, s.on, s.inside)) in
      ap (λ l. items k (n + 1) (at + length raw + 1) (lines l)) gone ∙ ap (λ l. items k (n + 1) next (lines l)) (sym end))
      (λ h.
      let size : length raw ≡ m = ap length s.cut ∙ length-take-le m after s.within in
      let place : at + length raw + 1 ≡ next = omega (arith, s.on) in
      let there : at + (m + 1) ≡ next = omega (arith, s.on) in
      ap (λ j. items k (n + 1) j (lines (drop (m + 1) after))) place ∙ ap (λ l. items k (n + 1) next (lines l)) (ap (drop (m + 1)) s.is ∙ drop-drop (m + 1) at text ∙ ap (λ j. drop j text) there))
      (cases_lt (length after) (m + 1))

  pub rest_more : rest k text at n ≡ item n (judged k n at raw) ++ rest k text next (n + 1)
  rest_more =
      let long = ap length s.is ∙ length-drop at text in
      let some : 0 < length after = omega (arith, s.inside) in
      ap (λ l. items k n at (lines l)) (sym s.is) ∙ ap (items k n at) (lines_more after some ∙ ap (λ j. take j after ∷ lines (drop (j + 1) after)) (sym s.stops) ∙ ap (λ l. l ∷ lines (drop (m + 1) after)) (sym s.cut))
      ∙ ap (λ l. item n (judged k n at raw) ++ l) tail

  module _ (old : List Item) (same : rest k text at n ≡ old) where
    -- what the reader still has to give after this line
    pub skips : judged k n at raw ≡ Ok [] → rest k text next (n + 1) ≡ old
    skips e = sym (ap (λ j. item n j ++ rest k text next (n + 1)) e) ∙ sym rest_more ∙ same

    pub gives_line : (ws : List Part) → judged k n at raw ≡ Ok ws → 0 < length ws → old ≡ holds n ws ∷ rest k text next (n + 1)
    gives_line [] e h = absurd (omega arith)
    gives_line (w ∷ ws) e h = sym same ∙ rest_more ∙ ap (λ j. item n j ++ rest k text next (n + 1)) e

    pub gives_fault : (e : ReadFault) → Found (judged k n at raw) n (Err e) → Gives old (rest k text at n) (Err e)
    gives_fault (Text f) h = (same, ap first (sym same ∙ rest_more ∙ ap (λ j. item n j ++ rest k text next (n + 1)) h.0) ∙ ap (λ j. Some (faulty j (wrong_of f))) (sym h.1))
    gives_fault Memory h = (same, subst Ready same (subst Ready (sym rest_more) (ready (judged k n at raw) h)))
      where
        ready : (j : Result (List Part) Wrong) → Wordy j → Ready (item n j ++ rest k text next (n + 1))
        ready (Ok []) w = absurd w
        ready (Ok (v ∷ vs)) w = tt
        ready (Err f) w = absurd w

pub rest-none : (k : Rules) (text : List ℕ) (at n : ℕ) → length text ≤ at → rest k text at n ≡ []
rest-none k text at n h = ap (λ l. items k n at (lines l)) (drop_all at text h)
