-- The words that are read stand in the text.
use Rattle.std.proofs.Common.{◌≡◌, ℕ, ◌+◌, ◌<◌, min, Bool, true, false, cond, not, ◌||◌, eqb, leb, List, [], ◌∷◌, ◌++◌, length, get_or, take, drop, None, Ok, sym, refl, ap, ◌∙◌, subst, append_assoc, add-zero, zero-add, arith, length-drop, take-append-drop}
use Rattle.std.specs.List.{AllByRecursion, list_all, position_or_len}
use Rattle.std.proofs.ByRecursion.{all_kept_by}
use Rattle.std.proofs.lemmas.List.{drop-drop, take_at, take_more, get_or-drop}
use Rattle.std.proofs.lemmas.Bool.{cond_both, and_parts, and_from, not-true, not_from_false}
use Rattle.text.specs.Rules.{Rules, separates, allowed, word_byte}
use Rattle.text.specs.Words.{Part, part, onto, parts, is_word_lem, words, fits}
use Rattle.text.specs.Lines.{shown, first_wrong, wrong, verdict, judged, lines, begins, Item, faulty, item, items, rest}
use Rattle.text.specs.Standing.{newlines, Stands, AllStand, WordsStand}
use Rattle.text.proofs.Cuts.{shown_is}

-- bs stands in the text at `at`
abbrev Begins : List ℕ → ℕ → List ℕ → Type 0
Begins text at bs = (tail : List ℕ) × (drop at text ≡ bs ++ tail)

-- line n is the one that the byte at `at` stands on
abbrev Row : List ℕ → ℕ → ℕ → Type 0
Row text at n = n ≡ newlines (take at text) + 1

-- no line ends in bs
abbrev Free : List ℕ → Type 0
Free bs = list_all (λ b. not (eqb b 10)) bs ≡ true

abbrev Placed : List ℕ → ℕ → Part → Type 0
Placed text n p = (p.line ≡ n) × Begins text p.place p.bytes × Row text p.place n

-- each byte of a part passes
abbrev Throughout : (ℕ → Bool) → Part → Type 0
Throughout pass p = list_all pass p.bytes ≡ true

abbrev uncommented : ℕ → Bool
uncommented b = not (eqb b 35)

-- the first part, if any, begins at `at`
abbrev First : ℕ → List Part → Type 0
First at [] = Unit {0}
First at (p ∷ ps) = p.place ≡ at

next : (text : List ℕ) (at b : ℕ) (bs : List ℕ) → drop at text ≡ b ∷ bs → drop (at + 1) text ≡ bs
next text at b bs e = sym (drop-drop 1 at text) ∙ ap (drop 1) e

-- ---- lines counted

bump : (t : Bool) (j i c : ℕ) → j ≡ i + c → cond t (j + 1) j ≡ cond t (i + 1) i + c
bump true j i c e = omega arith
bump false j i c e = e

newlines-push : (xs : List ℕ) (b : ℕ) → newlines (xs ++ b ∷ []) ≡ newlines xs + cond (eqb b 10) 1 0
newlines-push [] b = sym (zero-add (cond (eqb b 10) 1 0))
newlines-push (x ∷ xs) b = bump (eqb x 10) (newlines (xs ++ b ∷ [])) (newlines xs) (cond (eqb b 10) 1 0) (newlines-push xs b)

module _ (text : List ℕ) (at n b : ℕ) (bs : List ℕ) (e : drop at text ≡ b ∷ bs) (row : Row text at n) where
  counted : newlines (take (at + 1) text) ≡ newlines (take at text) + cond (eqb b 10) 1 0
  counted =
      let long = sym (length-drop at text) ∙ ap length e in
      let inside : at < length text = omega arith in
      let here : get_or text at 0 ≡ b = ap (λ j. get_or text j 0) (sym (add-zero at)) ∙ sym (get_or-drop at text 0 0) ∙ ap (λ l. get_or l 0 0) e in
      ap newlines (take_more text at 0 inside ∙ ap (λ c. take at text ++ c ∷ []) here) ∙ newlines-push (take at text) b

  row_plain : eqb b 10 ≡ false → Row text (at + 1) n
  row_plain t = let c = counted ∙ ap (λ x. newlines (take at text) + cond x 1 0) t in omega (arith, c, row)

  row_end : eqb b 10 ≡ true → Row text (at + 1) (n + 1)
  row_end t = let c = counted ∙ ap (λ x. newlines (take at text) + cond x 1 0) t in omega (arith, c, row)

free_shown : (bs : List ℕ) → Free bs → Free (shown bs)
free_shown [] h = refl
free_shown (b ∷ bs) h =
    let both = and_parts (not (eqb b 10)) (list_all (λ c. not (eqb c 10)) bs) h in
    cond_both (eqb b 35) [] (b ∷ shown bs) Free (λ _. refl) (λ _. and_from (not (eqb b 10)) (list_all (λ c. not (eqb c 10)) (shown bs)) both.0 (free_shown bs both.1))

shown_uncommented : (bs : List ℕ) → list_all uncommented (shown bs) ≡ true
shown_uncommented [] = refl
shown_uncommented (b ∷ bs) =
    cond_both (eqb b 35) [] (b ∷ shown bs) (λ l. list_all uncommented l ≡ true) (λ _. refl) (λ t. and_from (uncommented b) (list_all uncommented (shown bs)) (not_from_false (eqb b 35) t) (shown_uncommented bs))

-- ---- the words of a line

module _ (k : Rules) (text : List ℕ) (n : ℕ) where
  grown : (at b : ℕ) (rest : List ℕ) (ps : List Part) → drop at text ≡ b ∷ rest → Row text at n → First (at + 1) ps × AllByRecursion (Placed text n) ps → First at (onto at b ps) × AllByRecursion (Placed text n) (onto at b ps)
  grown at b rest [] e row h = (tt, tt)
  grown at b rest (p ∷ ps) e row h =
      let tail = h.1.0.1.0 in
      let here : drop at text ≡ b ∷ (p.bytes ++ tail) =
      e ∙ ap (λ l. b ∷ l) (sym (next text at b rest e) ∙ ap (λ j. drop j text) (sym h.0) ∙ h.1.0.1.1) in
      (refl, ((h.1.0.0, (tail, here), row), h.1.1))

  parts-placed : (at : ℕ) (bs tail : List ℕ) → drop at text ≡ bs ++ tail → Row text at n → Free bs → First at (parts k n at bs) × AllByRecursion (Placed text n) (parts k n at bs)
  parts-placed at [] tail e row f = (refl, ((refl, (drop at text, refl), row), tt))
  parts-placed at (b ∷ bs) tail e row f =
      let both = and_parts (not (eqb b 10)) (list_all (λ c. not (eqb c 10)) bs) f in
      let after = parts-placed (at + 1) bs tail (next text at b (bs ++ tail) e) (row_plain text at n b (bs ++ tail) e row (not-true (eqb b 10) both.0)) both.1 in
      cond_both (separates k b) (part at n [] ∷ parts k n (at + 1) bs) (onto at b (parts k n (at + 1) bs)) (λ l. First at l × AllByRecursion (Placed text n) l)
      (λ _. (refl, ((refl, (drop at text, refl), row), after.1)))
      (λ _. grown at b (bs ++ tail) (parts k n (at + 1) bs) e row after)

  words_placed : (at : ℕ) (bs tail : List ℕ) → drop at text ≡ bs ++ tail → Row text at n → Free bs → AllByRecursion (Placed text n) (words k n at bs)
  words_placed at [] tail e row f = tt
  words_placed at (b ∷ bs) tail e row f = all_kept_by (λ p. is_word_lem k p.bytes) (Placed text n) (parts k n at (b ∷ bs)) (parts-placed at (b ∷ bs) tail e row f).1

  -- what each byte of a line but its separators passes, each byte of its words passes
  module _ (given pass : ℕ → Bool) (passes : (b : ℕ) → separates k b ≡ false → given b ≡ true → pass b ≡ true) where
    spell : (at b : ℕ) (ps : List Part) → pass b ≡ true → AllByRecursion (Throughout pass) ps → AllByRecursion (Throughout pass) (onto at b ps)
    spell at b [] w h = tt
    spell at b (p ∷ ps) w h = (and_from (pass b) (list_all pass p.bytes) w h.0, h.1)

    parts_pass : (at : ℕ) (bs : List ℕ) → list_all given bs ≡ true → AllByRecursion (Throughout pass) (parts k n at bs)
    parts_pass at [] e = (refl, tt)
    parts_pass at (b ∷ bs) e =
        let both = and_parts (given b) (list_all given bs) e in
        let after = parts_pass (at + 1) bs both.1 in
        cond_both (separates k b) (part at n [] ∷ parts k n (at + 1) bs) (onto at b (parts k n (at + 1) bs)) (AllByRecursion (Throughout pass))
        (λ _. (refl, after))
        (λ t. spell at b (parts k n (at + 1) bs) (passes b t both.0) after)

    words_pass : (at : ℕ) (bs : List ℕ) → list_all given bs ≡ true → AllByRecursion (Throughout pass) (words k n at bs)
    words_pass at [] e = tt
    words_pass at (b ∷ bs) e = all_kept_by (λ p. is_word_lem k p.bytes) (Throughout pass) (parts k n at (b ∷ bs)) (parts_pass at (b ∷ bs) e)

  words_clean : (at : ℕ) (bs : List ℕ) → list_all (allowed k) bs ≡ true → AllByRecursion (Throughout word_byte) (words k n at bs)
  words_clean = words_pass (allowed k) word_byte (λ b t e. sym (ap (λ x. x || word_byte b) t) ∙ e)

  words_uncommented : (at : ℕ) (bs : List ℕ) → AllByRecursion (Throughout uncommented) (words k n at (shown bs))
  words_uncommented at bs = words_pass uncommented uncommented (λ b t e. e) at (shown bs) (shown_uncommented bs)

  standing : (ws : List Part) → AllByRecursion (Placed text n) ws → AllByRecursion (Throughout word_byte) ws → AllByRecursion (Throughout uncommented) ws → list_all (λ p. fits p.bytes) ws ≡ true → AllByRecursion (Stands text n) ws
  standing [] h c u e = tt
  standing (w ∷ ws) h c u e =
      let both = and_parts (fits w.bytes) (list_all (λ p. fits p.bytes) ws) e in
      (record { line = h.0.0; counted = h.0.2; there = ap (take (length w.bytes)) h.0.1.1 ∙ take_at w.bytes h.0.1.0 (length w.bytes) refl; right = both.0; clean = c.0; uncommented = u.0 }, standing ws h.1 c.1 u.1 both.1)

  stand_words : (ws : List Part) (more : List Item) → AllByRecursion (Stands text n) ws → AllStand text more → AllStand text (item n (Ok ws) ++ more)
  stand_words [] more h m = m
  stand_words (w ∷ ws) more h m = (h, m)

  stand_judged : (x y : Bool) (ws : List Part) (more : List Item) → list_all (λ p. fits p.bytes) ws ≡ y → AllByRecursion (Placed text n) ws → (x ≡ true → AllByRecursion (Throughout word_byte) ws) → AllByRecursion (Throughout uncommented) ws → AllStand text more → AllStand text (item n (verdict (first_wrong x y) ws) ++ more)
  stand_judged false y ws more e h c u m = m
  stand_judged true false ws more e h c u m = m
  stand_judged true true ws more e h c u m = stand_words ws more (standing ws h (c refl) u e) m

  stand_line : (at : ℕ) (bs tail : List ℕ) (more : List Item) → drop at text ≡ bs ++ tail → Row text at n → Free bs → AllStand text more → AllStand text (item n (judged k n at bs) ++ more)
  stand_line at bs tail more e row f m =
      let u = position_or_len (λ b. eqb b 35) bs in
      let split : bs ++ tail ≡ shown bs ++ (drop u bs ++ tail) =
      ap (λ l. l ++ tail) (sym (take-append-drop u bs)) ∙ append_assoc (take u bs) (drop u bs) tail ∙ ap (λ l. l ++ (drop u bs ++ tail)) (shown_is bs) in
      stand_judged (list_all (allowed k) (shown bs)) (list_all (λ p. fits p.bytes) (words k n at (shown bs))) (words k n at (shown bs)) more refl (words_placed at (shown bs) (drop u bs ++ tail) (e ∙ split) row (free_shown bs f)) (words_clean at (shown bs)) (words_uncommented at bs) m

-- each line stands where it is said to begin, under its number
abbrev Lined : List ℕ → ℕ → ℕ → List (List ℕ) → Type 0
Lined text n at [] = Unit {0}
Lined text n at (l ∷ ls) = Begins text at l × Row text at n × Free l × Lined text (n + 1) (at + length l + 1) ls

begun : (text : List ℕ) (n at b : ℕ) (bs : List ℕ) (ls : List (List ℕ)) → drop at text ≡ b ∷ bs → Row text at n → not (eqb b 10) ≡ true → Lined text n (at + 1) ls → Lined text n at (begins b ls)
begun text n at b bs [] e row t h = ((bs, e), row, and_from (not (eqb b 10)) true t refl, tt)
begun text n at b bs (l ∷ ls) e row t h =
    let on : at + 1 + length l + 1 ≡ at + length (b ∷ l) + 1 = omega arith in
    ((h.0.0, e ∙ ap (λ t. b ∷ t) (sym (next text at b bs e) ∙ h.0.1)), row, and_from (not (eqb b 10)) (list_all (λ c. not (eqb c 10)) l) t h.2, subst (λ j. Lined text (n + 1) j ls) on h.3)

lined : (text : List ℕ) (n at : ℕ) (bs : List ℕ) → drop at text ≡ bs → Row text at n → Lined text n at (lines bs)
lined text n at [] e row = tt
lined text n at (b ∷ bs) e row =
    cond_both (eqb b 10) ([] ∷ lines bs) (begins b (lines bs)) (Lined text n at)
    (λ t. ((b ∷ bs, e), row, refl, subst (λ j. Lined text (n + 1) (j + 1) (lines bs)) (sym (add-zero at)) (lined text (n + 1) (at + 1) bs (next text at b bs e) (row_end text at n b bs e row t))))
    (λ t. begun text n at b bs (lines bs) e row (not_from_false (eqb b 10) t) (lined text n (at + 1) bs (next text at b bs e) (row_plain text at n b bs e row t)))

stand_items : (k : Rules) (text : List ℕ) (n at : ℕ) (ls : List (List ℕ)) → Lined text n at ls → AllStand text (items k n at ls)
stand_items k text n at [] h = tt
stand_items k text n at (l ∷ ls) h =
    stand_line k text n at l h.0.0 (items k (n + 1) (at + length l + 1) ls) h.0.1 h.1 h.2 (stand_items k text (n + 1) (at + length l + 1) ls h.3)

pub words-stand : WordsStand
words-stand k limit text =
    cond_both (leb (length text) (min limit 1048576)) (rest k text 0 1) (faulty 0 (wrong 30 None) ∷ []) (AllStand text) (λ _. stand_items k text 1 0 (lines text) (lined text 1 0 text refl refl)) (λ _. tt)
