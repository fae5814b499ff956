-- Lines of words, spelled and taken apart again.
use Rattle.std.proofs.Common.{◌≡◌, ℕ, suc, ◌+◌, ◌≤◌, Bool, true, false, cond, not, ◌&&◌, ◌||◌, eqb, leb, List, [], ◌∷◌, ◌++◌, map, length, filter, None, Ok, Result, sym, refl, ap, ◌∙◌, subst, ⊎_elim, append_assoc, arith}
use Rattle.std.specs.List.{list_all, join_with_byte}
use Rattle.std.proofs.lemmas.Bool.{cond-true, cond-false, cases_Bool, and_parts, and_from, leb-true, eqb-true, not-true}
use Rattle.std.proofs.lemmas.List.Folds.{list_all-append}
use Rattle.text.specs.Rules.{Rules, file_rules, separates, allowed, word_byte}
use Rattle.text.specs.Words.{Part, onto, parts, is_word_lem, words, fits}
use Rattle.text.specs.Lines.{shown, first_wrong, lines, begins, Wrong, verdict, judged, Item, holds, item, items}
use Rattle.blif.specs.Statement.{Words, name_byte, is_name, is_line}
use Rattle.blif.specs.Written.{spelled}
use Rattle.blif.specs.Rows.{row_of, words_of, AreLines, SpellingHolds}

-- ---- bytes

differs : (b c : ℕ) → (b ≡ c → ⊥) → eqb b c ≡ false
differs b c h = ⊎_elim (λ t. absurd (h (eqb-true b c t))) (λ f. f) (cases_Bool (eqb b c))

pub record Plain (b : ℕ) : Type 0 where
  pub unparted : separates file_rules b ≡ false
  pub allowed' : allowed file_rules b ≡ true
  pub uncut : eqb b 35 ≡ false
  pub unended : eqb b 10 ≡ false

plain : (b : ℕ) → name_byte b ≡ true → Plain b
plain b e =
    let both = and_parts (word_byte b) (not (eqb b 35)) e in
    let low : 33 ≤ b = leb-true 33 b (and_parts (leb 33 b) _ both.0).0 in
    let apart : separates file_rules b ≡ false = ap (λ t. t || eqb b 9) (differs b 32 (λ h. omega arith)) ∙ differs b 9 (λ h. omega arith) in
    record {
      unparted = apart;
      allowed' = ap (λ t. t || word_byte b) apart ∙ both.0;
      uncut = not-true (eqb b 35) both.1;
      unended = differs b 10 (λ h. omega arith);
    }

-- ---- a test that each name byte and the blank pass

module _ (p : ℕ → Bool) (named : (b : ℕ) → name_byte b ≡ true → p b ≡ true) where
  pub each_passes : (w : List ℕ) → list_all name_byte w ≡ true → list_all p w ≡ true
  each_passes [] e = refl
  each_passes (b ∷ w) e = let both = and_parts (name_byte b) (list_all name_byte w) e in and_from (p b) (list_all p w) (named b both.0) (each_passes w both.1)

  module _ (blank : p 32 ≡ true) where
    pub join-passes : (w : List ℕ) (ws : Words) → is_line (w ∷ ws) ≡ true → list_all p (join_with_byte 32 (w ∷ ws)) ≡ true
    join-passes w [] e = each_passes w (and_parts (fits w) _ (and_parts (is_name w) true e).0).1
    join-passes w (v ∷ ws) e =
        let both = and_parts (is_name w) (list_all is_name (v ∷ ws)) e in
        list_all-append p w (32 ∷ join_with_byte 32 (v ∷ ws))
        ∙ and_from (list_all p w) (p 32 && list_all p (join_with_byte 32 (v ∷ ws))) (each_passes w (and_parts (fits w) _ both.0).1) (and_from (p 32) _ blank (join-passes v ws both.1))

-- ---- the words of a line, wherever it stands

abbrev bytes_of : List Part → Words
bytes_of ps = map (λ p. p.bytes) ps

abbrev front : ℕ → Words → Words
front b [] = []
front b (w ∷ ws) = (b ∷ w) ∷ ws

abbrev pieces : Rules → List ℕ → Words
pieces k [] = [] ∷ []
pieces k (b ∷ bs) = cond (separates k b) ([] ∷ pieces k bs) (front b (pieces k bs))

onto-bytes : (at b : ℕ) (ps : List Part) → bytes_of (onto at b ps) ≡ front b (bytes_of ps)
onto-bytes at b [] = refl
onto-bytes at b (p ∷ ps) = refl

module _ (k : Rules) (n : ℕ) where
  parts-bytes : (at : ℕ) (bs : List ℕ) → bytes_of (parts k n at bs) ≡ pieces k bs
  parts-bytes at [] = refl
  parts-bytes at (b ∷ bs) =
      ⊎_elim
      (λ t. ap bytes_of (cond-true (separates k b) _ _ t) ∙ ap (λ l. [] ∷ l) (parts-bytes (at + 1) bs) ∙ sym (cond-true (separates k b) _ _ t))
      (λ t. ap bytes_of (cond-false (separates k b) _ _ t) ∙ onto-bytes at b (parts k n (at + 1) bs) ∙ ap (front b) (parts-bytes (at + 1) bs) ∙ sym (cond-false (separates k b) _ _ t))
      (cases_Bool (separates k b))

  filter-bytes : (ps : List Part) → bytes_of (filter (λ p. is_word_lem k p.bytes) ps) ≡ filter (is_word_lem k) (bytes_of ps)
  filter-bytes [] = refl
  filter-bytes (p ∷ ps) =
      ⊎_elim
      (λ t. ap bytes_of (cond-true (is_word_lem k p.bytes) _ _ t) ∙ ap (λ l. p.bytes ∷ l) (filter-bytes ps) ∙ sym (cond-true (is_word_lem k p.bytes) _ _ t))
      (λ t. ap bytes_of (cond-false (is_word_lem k p.bytes) _ _ t) ∙ filter-bytes ps ∙ sym (cond-false (is_word_lem k p.bytes) _ _ t))
      (cases_Bool (is_word_lem k p.bytes))

pieces-last : (w : List ℕ) → list_all name_byte w ≡ true → pieces file_rules w ≡ w ∷ []
pieces-last [] e = refl
pieces-last (b ∷ w) e =
    let both = and_parts (name_byte b) (list_all name_byte w) e in
    cond-false (separates file_rules b) _ _ (plain b both.0).unparted ∙ ap (front b) (pieces-last w both.1)

pieces-more : (w bs : List ℕ) → list_all name_byte w ≡ true → pieces file_rules (w ++ 32 ∷ bs) ≡ w ∷ pieces file_rules bs
pieces-more [] bs e = refl
pieces-more (b ∷ w) bs e =
    let both = and_parts (name_byte b) (list_all name_byte w) e in
    cond-false (separates file_rules b) _ _ (plain b both.0).unparted ∙ ap (front b) (pieces-more w bs both.1)

pieces-join : (w : List ℕ) (ws : Words) → is_line (w ∷ ws) ≡ true → pieces file_rules (join_with_byte 32 (w ∷ ws)) ≡ w ∷ ws
pieces-join w [] e = pieces-last w (and_parts (fits w) _ (and_parts (is_name w) true e).0).1
pieces-join w (v ∷ ws) e =
    let both = and_parts (is_name w) (list_all is_name (v ∷ ws)) e in
    pieces-more w (join_with_byte 32 (v ∷ ws)) (and_parts (fits w) _ both.0).1 ∙ ap (λ l. w ∷ l) (pieces-join v ws both.1)

-- no piece is empty, so all are words
filter-named : (ws : Words) → list_all is_name ws ≡ true → filter (is_word_lem file_rules) ws ≡ ws
filter-named [] e = refl
filter-named ([] ∷ ws) e = absurd (false_is_true (and_parts false (list_all is_name ws) e).0)
  where
    false_is_true : false ≡ true → ⊥
    false_is_true h = cc
filter-named ((b ∷ w) ∷ ws) e =
    cond-true (is_word_lem file_rules (b ∷ w)) _ _ (ap not (differs (suc (length w)) 0 (λ h. omega arith))) ∙ ap (λ l. (b ∷ w) ∷ l) (filter-named ws (and_parts (is_name (b ∷ w)) (list_all is_name ws) e).1)

words-pieces : (n at : ℕ) (bs : List ℕ) (w : List ℕ) (ws : Words) → pieces file_rules bs ≡ w ∷ ws → list_all is_name (w ∷ ws) ≡ true → bytes_of (words file_rules n at bs) ≡ w ∷ ws
words-pieces n at [] [] ws e h = absurd (cc)
words-pieces n at [] (b ∷ w) ws e h = absurd (cc)
words-pieces n at (b ∷ bs) w ws e h =
    filter-bytes file_rules n (parts file_rules n at (b ∷ bs)) ∙ ap (filter (is_word_lem file_rules)) (parts-bytes file_rules n at (b ∷ bs) ∙ e) ∙ filter-named (w ∷ ws) h

all_fit : (ps : List Part) (ws : Words) → bytes_of ps ≡ ws → list_all is_name ws ≡ true → list_all (λ p. fits p.bytes) ps ≡ true
all_fit ps ws e h = fit ps (subst (λ l. list_all is_name l ≡ true) (sym e) h)
  where
    fit : (ps : List Part) → list_all is_name (bytes_of ps) ≡ true → list_all (λ p. fits p.bytes) ps ≡ true
    fit [] h = refl
    fit (p ∷ ps) h =
        let both = and_parts (is_name p.bytes) (list_all is_name (bytes_of ps)) h in
        and_from (fits p.bytes) (list_all (λ q. fits q.bytes) ps) (and_parts (fits p.bytes) _ both.0).0 (fit ps both.1)

uncommented : (bs : List ℕ) → list_all (λ b. not (eqb b 35)) bs ≡ true → shown bs ≡ bs
uncommented [] e = refl
uncommented (b ∷ bs) e =
    let both = and_parts (not (eqb b 35)) (list_all (λ c. not (eqb c 35)) bs) e in
    cond-false (eqb b 35) _ _ (not-true (eqb b 35) both.0) ∙ ap (λ l. b ∷ l) (uncommented bs both.1)

-- ---- a line counts once

abbrev Is : Words → List Item → Type 0
Is ws is = (n : ℕ) × (ps : List Part) × (is ≡ holds n ps ∷ []) × (bytes_of ps ≡ ws)

item-is : (n : ℕ) (ps : List Part) (j : Result (List Part) Wrong) (w : List ℕ) (ws : Words) → bytes_of ps ≡ w ∷ ws → j ≡ Ok ps → Is (w ∷ ws) (item n j)
item-is n [] j w ws same e = absurd (cc)
item-is n (p ∷ ps) j w ws same e = (n, p ∷ ps, ap (item n) e, same)

line-item : (n at : ℕ) (w : List ℕ) (ws : Words) → is_line (w ∷ ws) ≡ true → Is (w ∷ ws) (item n (judged file_rules n at (join_with_byte 32 (w ∷ ws))))
line-item n at w ws e =
    let bs = join_with_byte 32 (w ∷ ws) in
    let whole : shown bs ≡ bs = uncommented bs (join-passes (λ b. not (eqb b 35)) (λ b h. ap not (plain b h).uncut) refl w ws e) in
    let same : bytes_of (words file_rules n at bs) ≡ w ∷ ws = words-pieces n at bs w ws (pieces-join w ws e) e in
    let right : list_all (allowed file_rules) bs ≡ true = join-passes (allowed file_rules) (λ b h. (plain b h).allowed') refl w ws e in
    let fit = all_fit (words file_rules n at bs) (w ∷ ws) same e in
    let good : first_wrong (list_all (allowed file_rules) bs) (list_all (λ p. fits p.bytes) (words file_rules n at bs)) ≡ None = ap (λ t. first_wrong t (list_all (λ p. fits p.bytes) (words file_rules n at bs))) right ∙ ap (first_wrong true) fit in
    item-is n (words file_rules n at bs) _ w ws same
    (ap (λ l. verdict (first_wrong (list_all (allowed file_rules) l) (list_all (λ p. fits p.bytes) (words file_rules n at l))) (words file_rules n at l)) whole ∙ ap (λ f. verdict f (words file_rules n at bs)) good)

-- ---- a text of lines

line-cut : (l rest : List ℕ) → list_all (λ b. not (eqb b 10)) l ≡ true → lines (l ++ 10 ∷ rest) ≡ l ∷ lines rest
line-cut [] rest e = refl
line-cut (b ∷ l) rest e =
    let both = and_parts (not (eqb b 10)) (list_all (λ c. not (eqb c 10)) l) e in
    cond-false (eqb b 10) _ _ (not-true (eqb b 10) both.0) ∙ ap (begins b) (line-cut l rest both.1)

lines-spelled : (ls : List Words) → list_all is_line ls ≡ true → lines (spelled ls) ≡ map (join_with_byte 32) ls
lines-spelled [] e = refl
lines-spelled ([] ∷ ls) e = absurd (cc)
lines-spelled ((w ∷ ws) ∷ ls) e =
    let both = and_parts (is_line (w ∷ ws)) (list_all is_line ls) e in
    let l = join_with_byte 32 (w ∷ ws) in
    ap lines (append_assoc l (10 ∷ []) (spelled ls))
    ∙ line-cut l (spelled ls) (join-passes (λ b. not (eqb b 10)) (λ b h. ap not (plain b h).unended) refl w ws both.0) ∙ ap (λ t. l ∷ t) (lines-spelled ls both.1)

one-more : (n : ℕ) (ps : List Part) (is more : List Item) (ws : Words) (ls : List Words) → is ≡ holds n ps ∷ [] → bytes_of ps ≡ ws → AreLines (map row_of more) ls → AreLines (map row_of (is ++ more)) (ws ∷ ls)
one-more n ps is more ws ls e same h =
    subst (λ x. AreLines (map row_of (x ++ more)) (ws ∷ ls)) (sym e) ((refl, h.0), ap (λ v. v ∷ map words_of (map row_of more)) same ∙ ap (λ v. ws ∷ v) h.1)

items-spelled : (n at : ℕ) (ls : List Words) → list_all is_line ls ≡ true → AreLines (map row_of (items file_rules n at (map (join_with_byte 32) ls))) ls
items-spelled n at [] e = (tt, refl)
items-spelled n at ([] ∷ ls) e = absurd (cc)
items-spelled n at ((w ∷ ws) ∷ ls) e =
    let both = and_parts (is_line (w ∷ ws)) (list_all is_line ls) e in
    let first = line-item n at w ws both.0 in
    one-more first.0 first.1 _ _ (w ∷ ws) ls first.2 first.3 (items-spelled (n + 1) _ ls both.1)

pub spelling-holds : SpellingHolds
spelling-holds ls e = subst (λ l. AreLines (map row_of (items file_rules 1 0 l)) ls) (sym (lines-spelled ls e)) (items-spelled 1 0 ls e)
