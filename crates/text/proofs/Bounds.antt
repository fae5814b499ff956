-- A text holds no more words than bytes: each word that is read has a byte of its own.
use Rattle.std.proofs.Common.{◌≡◌, ℕ, ◌+◌, ◌≤◌, Bool, true, false, not, eqb, leb, min, List, [], ◌∷◌, ◌++◌, length, None, Ok, refl, arith}
use Rattle.std.specs.List.{list_all, sum_by}
use Rattle.std.proofs.lemmas.Bool.{cond_both, and_parts, not-true, eqb-false}
use Rattle.std.proofs.lemmas.List.Sums.{sum_by-cons}
use Rattle.std.proofs.lemmas.List.Filters.{sum_by-filter_both}
use Rattle.text.specs.Rules.{Rules, separates, allowed}
use Rattle.text.specs.Words.{Part, part, onto, parts, is_word_lem, words, fits}
use Rattle.text.specs.Lines.{shown, first_wrong, wrong, verdict, lines, begins, Item, faulty, item, items, rest}
use Rattle.text.specs.Standing.{word_count, WordsBounded}

-- the bytes of parts together, and of lines
abbrev letters : List Part → ℕ
letters ps = sum_by (λ p. length p.bytes) ps

abbrev size : List (List ℕ) → ℕ
size ls = sum_by length ls

letters_onto : (at b : ℕ) (ps : List Part) → letters (onto at b ps) ≤ letters ps + 1
letters_onto at b [] = omega arith
letters_onto at b (p ∷ ps) =
    omega (arith, sum_by-cons (λ q. length q.bytes) (part at p.line (b ∷ p.bytes)) ps, sum_by-cons (λ q. length q.bytes) p ps)

letters_parts : (k : Rules) (n at : ℕ) (bs : List ℕ) → letters (parts k n at bs) ≤ length bs
letters_parts k n at [] = omega arith
letters_parts k n at (b ∷ bs) =
    let more = letters_parts k n (at + 1) bs in
    cond_both (separates k b) (part at n [] ∷ parts k n (at + 1) bs) (onto at b (parts k n (at + 1) bs)) (λ ps. letters ps ≤ length (b ∷ bs))
    (λ _. omega (arith, more, sum_by-cons (λ q. length q.bytes) (part at n []) (parts k n (at + 1) bs)))
    (λ _. omega (arith, more, letters_onto at b (parts k n (at + 1) bs)))

letters_words : (k : Rules) (n at : ℕ) (bs : List ℕ) → letters (words k n at bs) ≤ length bs
letters_words k n at [] = omega arith
letters_words k n at (b ∷ bs) =
    let word : Part → Bool = λ p. is_word_lem k p.bytes in
    let all = parts k n at (b ∷ bs) in
    omega (arith, letters_parts k n at (b ∷ bs), sum_by-filter_both word (λ p. not (word p)) (λ _. refl) (λ p. length p.bytes) all)

-- a word that fits has a byte
counted : (ws : List Part) → list_all (λ p. fits p.bytes) ws ≡ true → length ws ≤ letters ws
counted [] e = omega arith
counted (w ∷ ws) e =
    let both = and_parts (fits w.bytes) (list_all (λ p. fits p.bytes) ws) e in
    let some = eqb-false (length w.bytes) 0 (not-true _ (and_parts (not (eqb (length w.bytes) 0)) (leb (length w.bytes) 32) both.0).0) in
    omega (arith, some, counted ws both.1, sum_by-cons (λ q. length q.bytes) w ws)

shown_shorter : (bs : List ℕ) → length (shown bs) ≤ length bs
shown_shorter [] = omega arith
shown_shorter (b ∷ bs) =
    let more = shown_shorter bs in
    cond_both (eqb b 35) [] (b ∷ shown bs) (λ l. length l ≤ length (b ∷ bs)) (λ _. omega arith) (λ _. omega arith)

counted_words : (n : ℕ) (ws : List Part) (more : List Item) → word_count (item n (Ok ws) ++ more) ≡ length ws + word_count more
counted_words n [] more = omega arith
counted_words n (w ∷ ws) more = refl

counted_verdict : (n m : ℕ) (x y : Bool) (ws : List Part) (more : List Item) → list_all (λ p. fits p.bytes) ws ≡ y → letters ws ≤ m → word_count (item n (verdict (first_wrong x y) ws) ++ more) ≤ m + word_count more
counted_verdict n m false y ws more e h = omega arith
counted_verdict n m true false ws more e h = omega arith
counted_verdict n m true true ws more e h = omega (arith, h, counted ws e, counted_words n ws more)

counted_items : (k : Rules) (n at : ℕ) (ls : List (List ℕ)) → word_count (items k n at ls) ≤ size ls
counted_items k n at [] = omega arith
counted_items k n at (l ∷ ls) =
    let bs = shown l in
    let ws = words k n at bs in
    let after = items k (n + 1) (at + length l + 1) ls in
    let line = counted_verdict n (length l) (list_all (allowed k) bs) (list_all (λ p. fits p.bytes) ws) ws after refl (omega (arith, letters_words k n at bs, shown_shorter l)) in
    omega (arith, line, counted_items k (n + 1) (at + length l + 1) ls, sum_by-cons length l ls)

size_begins : (b : ℕ) (ls : List (List ℕ)) → size (begins b ls) ≡ size ls + 1
size_begins b [] = refl
size_begins b (l ∷ ls) = omega (arith, sum_by-cons length (b ∷ l) ls, sum_by-cons length l ls)

size_lines : (bs : List ℕ) → size (lines bs) ≤ length bs
size_lines [] = omega arith
size_lines (b ∷ bs) =
    let more = size_lines bs in
    cond_both (eqb b 10) ([] ∷ lines bs) (begins b (lines bs)) (λ ls. size ls ≤ length (b ∷ bs))
    (λ _. omega (arith, more, sum_by-cons length [] (lines bs)))
    (λ _. omega (arith, more, size_begins b (lines bs)))

pub words-bounded : WordsBounded
words-bounded k limit text =
    cond_both (leb (length text) (min limit 1048576)) (rest k text 0 1) (faulty 0 (wrong 30 None) ∷ []) (λ is. word_count is ≤ length text)
    (λ _. omega (arith, counted_items k 1 0 (lines text), size_lines text))
    (λ _. omega arith)
