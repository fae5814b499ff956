-- How long a written file may be.
use Rattle.std.proofs.Common.{◌≡◌, ℕ, zero, suc, ◌+◌, ◌*◌, ◌^◌, ◌≤◌, true, Bool, List, [], ◌∷◌, ◌++◌, map, length, filter, codes, sym, refl, ap, ◌∙◌, subst, ⊎_elim, arith, length-append}
use Rattle.std.specs.Prelude.{nat_eq}
use Rattle.std.specs.List.{flat_map, range_with_len, join_with_byte, list_all, AllByRecursion}
use Rattle.std.proofs.lemmas.Grind.{flat_map-append}
use Rattle.std.proofs.lemmas.Bool.{cases_lt, cases_Bool, and_parts, leb-true, cond-true, cond-false}
use Rattle.std.proofs.lemmas.List.{length-map, get_or_past}
use Rattle.std.proofs.lemmas.List.FromFn.{length-range_with_len}
use Rattle.table.specs.Bit.{bit}
use Rattle.table.specs.Written.{character_at, plane_at, ones_below, line_at, lines_of}
use Rattle.text.specs.Words.{fits}
use Rattle.netlist.specs.Netlist.{Netlist, Driver, driver_of, output_of}
use Rattle.netlist.specs.Netlist as net
use Rattle.netlist.specs.Places.{Order}
use Rattle.board.specs.Standing.{Fitting}
use Rattle.blif.specs.Statement.{Name, Words, Statement, inputs, outputs, cover_words, name_byte, is_name}
use Rattle.blif.specs.Description.{name_of}
use Rattle.blif.specs.Written.{is_input, latch_statement, gate_statement, listing, statements_of, lines_of_statement, spelled_line, spelled, file_of}
use Rattle.blif.specs.Returning.{Exportable, WrittenIsShort}
use Rattle.blif.proofs.Filing.{at_index}

abbrev size : List Words → ℕ
size ls = length (spelled ls)

abbrev Brief : List ℕ → Type 0
Brief w = length w ≤ 32

size-join : (a b : List Words) → size (a ++ b) ≡ size a + size b
size-join a b = ap length (flat_map-append spelled_line a b) ∙ length-append (spelled a) (spelled b)

size-one : (ws : Words) → size (ws ∷ []) ≡ length (join_with_byte 32 ws) + 1
size-one ws = omega (arith, length-append (spelled_line ws) [], length-append (join_with_byte 32 ws) (10 ∷ []))

size-more : (ws : Words) (ls : List Words) → size (ws ∷ ls) ≡ length (join_with_byte 32 ws) + 1 + size ls
size-more ws ls = omega (arith, length-append (spelled_line ws) (spelled ls), length-append (join_with_byte 32 ws) (10 ∷ []))

joined-long : (w : List ℕ) (ws : Words) → AllByRecursion Brief ws → length (join_with_byte 32 (w ∷ ws)) ≤ length w + 33 * length ws
joined-long w [] h = omega arith
joined-long w (v ∷ ws) h = let r = joined-long v ws h.1 in let b = h.0 in omega (arith, length-append w (32 ∷ join_with_byte 32 (v ∷ ws)))

named-brief : (w : List ℕ) → is_name w ≡ true → Brief w
named-brief w e = leb-true (length w) 32 (and_parts _ _ (and_parts (fits w) (list_all name_byte w) e).0).1

filter-less : {A : Type 0} (p : A → Bool) (xs : List A) → length (filter p xs) ≤ length xs
filter-less p [] = omega arith
filter-less p (x ∷ xs) =
    let r = filter-less p xs in
    ⊎_elim (λ t. let e = ap length (cond-true (p x) (x ∷ filter p xs) (filter p xs) t) in omega arith) (λ f. let e = ap length (cond-false (p x) (x ∷ filter p xs) (filter p xs) f) in omega arith) (cases_Bool (p x))

-- ---- cover lines

cover-size : (k j : ℕ) → k ≤ 4 → length (join_with_byte 32 (cover_words k (line_at k j))) + 1 ≤ 7
cover-size zero j h = omega arith
cover-size (suc k) j h =
    omega (arith, length-append (plane_at (suc k) j) (32 ∷ codes "1"), length-map (range_with_len 0 (suc k)) (character_at j), length-range_with_len 0 (suc k))

covers-size : (k : ℕ) (js : List ℕ) → k ≤ 4 → size (map (cover_words k) (map (line_at k) js)) ≤ 7 * length js
covers-size k [] h = omega arith
covers-size k (j ∷ js) h =
    let r = covers-size k js h in
    let c = cover-size k j h in
    omega (arith, size-more (cover_words k (line_at k j)) (map (cover_words k) (map (line_at k) js)))

few-ones : (k table : ℕ) → k ≤ 4 → length (ones_below table (2 ^ k)) ≤ 16
few-ones k table h = let a = filter-less (λ j. nat_eq (bit table j) 1) (range_with_len 0 (2 ^ k)) in let b = length-range_with_len 0 (2 ^ k) in let c = powers k h in omega (arith, a, b, c)
  where
    powers : (k : ℕ) → k ≤ 4 → 2 ^ k ≤ 16
    powers zero h = omega arith
    powers (suc zero) h = omega arith
    powers (suc (suc zero)) h = omega arith
    powers (suc (suc (suc zero))) h = omega arith
    powers (suc (suc (suc (suc zero)))) h = omega arith
    powers (suc (suc (suc (suc (suc k))))) h = absurd (omega arith)

-- ---- statements

module _ (m : ℕ) (model : Name) (ns : List Name) (n : Netlist) (o : Order) (h : Exportable m model ns n o) where
  brief : (s : ℕ) → Brief (name_of ns s)
  brief s =
      ⊎_elim (λ lt. named-brief (name_of ns s) (at_index is_name ns s h.nameable.words lt)) (λ le. let e = ap length (get_or_past ns s [] le) in omega arith) (cases_lt s (length ns))

  all-brief : (xs : List ℕ) → AllByRecursion Brief (map (name_of ns) xs)
  all-brief [] = tt
  all-brief (x ∷ xs) = (brief x, all-brief xs)

  row-size : (xs : List ℕ) (s : ℕ) → AllByRecursion Brief (map (name_of ns) xs ++ name_of ns s ∷ []) × (length (map (name_of ns) xs ++ name_of ns s ∷ []) ≡ length xs + 1)
  row-size [] s = ((brief s, tt), refl)
  row-size (x ∷ xs) s = let r = row-size xs s in ((brief x, r.0), (let e = r.1 in omega arith))

  inputs-size : (xs : List ℕ) → size (flat_map lines_of_statement (listing inputs (map (name_of ns) xs))) ≤ 8 + 33 * length xs
  inputs-size [] = omega arith
  inputs-size (x ∷ xs) =
      omega (arith, size-one (codes ".inputs" ∷ map (name_of ns) (x ∷ xs)), joined-long (codes ".inputs") (map (name_of ns) (x ∷ xs)) (all-brief (x ∷ xs)), length-map (x ∷ xs) (name_of ns))

  outputs-size : (xs : List ℕ) → size (flat_map lines_of_statement (listing outputs (map (name_of ns) xs))) ≤ 9 + 33 * length xs
  outputs-size [] = omega arith
  outputs-size (x ∷ xs) =
      omega (arith, size-one (codes ".outputs" ∷ map (name_of ns) (x ∷ xs)), joined-long (codes ".outputs") (map (name_of ns) (x ∷ xs)) (all-brief (x ∷ xs)), length-map (x ∷ xs) (name_of ns))

  latch-size : (s : ℕ) (d : Driver) → size (flat_map lines_of_statement (latch_statement ns s d)) ≤ 106
  latch-size s net.absent = omega arith
  latch-size s net.input = omega arith
  latch-size s (net.gate table pins) = omega arith
  latch-size s (net.latch start pin) =
      let ws : Words = name_of ns pin ∷ name_of ns s ∷ ((48 + start) ∷ []) ∷ [] in
      let digit : Brief ((48 + start) ∷ []) = omega arith in
      omega (arith, size-one (codes ".latch" ∷ ws), joined-long (codes ".latch") ws (brief pin, (brief s, (digit, tt))))

  gate-size : (s : ℕ) (d : Driver) → Fitting d → size (flat_map lines_of_statement (gate_statement ns s d)) ≤ 284
  gate-size s net.absent f = omega arith
  gate-size s net.input f = omega arith
  gate-size s (net.latch start pin) f = omega arith
  gate-size s (net.gate table pins) f =
      let k : length (map (name_of ns) pins) ≡ length pins = length-map pins (name_of ns) in
      let row = row-size pins s in
      let lines = map (cover_words (length (map (name_of ns) pins))) (lines_of (length pins) table) in
      let low : length pins ≤ 4 = f.0 in
      let a : size lines ≤ 7 * length (ones_below table (2 ^ length pins)) =
      subst (λ j. size (map (cover_words j) (lines_of (length pins) table)) ≤ 7 * length (ones_below table (2 ^ length pins))) (sym k) (covers-size (length pins) (ones_below table (2 ^ length pins)) low) in
      let b = few-ones (length pins) table low in
      let c = joined-long (codes ".names") (map (name_of ns) pins ++ name_of ns s ∷ []) row.0 in
      let d = row.1 in
      let e = size-more (codes ".names" ∷ (map (name_of ns) pins ++ name_of ns s ∷ [])) lines in
      let g = size-join ((codes ".names" ∷ (map (name_of ns) pins ++ name_of ns s ∷ [])) ∷ lines) [] in
      let six : length (codes ".names") ≡ 6 = refl in
      omega (arith, a, b, c, d, e, g, six)

  parts-size : (g : ℕ → List Statement) (k : ℕ) → ((s : ℕ) → size (flat_map lines_of_statement (g s)) ≤ k) → (xs : List ℕ) → size (flat_map lines_of_statement (flat_map g xs)) ≤ k * length xs
  parts-size g k f [] = omega arith
  parts-size g k f (s ∷ xs) =
      let r = parts-size g k f xs in
      let a = f s in
      let e = ap size (flat_map-append lines_of_statement (g s) (flat_map g xs)) in
      let j = size-join (flat_map lines_of_statement (g s)) (flat_map lines_of_statement (flat_map g xs)) in
      omega (arith, r, a, e, j)

  body-size : size (flat_map lines_of_statement (statements_of m ns n o)) ≤ 456 * m + 17
  body-size =
      let ranged = range_with_len 0 m in
      let ins = filter (λ s. is_input (driver_of n s)) ranged in
      let outs = filter (λ s. output_of n s) ranged in
      let a = listing inputs (map (name_of ns) ins) in
      let b = listing outputs (map (name_of ns) outs) in
      let c = flat_map (λ s. latch_statement ns s (driver_of n s)) ranged in
      let d = flat_map (λ s. gate_statement ns s (driver_of n s)) o in
      let e1 = ap size (flat_map-append lines_of_statement (a ++ b ++ c) d) ∙ size-join (flat_map lines_of_statement (a ++ b ++ c)) (flat_map lines_of_statement d) in
      let e2 = ap size (flat_map-append lines_of_statement (a ++ b) c) ∙ size-join (flat_map lines_of_statement (a ++ b)) (flat_map lines_of_statement c) in
      let e3 = ap size (flat_map-append lines_of_statement a b) ∙ size-join (flat_map lines_of_statement a) (flat_map lines_of_statement b) in
      let p1 = inputs-size ins in
      let p2 = outputs-size outs in
      let p3 = parts-size (λ s. latch_statement ns s (driver_of n s)) 106 (λ s. latch-size s (driver_of n s)) ranged in
      let p4 = parts-size (λ s. gate_statement ns s (driver_of n s)) 284 (λ s. gate-size s (driver_of n s) (h.writable.fits s)) o in
      let l1 = filter-less (λ s. is_input (driver_of n s)) ranged in
      let l2 = filter-less (λ s. output_of n s) ranged in
      let long : length ranged ≡ m = length-range_with_len 0 m in
      let order = h.arranges.long in
      omega (arith, e1, e2, e3, p1, p2, p3, p4, l1, l2, long, order)

  pub short : length (file_of model m ns n o) ≤ 456 * m + 62
  short =
      let body = body-size in
      let top = codes ".model" ∷ model ∷ [] in
      let middle = flat_map lines_of_statement (statements_of m ns n o) in
      let a = size-more top (middle ++ (codes ".end" ∷ []) ∷ []) in
      let b = size-join middle ((codes ".end" ∷ []) ∷ []) in
      let c = joined-long (codes ".model") (model ∷ []) (named-brief model h.model_word, tt) in
      let six : length (codes ".model") ≡ 6 = refl in
      let five : size ((codes ".end" ∷ []) ∷ []) ≡ 5 = refl in
      omega (arith, body, a, b, c, six, five)

pub written_is_short : WrittenIsShort
written_is_short m model ns n o h = short m model ns n o h
