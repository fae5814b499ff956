-- Names that can be read back stay so at every read.
use Rattle.std.proofs.Common.{◌≡◌, ℕ, ◌≤◌, ◌==◌, ◌+◌, cond, length, true, not, min, List, [], ◌∷◌, ◌++◌, map, codes, Some, None, Option, Result, sym, refl, ap, subst, ⊎_elim, arith}
use Rattle.std.specs.List.{list_all, AllByRecursion}
use Rattle.std.proofs.lemmas.Bool.{and_parts, and_from, le-leb}
use Rattle.text.specs.Rules.{file_rules, word_byte}
use Rattle.text.specs.Words.{Part, fits}
use Rattle.text.specs.Lines.{Item, holds, faulty, rest, wrong}
use Rattle.text.specs.Standing.{Stands, AllStand}
use Rattle.text.proofs.Standing.{words-stand}
use Rattle.names.specs.Names.{position, added, entered}
use Rattle.netlist.specs.Netlist.{Netlist}
use Rattle.names.proofs.Places.{some_or_none, added_known, added_new}
use Rattle.editor.specs.Log.{Entry}
use Rattle.blif.specs.declared.fault.FileFault.{FileFault}
use Rattle.blif.specs.Statement.{Name, Words, is_name, name_byte, inputs, outputs, latch, names}
use Rattle.blif.specs.Form.{Saying, model, states, finish}
use Rattle.blif.specs.Rows.{Row, row_of, words_of, all_rows}
use Rattle.blif.specs.File.{Met, Point, at, behind, covering, Lines, Reads, meets, whole, unfinished, bad_text, bad_form, refused, taken, bad_cover_text, bad_cover, covered, gate_refused, gate, short}
use Rattle.blif.specs.File as reading
use Rattle.blif.specs.Form.{nothing, statements}
use Rattle.blif.specs.Returning.{Readable, ReadsKeepNames}
use Rattle.blif.proofs.Saying.{Spells, spells, saying-parts}

abbrev AllNames : List Name → Type 0
AllNames ns = list_all is_name ns ≡ true

-- ---- the words of a text

name-bytes : (w : List ℕ) → list_all word_byte w ≡ true → list_all (λ b. not (b == 35)) w ≡ true → list_all name_byte w ≡ true
name-bytes [] c u = refl
name-bytes (b ∷ w) c u =
    let x = and_parts (word_byte b) (list_all word_byte w) c in
    let y = and_parts (not (b == 35)) (list_all (λ b. not (b == 35)) w) u in
    and_from (name_byte b) (list_all name_byte w) (and_from (word_byte b) (not (b == 35)) x.0 y.0) (name-bytes w x.1 y.1)

parts-names : (text : List ℕ) (n : ℕ) (ps : List Part) → AllByRecursion (Stands text n) ps → AllNames (map (λ p. p.bytes) ps)
parts-names text n [] h = refl
parts-names text n (p ∷ ps) h =
    and_from (is_name p.bytes) (list_all is_name (map (λ p. p.bytes) ps))
    (and_from (fits p.bytes) (list_all name_byte p.bytes) h.0.right (name-bytes p.bytes h.0.clean h.0.uncommented))
    (parts-names text n ps h.1)

-- the words of a row without a fault may be names
abbrev Worded : Row → Type 0
Worded r = r.fault ≡ None → AllNames (words_of r)

rows-worded : (text : List ℕ) (is : List Item) → AllStand text is → AllByRecursion Worded (map row_of is)
rows-worded text [] h = tt
rows-worded text (holds n ps ∷ is) h = ((λ sound. parts-names text n ps h.0), rows-worded text is h.1)
rows-worded text (faulty n w ∷ is) h = ((λ sound. absurd (cc)), rows-worded text is h)

text-worded : (limit : ℕ) (text : List ℕ) → limit ≤ 1048576 → length text ≤ limit → AllByRecursion Worded (all_rows file_rules text)
text-worded limit text low within =
    let small : length text ≤ min limit 1048576 = omega (arith, low, within) in
    let all = ap (λ b. cond b (rest file_rules text 0 1) (faulty 0 (wrong 30 None) ∷ [])) (le-leb (length text) (min limit 1048576) small) in
    rows-worded text (rest file_rules text 0 1) (subst (AllStand text) all (words-stand file_rules limit text))

-- ---- names that enter

added-names : (ns : List Name) (w : Name) → AllNames ns → is_name w ≡ true → AllNames (added ns w)
added-names ns w h e =
    ⊎_elim (λ none. subst AllNames (sym (added_new ns w none)) (push-name ns h)) (λ some. subst AllNames (sym (added_known ns w some.0 some.1)) h) (some_or_none (position ns w))
  where
    push-name : (ns : List Name) → AllNames ns → AllNames (ns ++ w ∷ [])
    push-name [] h = and_from (is_name w) true e refl
    push-name (n ∷ ns) h = let x = and_parts (is_name n) (list_all is_name ns) h in and_from (is_name n) (list_all is_name (ns ++ w ∷ [])) x.0 (push-name ns x.1)

entered-names : (ns ws : List Name) → AllNames ns → AllNames ws → AllNames (entered ns ws)
entered-names ns [] h g = h
entered-names ns (w ∷ ws) h g = let x = and_parts (is_name w) (list_all is_name ws) g in entered-names (added ns w) ws (added-names ns w h x.0) x.1

behind-first : (w : Name) (ws : List Name) → AllNames (w ∷ ws) → AllNames ws
behind-first w ws h = (and_parts (is_name w) (list_all is_name ws) h).1

first-two : (a b : Name) (ws : List Name) → AllNames (a ∷ b ∷ ws) → AllNames (a ∷ b ∷ [])
first-two a b ws h =
    let x = and_parts (is_name a) (list_all is_name (b ∷ ws)) h in
    let y = and_parts (is_name b) (list_all is_name ws) x.1 in
    and_from (is_name a) (list_all is_name (b ∷ [])) x.0 (and_from (is_name b) true y.0 refl)

-- a line of words leaves readable names
met-names : (t : Met) (x : Saying) (ws : Words) → Readable t → AllNames ws → Spells x ws → Readable (meets t x)
met-names t (model x) ws h g s = record { words = h.words; model = (and_parts (is_name x) true (behind-first (codes ".model") (x ∷ []) (subst AllNames s g))).0 }
met-names t (states (inputs xs)) ws h g s = record { words = entered-names t.signals xs h.words (behind-first (codes ".inputs") xs (subst AllNames s g)); model = h.model }
met-names t (states (outputs xs)) ws h g s = record { words = entered-names t.signals xs h.words (behind-first (codes ".outputs") xs (subst AllNames s g)); model = h.model }
met-names t (states (latch a x start)) ws h g s = record {
  words = entered-names t.signals (a ∷ x ∷ []) h.words
      (⊎_elim (λ e. first-two a x (((48 + start) ∷ []) ∷ []) (behind-first (codes ".latch") (a ∷ x ∷ ((48 + start) ∷ []) ∷ []) (subst AllNames e g)))
      (λ e. behind-first (codes ".latch") (a ∷ x ∷ []) (subst AllNames e.1 g)) s.1);
  model = h.model;
}
met-names t (states (names pins x cover)) ws h g s = record { words = entered-names t.signals (pins ++ x ∷ []) h.words (behind-first (codes ".names") (pins ++ x ∷ []) (subst AllNames s.2 g)); model = h.model }
met-names t finish ws h g s = h

-- ---- the lines of a text

keeps : (m : ℕ) (p : Point) (t t' : Met) (rows : List Row) (log : List Entry) (total : ℕ) (end : Option FileFault) → Lines m p t rows log t' total end → AllByRecursion Worded rows → Readable t → Readable t'
keeps m p t t' rows log total end whole w h = h
keeps m p t t' rows log total end (unfinished n) w h = h
keeps m p t t' rows log total end (bad_text f k) w h = h
keeps m p t t' rows log total end (bad_form f k l) w h = h
keeps m p t t' rows log total end (refused {b = b} {r = r} x cs why s sound l c made) w h =
    met-names t x (words_of r) h (w.0 sound) (spells (words_of r) x (saying-parts m t.signals b (words_of r) x l).says)
keeps m p t t' rows log total end (taken {b = b} {r = r} {rs = rs} {later = later} {total = left} x cs sound l c made on) w h =
    keeps m (behind r.line x) (meets t x) t' rs later left end on w.1
    (met-names t x (words_of r) h (w.0 sound) (spells (words_of r) x (saying-parts m t.signals b (words_of r) x l).says))
keeps m p t t' rows log total end (bad_cover_text f c k) w h = h
keeps m p t t' rows log total end (bad_cover f c k l) w h = h
keeps m p t t' rows log total end (covered {n = n} {pins = pins} {x = x} {cover = cover} {rs = rs} line c sound k on) w h =
    keeps m (covering n pins x (cover ++ line ∷ [])) t t' rs log total end on w.1 h
keeps m p t t' rows log total end (gate_refused cs why s un k made) w h = h
keeps m p t t' rows log total end (gate {later = later} {total = left} cs un k made on) w h = keeps m (at statements) t t' rows later left end on w h
keeps m p t t' rows log total end (short k) w h = h

reads-keep : (m open' limit : ℕ) (before last : Netlist) (text : List ℕ) (t t' : Met) (opening closing : List Entry) (r : Result ℕ FileFault) → limit ≤ 1048576
    → Reads m open' limit before text t last opening closing t' r → Readable t → Readable t'
reads-keep m open' limit before last text t t' opening closing r low (reading.barred f b) h = h
reads-keep m open' limit before last text t t' opening closing r low (reading.faulty {own = own} total f due on) h =
    keeps m (at nothing) t t' (all_rows file_rules text) own total (Some f) on (text-worded limit text low due.within) h
reads-keep m open' limit before last text t t' opening closing r low (reading.unkept {own = own} total s due on miss least) h =
    keeps m (at nothing) t t' (all_rows file_rules text) own total None on (text-worded limit text low due.within) h
reads-keep m open' limit before last text t t' opening closing r low (reading.read {own = own} {total = total} due on) h =
    keeps m (at nothing) t t' (all_rows file_rules text) own total None on (text-worded limit text low due.within) h

pub reads_keep_names : ReadsKeepNames
reads_keep_names limit text d d' t t' r low reads h =
    reads-keep d.editor.signals _ limit _ _ text t t' _ _ r low reads.5 h
