-- Rows are read one after the other.
use Rattle.std.proofs.Common.{◌≡◌, ℕ, ◌+◌, ◌*◌, ◌<◌, ◌≤◌, true, false, ◌⊎◌, ⊎_elim, List, [], ◌∷◌, ◌++◌, map, length, Some, None, Ok, Err, Option, Result, sym, refl, ap, ◌∙◌, subst, append_assoc, arith}
use Rattle.std.specs.Prelude.{vec_items, min, nat_le, ◌^◌}
use Rattle.std.proofs.lemmas.Bool.{cond-true, le-leb}
use Rattle.std.proofs.lemmas.List.{append-nil, length-map}
use Rattle.text.specs.Rules.{file_rules}
use Rattle.text.specs.Words.{spelled}
use Rattle.text.specs.Lines.{Item, holds, faulty, rest, contents, first, told, told_fault, Ready}
use Rattle.text.specs.Standing.{word_count}
use Rattle.text.specs.declared.words.Line.{Line as TextLine}
use Rattle.text.specs.declared.faults.LineFault.{LineFault}
use Rattle.text.proofs.Bounds.{words-bounded}
use Rattle.names.specs.declared.table.NameTable.{NameTable}
use Rattle.editor.specs.Log.{Entry}
use Rattle.desk.specs.State.{State}
use Rattle.blif.specs.declared.fault.FileFault.{FileFault}
use Rattle.blif.specs.declared.fault.FileFault.TheVariants as file_fault
use Rattle.blif.specs.declared.fault.FormFault.{FormFault}
use Rattle.blif.specs.declared.fault.FormFault.TheVariants.{Misplaced}
use Rattle.blif_io.specs.declared.place.Place.{Place}
use Rattle.blif_io.specs.declared.place.Place.TheVariants as here
use Rattle.blif_io.specs.declared.place.Before.{Before as Front}
use Rattle.blif_io.specs.declared.place.Before.TheVariants as front
use Rattle.blif_io.specs.declared.place.OpenGate.{OpenGate}
use Rattle.blif_io.specs.declared.place.Step.{Step}
use Rattle.blif.specs.Form.{Before, nothing, statements, ended, CoverSays}
use Rattle.blif.specs.Rows.{Row, row_of, FaultOf, words_of, dotted}
use Rattle.blif.specs.File.{Met, Point, at, covering, Lines, Covers, short, whole, unfinished, bad_cover_text, bad_cover, covered}
use Rattle.blif.specs.File as fault
use Rattle.blif.specs.Chain.{Chain}
use Rattle.blif_io.specs.Taking.{met, viewed, before_of, Stands, Takes, Anything, Uncovered, TakesCover}
use Rattle.blif_io.specs.Reader.{ReadsRows, Finishes}
use Rattle.blif_io.proofs.Making.{chain-append}

chain-signals : (d d' : State) (log : List Entry) → Chain d log d' → d'.editor.signals ≡ d.editor.signals
chain-signals d d' [] c = ap (λ x. x.editor.signals) c
chain-signals d d' (x ∷ log) c = chain-signals c.0 d' log c.2 ∙ c.1.called.signals

-- ---- a gate is closed, and a line follows

uncover : (r : Row) (rs : List Row) → dotted (words_of r) ≡ true → Uncovered (r ∷ rs)
uncover r rs e c = let f : true ≡ false = sym e ∙ c in cc

module _ (m : ℕ) (d d1 d2 : State) (t : Met) (n1 n2 : NameTable) (p : Point) (r : Row) (dot : dotted (words_of r) ≡ true) where
  pub closed-stops : (f : FileFault) → Takes m d t p [] Uncovered d1 n1 (Err f) → Takes m d t p (r ∷ []) Anything d1 n1 (Err f)
  closed-stops f h = (h.0, h.1, λ rs any. h.2 (r ∷ rs) (uncover r rs dot))

  module _ (step : Step) (place : step.place ≡ here.At front.Statements) (h : Takes m d t p [] Uncovered d1 n1 (Ok step)) where
    at-statements : h.1 ≡ at statements
    at-statements = subst (λ q. Stands n1.signals q h.1) place h.3

    pub then-taken : (after : Step) → Takes d1.editor.signals d1 (met n1) (at statements) (r ∷ []) Anything d2 n2 (Ok after) → d1.editor.signals ≡ m
        → Takes m d t p (r ∷ []) Anything d2 n2 (Ok (record { place = after.place; count = step.count + after.count }))
    then-taken after k same = (
      h.0 ++ k.0,
      k.1,
      chain-append d d1 d2 h.0 k.0 h.2 k.2,
      k.3,
      λ rs later t' total end any more.
          let inner = k.4 rs later t' total end any (subst (λ j. Lines j k.1 (met n2) rs later t' total end) (sym same) more) in
          let outer = h.4 (r ∷ rs) (k.0 ++ later) t' (after.count + total) end (uncover r rs dot)
          (subst (λ q. Lines m q (met n1) (r ∷ rs) (k.0 ++ later) t' (after.count + total) end) (sym at-statements)
          (subst (λ j. Lines j (at statements) (met n1) (r ∷ rs) (k.0 ++ later) t' (after.count + total) end) same inner)) in
          subst (λ l. Lines m p t (r ∷ rs) l t' (step.count + after.count + total) end) (sym (append_assoc h.0 k.0 later))
          (subst (λ s. Lines m p t (r ∷ rs) (h.0 ++ (k.0 ++ later)) t' s end) (omega arith) outer),
    )

    pub then-stops : (f : FileFault) → Takes d1.editor.signals d1 (met n1) (at statements) (r ∷ []) Anything d2 n2 (Err f) → d1.editor.signals ≡ m → Takes m d t p (r ∷ []) Anything d2 n2 (Err f)
    then-stops f k same = (
      h.0 ++ k.0,
      chain-append d d1 d2 h.0 k.0 h.2 k.1,
      λ rs any.
          let inner = k.2 rs any in (
            step.count + inner.0,
            h.4 (r ∷ rs) k.0 (met n2) inner.0 (Some f) (uncover r rs dot)
                (subst (λ q. Lines m q (met n1) (r ∷ rs) k.0 (met n2) inner.0 (Some f)) (sym at-statements)
                (subst (λ j. Lines j (at statements) (met n1) (r ∷ rs) k.0 (met n2) inner.0 (Some f)) same inner.1)),
          ),
    )

pub takes-signals : (m : ℕ) (d d' : State) (t : Met) (p : Point) (taken : List Row) (fit : List Row → Type 0) (names : NameTable) (step : Step) → Takes m d t p taken fit d' names (Ok step) → d'.editor.signals ≡ d.editor.signals
takes-signals m d d' t p taken fit names step h = chain-signals d d' h.0 h.2

-- ---- a cover line

module _ (m : ℕ) (d : State) (names : NameTable) (g : OpenGate) (p : Point) (h : Stands names.signals (here.Covering g) p) (r : Row) (plain : dotted (words_of r) ≡ false) where
  pub cover-wrong : (f : LineFault) → FaultOf r f → Takes m d (met names) p (r ∷ []) Anything d names (Err (file_fault.Text f))
  cover-wrong f e = (
    [],
    refl,
    λ rs any. (0, subst (λ q. Lines m q (met names) (r ∷ rs) [] (met names) 0 (Some (file_fault.Text f))) (sym h.3) (bad_cover_text f plain e)),
  )

  module _ (sound : r.fault ≡ None) (ws : List (List ℕ)) (is : words_of r ≡ ws) where
    pub cover-refused : (f : FormFault) → TakesCover g h.2 ws (Err f) → Takes m d (met names) p (r ∷ []) Anything d names (Err (fault.form f r.line))
    cover-refused f k = (
      [],
      refl,
      λ rs any. (
        0,
        subst (λ q. Lines m q (met names) (r ∷ rs) [] (met names) 0 (Some (fault.form f r.line))) (sym h.3)
            (bad_cover f plain sound (subst (λ v. CoverSays (length h.0) h.2 v (Err f)) (sym is) (subst (λ j. CoverSays j h.2 ws (Err f)) h.6 k))),
      ),
    )

    pub cover-taken : (g' : OpenGate) → TakesCover g h.2 ws (Ok g') → Takes m d (met names) p (r ∷ []) Anything d names (Ok (record { place = here.Covering g'; count = 0 }))
    cover-taken g' k = (
      [],
      covering g.line h.0 h.1 (h.2 ++ k.0 ∷ []),
      refl,
      (h.0, h.1, h.2 ++ k.0 ∷ [], ap (λ n. covering n h.0 h.1 (h.2 ++ k.0 ∷ [])) (sym k.3), k.4 ∙ h.4, k.5 ∙ h.5, k.6 ∙ h.6, k.2),
      λ rs later t' total end any more.
          subst (λ s. Lines m p (met names) (r ∷ rs) later t' s end) (omega arith)
          (subst (λ q. Lines m q (met names) (r ∷ rs) later t' total end) (sym h.3)
          (covered k.0 plain sound (subst (λ v. CoverSays (length h.0) h.2 v (Ok k.0)) (sym is) (subst (λ j. CoverSays j h.2 ws (Ok k.0)) h.6 k.1)) more)),
    )

-- ---- behind the last row

pub ended-well : (m : ℕ) (d : State) (names : NameTable) (p : Point) → Stands names.signals (here.At front.Ended) p → Finishes m d (met names) p d (Ok 0)
ended-well m d names p h = (refl, refl, subst (λ q. Lines m q (met names) [] [] (met names) 0 None) (sym h) whole)

unended : (m : ℕ) (t : Met) (b : Before) → (b ≡ ended → ⊥) → Lines m (at b) t [] [] t 0 (Some (fault.form Misplaced 0))
unended m t b h = unfinished h

pub begun-only : (m : ℕ) (d : State) (names : NameTable) (p : Point) (b : Before) → p ≡ at b → (b ≡ ended → ⊥) → Finishes m d (met names) p d (Err (fault.form Misplaced 0))
begun-only m d names p b e h = ([], refl, (0, subst (λ q. Lines m q (met names) [] [] (met names) 0 (Some (fault.form Misplaced 0))) (sym e) (unended m (met names) b h)))

not_covers : Uncovered []
not_covers c = c

pub closed-late : (m : ℕ) (d d' : State) (names : NameTable) (p : Point) (step : Step) → step.place ≡ here.At front.Statements → Takes m d (met names) p [] Uncovered d' names (Ok step) → Finishes m d (met names) p d' (Err (fault.form Misplaced 0))
closed-late m d d' names p step place h =
    let at' : h.1 ≡ at statements = subst (λ q. Stands names.signals q h.1) place h.3 in (
      h.0,
      h.2,
      (
        step.count + 0,
        subst (λ l. Lines m p (met names) [] l (met names) (step.count + 0) (Some (fault.form Misplaced 0))) (append-nil h.0)
            (h.4 [] [] (met names) 0 (Some (fault.form Misplaced 0)) not_covers (subst (λ q. Lines m q (met names) [] [] (met names) 0 (Some (fault.form Misplaced 0))) (sym at') (unended m (met names) statements (λ e. cc)))),
      ),
    )

pub closing-stops : (m : ℕ) (d d' : State) (names : NameTable) (p : Point) (f : FileFault) → Takes m d (met names) p [] Uncovered d' names (Err f) → Finishes m d (met names) p d' (Err f)
closing-stops m d d' names p f h = (h.0, h.1, h.2 [] not_covers)

-- ---- the loop

-- What follows from the lines ahead follows from all of them, with the calls made so far.
pub record Run (d : State) (t : Met) (all ahead : List Item) (total : ℕ) (place : Place) (mid : State) (names : NameTable) : Type 0 where
  pub own : List Entry
  pub chain : Chain d own mid
  pub point : Point
  pub stands : Stands names.signals place point
  pub on : (later : List Entry) (t' : Met) (more : ℕ) (end : Option FileFault) → Lines d.editor.signals point (met names) (map row_of ahead) later t' more end → Lines d.editor.signals (at nothing) t (map row_of all) (own ++ later) t' (total + more) end
  pub small : total + 4294967295 * word_count ahead ≤ 4294967295 * word_count all

pub run-start : (d : State) (names : NameTable) (all ahead : List Item) → ahead ≡ all → Run d (met names) all ahead 0 (here.At front.Nothing) d names
run-start d names all ahead e = record {
  own = [];
  chain = refl;
  point = at nothing;
  stands = refl;
  on = λ later t' more end h.
      subst (λ s. Lines d.editor.signals (at nothing) (met names) (map row_of all) later t' s end) (omega arith)
      (subst (λ l. Lines d.editor.signals (at nothing) (met names) (map row_of l) later t' more end) e h);
  small = let w = ap word_count e in omega (arith, w);
}

-- how many words a text within its limit has
pub few_words : (limit : ℕ) (text : List ℕ) → length text ≤ min limit 1048576 → (contents file_rules limit text ≡ rest file_rules text 0 1) × (word_count (rest file_rules text 0 1) ≤ 1048576)
few_words limit text within =
    let e : contents file_rules limit text ≡ rest file_rules text 0 1 = cond-true (nat_le (length text) (min limit 1048576)) _ _ (le-leb (length text) (min limit 1048576) within) in
    let w = ap word_count e in
    let b = words-bounded file_rules limit text in
    (e, omega (arith, w, b))

module _ (d mid d' : State) (t : Met) (all old : List Item) (total : ℕ) (place : Place) (names names' : NameTable) (h : Run d t all old total place mid names) (r : Row) (rs : List Row) (e : map row_of old ≡ r ∷ rs) where
  pub run-stops : (f : FileFault) → Takes mid.editor.signals mid (met names) h.point (r ∷ []) Anything d' names' (Err f) → ReadsRows d t (map row_of all) d' (met names') (Err f)
  run-stops f k =
      let same = chain-signals d mid h.own h.chain in
      let inner = k.2 rs tt in (
        h.own ++ k.0,
        chain-append d mid d' h.own k.0 h.chain k.1,
        (
          total + inner.0,
          h.on k.0 (met names') inner.0 (Some f)
              (subst (λ l. Lines d.editor.signals h.point (met names) l k.0 (met names') inner.0 (Some f)) (sym e) (subst (λ j. Lines j h.point (met names) (r ∷ rs) k.0 (met names') inner.0 (Some f)) same inner.1)),
        ),
      )

module _ (d mid d' : State) (t : Met) (all old new : List Item) (total : ℕ) (place : Place) (names names' : NameTable) (h : Run d t all old total place mid names) (l : TextLine) (e : old ≡ told l ∷ new) where
  counted : word_count old ≡ length (vec_items l.words) + word_count new
  counted = ap word_count e ∙ ap (λ k. k + word_count new) (length-map (vec_items l.words) spelled)

  -- the words of the line are few, and so is what is counted
  pub line-few : word_count all ≤ 1048576 → length (vec_items l.words) < 2 ^ 32
  line-few few = let s = h.small in omega (arith, s, counted, few)

  pub count-few : word_count all ≤ 1048576 → (count : ℕ) → count ≤ 4294967295 * length (vec_items l.words) → total + count < 2 ^ 64
  count-few few count within = let s = h.small in omega (arith, s, counted, few, within)

  pub run-more : (step : Step) → Takes mid.editor.signals mid (met names) h.point (viewed l ∷ []) Anything d' names' (Ok step) → step.count ≤ 4294967295 * length (vec_items l.words)
      → Run d t all new (total + step.count) step.place d' names'
  run-more step k few =
      let same = chain-signals d mid h.own h.chain in
      record {
        own = h.own ++ k.0;
        chain = chain-append d mid d' h.own k.0 h.chain k.2;
        point = k.1;
        stands = k.3;
        on = λ later t' more end lines.
            let inner = subst (λ j. Lines j h.point (met names) (viewed l ∷ map row_of new) (k.0 ++ later) t' (step.count + more) end) same
            (k.4 (map row_of new) later t' more end tt (subst (λ j. Lines j k.1 (met names') (map row_of new) later t' more end) (sym same) lines)) in
            let outer = h.on (k.0 ++ later) t' (step.count + more) end (subst (λ x. Lines d.editor.signals h.point (met names) (map row_of x) (k.0 ++ later) t' (step.count + more) end) (sym e) inner) in
            subst (λ x. Lines d.editor.signals (at nothing) t (map row_of all) x t' (total + step.count + more) end) (sym (append_assoc h.own k.0 later))
            (subst (λ s. Lines d.editor.signals (at nothing) t (map row_of all) (h.own ++ (k.0 ++ later)) t' s end) (omega arith) outer);
        small = let a = h.small in omega (arith, a, counted, few);
      }

  pub run-refused : (f : FileFault) → Takes mid.editor.signals mid (met names) h.point (viewed l ∷ []) Anything d' names' (Err f) → ReadsRows d t (map row_of all) d' (met names') (Err f)
  run-refused f k = run-stops d mid d' t all old total place names names' h (viewed l) (map row_of new) (ap (map row_of) e) f k

first-of : (old : List Item) (i : Item) → first old ≡ Some i → (rest : List Item) × (old ≡ i ∷ rest)
first-of [] i e = absurd (cc)
first-of (x ∷ xs) i e = let z : x ≡ i = cc in (xs, ap (λ y. y ∷ xs) z)

module _ (d mid d' : State) (t : Met) (all old : List Item) (total : ℕ) (place : Place) (names : NameTable) (h : Run d t all old total place mid names) where
  pub run-fault : (f : LineFault) (res : FileFault) → first old ≡ Some (told_fault f) → ((p : Point) (r : Row) → Stands names.signals place p → FaultOf r f → Takes mid.editor.signals mid (met names) p (r ∷ []) Anything d' names (Err res))
      → ReadsRows d t (map row_of all) d' (met names) (Err res)
  run-fault f res e k =
      let z = first-of old (told_fault f) e in
      run-stops d mid d' t all old total place names names h (row_of (told_fault f)) (map row_of z.0) (ap (map row_of) z.1) res
      (k h.point (row_of (told_fault f)) h.stands (record { number = refl; line = refl; first = refl }))

  pub run-short : Ready old → ReadsRows d t (map row_of all) mid (met names) (Err file_fault.Memory)
  run-short ready = by old h ready
    where
      by : (old : List Item) → Run d t all old total place mid names → Ready old → ReadsRows d t (map row_of all) mid (met names) (Err file_fault.Memory)
      by [] h r = absurd r
      by (holds n ws ∷ is) h r =
          run-stops d mid mid t all (holds n ws ∷ is) total place names names h (row_of (holds n ws)) (map row_of is) refl file_fault.Memory ([], refl, λ rs any. (0, short refl))
      by (faulty n w ∷ is) h r = absurd r

  module _ (past : old ≡ []) where
    over : (later : List Entry) (t' : Met) (more : ℕ) (end : Option FileFault) → Lines d.editor.signals h.point (met names) [] later t' more end → Lines d.editor.signals h.point (met names) (map row_of old) later t' more end
    over later t' more end k = subst (λ x. Lines d.editor.signals h.point (met names) (map row_of x) later t' more end) (sym past) k

    pub run-ends : (told' : ℕ) → Finishes d.editor.signals mid (met names) h.point d' (Ok told') → ReadsRows d t (map row_of all) d' (met names) (Ok total)
    run-ends told' k = (
      h.own,
      subst (Chain d h.own) (sym k.1) h.chain,
      subst (λ x. Lines d.editor.signals (at nothing) t (map row_of all) x (met names) total None) (append-nil h.own)
          (subst (λ s. Lines d.editor.signals (at nothing) t (map row_of all) (h.own ++ []) (met names) s None) (omega arith) (h.on [] (met names) 0 None (over [] (met names) 0 None k.2))),
    )

    pub run-fails : (f : FileFault) → Finishes d.editor.signals mid (met names) h.point d' (Err f) → ReadsRows d t (map row_of all) d' (met names) (Err f)
    run-fails f k = (
      h.own ++ k.0,
      chain-append d mid d' h.own k.0 h.chain k.1,
      (total + k.2.0, h.on k.0 (met names) k.2.0 (Some f) (over k.0 (met names) k.2.0 (Some f) k.2.1)),
    )

pub not_ended : (b : Front) → (b ≡ front.Nothing) ⊎ (b ≡ front.Statements) → before_of b ≡ ended → ⊥
not_ended front.Nothing h e = cc
not_ended front.Statements h e = cc
not_ended front.Ended h e = ⊎_elim (λ x. cc) (λ x. cc) h

pub at-row : (m : ℕ) (d d' : State) (t : Met) (r : Row) (names names' : NameTable) (place : Place) (b : Front) (p : Point) (res : Result Step FileFault) → place ≡ here.At b → Stands names.signals place p
    → Takes m d t (at (before_of b)) (r ∷ []) Anything d' names' res → Takes m d t p (r ∷ []) Anything d' names' res
at-row m d d' t r names names' place b p res is h k =
    let e : p ≡ at (before_of b) = subst (λ q. Stands names.signals q p) is h in subst (λ q. Takes m d t q (r ∷ []) Anything d' names' res) (sym e) k
