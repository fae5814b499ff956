-- A line that is no cover line is taken or refused.
use Rattle.std.proofs.Common.{◌≡◌, ℕ, ◌≤◌, ⊎_elim, List, [], ◌∷◌, map, length, Some, None, Ok, Err, Result, sym, refl, ap, ◌∙◌, subst, arith, ◌-◌, ◌<◌, take, drop, get_or, le_refl, length-append}
use Rattle.std.proofs.lemmas.List.{take_all}
use Rattle.std.specs.Prelude.{slice_index_or}
use Rattle.text.specs.declared.words.Word.{Word}
use Rattle.text.specs.declared.faults.LineFault.{LineFault}
use Rattle.text.specs.Words.{spelled}
use Rattle.names.specs.declared.table.NameTable.{NameTable}
use Rattle.names.specs.Names.{spellings}
use Rattle.desk.specs.State.{State}
use Rattle.blif.specs.declared.fault.FormFault.{FormFault}
use Rattle.blif.specs.declared.fault.FileFault.{FileFault}
use Rattle.blif.specs.declared.fault.FileFault.TheVariants as file_fault
use Rattle.blif.specs.declared.form.Form.{Form}
use Rattle.blif.specs.declared.form.Form.TheVariants as form
use Rattle.blif_io.specs.declared.place.Place.{Place}
use Rattle.blif_io.specs.declared.place.Refused.{Refused}
use Rattle.blif.specs.Statement.{Name, Words, inputs, outputs, latch, names}
use Rattle.blif.specs.Form.{Saying, model, states, finish, Before, said, says, allowed}
use Rattle.blif.specs.Leaf.{saying, FormOf}
use Rattle.blif.specs.Rows.{Row, FaultOf, words_of}
use Rattle.blif.specs.Calls.{edit_of, Made}
use Rattle.blif.specs.File.{Met, at, behind, Lines, refusal, meets, ClaimsNow, bad_text, bad_form, refused, taken, short}
use Rattle.blif.specs.File as fault
use Rattle.blif_io.specs.Taking.{met, Plays, Stands, Takes, Anything, claims_now, Shaped, Admits}
use Rattle.blif.proofs.Saying.{spells}

claims-are : (x : Saying) → ClaimsNow x (claims_now x)
claims-are (model x) = refl
claims-are (states (inputs xs)) = refl
claims-are (states (outputs xs)) = refl
claims-are (states (latch a x start)) = refl
claims-are (states (names pins x cover)) = refl
claims-are finish = refl

module _ (m : ℕ) (d d' : State) (t t' : NameTable) (b : Before) (ws : Words) (r : Row) (n : ℕ) (sound : r.fault ≡ None) (at-line : r.line ≡ n) (is : words_of r ≡ ws) where
  spoken : (o : Result Saying FormFault) → said ws ≡ o → says m t.signals b (words_of r) ≡ allowed m t.signals b o
  spoken o e = ap (says m t.signals b) is ∙ ap (allowed m t.signals b) e

  pub faulted : (e : FormFault) → allowed m t.signals b (said ws) ≡ Err e → met t' ≡ met t → Takes m d (met t) (at b) (r ∷ []) Anything d t' (Err (fault.form e n))
  faulted e k same = (
    [],
    refl,
    λ rs any. (
      0,
      subst (λ q. Lines m (at b) (met t) (r ∷ rs) [] q 0 (Some (fault.form e n))) (sym same)
          (subst (λ j. Lines m (at b) (met t) (r ∷ rs) [] (met t) 0 (Some (fault.form e j))) at-line (bad_form e sound (spoken (said ws) refl ∙ k))),
    ),
  )

  pub no_memory : met t' ≡ met t → Takes m d (met t) (at b) (r ∷ []) Anything d t' (Err file_fault.Memory)
  no_memory same = ([], refl, λ rs any. (0, subst (λ q. Lines m (at b) (met t) (r ∷ rs) [] q 0 (Some file_fault.Memory)) (sym same) (short sound)))

  pub not_said : (e : FormFault) → said ws ≡ Err e → met t' ≡ met t → Takes m d (met t) (at b) (r ∷ []) Anything d t' (Err (fault.form e n))
  not_said e k same = faulted e (ap (allowed m t.signals b) k) same

  admit-at : (x : Saying) (f : FileFault) → said ws ≡ Ok x → Admits m (met t) b x (met t') n (Err f) → Takes m d (met t) (at b) (r ∷ []) Anything d t' (Err f)
  admit-at x file_fault.Memory ok a = no_memory a
  admit-at x (file_fault.Form e) ok a =
      subst (λ j. Takes m d (met t) (at b) (r ∷ []) Anything d t' (Err (file_fault.Form (record { fault = e.fault; line = j })))) (sym a.1)
      (faulted e.fault (ap (allowed m t.signals b) ok ∙ a.0) a.2)
  admit-at x (file_fault.Text e) ok a = absurd a
  admit-at x (file_fault.Editor e) ok a = absurd a

  pub admit-stops : (x : Saying) (f : FileFault) (room : ℕ) → room ≡ m → said ws ≡ Ok x → Admits room (met t) b x (met t') n (Err f) → Takes m d (met t) (at b) (r ∷ []) Anything d t' (Err f)
  admit-stops x f room same ok a = admit-at x f ok (subst (λ k. Admits k (met t) b x (met t') n (Err f)) same a)

  module _ (x : Saying) (room : ℕ) (same : room ≡ m) (ok : said ws ≡ Ok x) (done : Unit {0}) (a : Admits room (met t) b x (met t') n (Ok done)) where
    may : allowed m t.signals b (Ok x) ≡ Ok x
    may = subst (λ k. allowed k t.signals b (Ok x) ≡ Ok x) same a.0

    now : met t' ≡ meets (met t) x
    now = a.1

    edits : map (edit_of t'.signals) (claims_now x) ≡ map (edit_of (meets (met t) x).signals) (claims_now x)
    edits = ap (λ q. map (edit_of q.signals) (claims_now x)) now

    pub taken-line : (place : Place) (count : ℕ) → Plays d (map (edit_of t'.signals) (claims_now x)) d' (Ok count) → Stands t'.signals place (behind n x)
        → Takes m d (met t) (at b) (r ∷ []) Anything d' t' (Ok (record { place = place; count = count }))
    taken-line place count p stands = (
      p.0,
      behind n x,
      p.1,
      stands,
      λ rs later t'' total end any more.
          taken x (claims_now x) sound (spoken (Ok x) ok ∙ may) (claims-are x) (subst (λ es. Made es p.0 count None) edits p.2)
          (subst (λ j. Lines m (behind j x) (meets (met t) x) rs later t'' total end) (sym at-line) (subst (λ q. Lines m (behind n x) q rs later t'' total end) now more)),
    )

    pub stopped-line : (f : Refused) → Plays d (map (edit_of t'.signals) (claims_now x)) d' (Err f) → Takes m d (met t) (at b) (r ∷ []) Anything d' t' (Err (refusal f.refusal n (Some f.signal)))
    stopped-line f p = (
      p.0,
      p.2,
      λ rs any. (
        p.1,
        subst (λ q. Lines m (at b) (met t) (r ∷ rs) p.0 q p.1 (Some (refusal f.refusal n (Some f.signal)))) (sym now)
            (subst (λ j. Lines m (at b) (met t) (r ∷ rs) p.0 (meets (met t) x) p.1 (Some (refusal f.refusal j (Some f.signal)))) at-line
            (refused x (claims_now x) f.refusal f.signal sound (spoken (Ok x) ok ∙ may) (claims-are x) (subst (λ es. Made es p.0 p.1 (Some (f.refusal, f.signal))) edits p.3))),
      ),
    )

-- a line at fault by its bytes or words
pub wrong_text : (m : ℕ) (d : State) (t : NameTable) (b : Before) (r : Row) (f : LineFault) → FaultOf r f → Takes m d (met t) (at b) (r ∷ []) Anything d t (Err (file_fault.Text f))
wrong_text m d t b r f e = ([], refl, λ rs any. (0, bad_text f e))

-- the words of a row
pub words_viewed : (ws : List Word) → map (λ p. p.bytes) (map spelled ws) ≡ spellings ws
words_viewed [] = refl
words_viewed (w ∷ ws) = ap (λ l. w.bytes.now ∷ l) (words_viewed ws)

pub shaped : (first : Name) (ws : List Name) (f : Form) → FormOf ws (said (first ∷ ws)) (Ok f) → Shaped f (length ws)
shaped first ws form.Model e =
    let h = spells (first ∷ ws) (saying form.Model ws) e in
    let t : length (first ∷ ws) ≡ 2 = ap length h in omega arith
shaped first ws form.Inputs e = tt
shaped first ws form.Outputs e = tt
shaped first ws (form.Latch start) e =
    let h = spells (first ∷ ws) (saying (form.Latch start) ws) e in
    (⊎_elim (λ k. let t : length (first ∷ ws) ≡ 4 = ap length k in omega arith) (λ k. let t : length (first ∷ ws) ≡ 3 = ap length k.1 in omega arith) h.1, h.0)
shaped first ws form.Names e =
    let h = spells (first ∷ ws) (saying form.Names ws) e in
    let pins = take (length ws - 1) ws in
    let x = slice_index_or ws (length ws - 1) [] in
    let t = ap length h.2 in
    let u = length-append pins (x ∷ []) in
    let few = h.1 in (omega (arith, t, u), omega (arith, t, u, few))
shaped first ws form.End e = tt

pub first_word : (items xs : List Word) (w : Word) → xs ≡ items → 1 ≤ length xs → map (λ p. p.bytes) (map spelled items) ≡ (get_or xs 0 w).bytes.now ∷ spellings (take (length xs - 1) (drop 1 xs))
first_word items xs w e h = words_viewed items ∙ ap spellings (sym e) ∙ by xs h
  where
    by : (xs : List Word) → 1 ≤ length xs → spellings xs ≡ (get_or xs 0 w).bytes.now ∷ spellings (take (length xs - 1) (drop 1 xs))
    by [] h = absurd (omega arith)
    by (x ∷ xs) h = let n : length (x ∷ xs) - 1 ≡ length xs = omega arith in ap (λ l. x.bytes.now ∷ spellings l) (sym (ap (λ k. take k xs) n ∙ take_all (length xs) xs (le_refl (length xs))))

pub no_words : (items xs : List Word) → xs ≡ items → length xs < 1 → map (λ p. p.bytes) (map spelled items) ≡ []
no_words items [] e h = words_viewed items ∙ ap spellings (sym e)
no_words items (x ∷ xs) e h = absurd (omega arith)
