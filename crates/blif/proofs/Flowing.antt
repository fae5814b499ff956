-- Rows that are a file make the calls of its claims, up to the first that is refused.
use Rattle.std.proofs.Common.{◌≡◌, ℕ, ◌+◌, true, ◌⊎◌, List, [], ◌∷◌, ◌++◌, map, length, codes, Some, None, Ok, Option, sym, refl, ap, ◌∙◌, subst, inl, inr, ⊎_elim}
use Rattle.std.specs.List.{AllByRecursion}
use Rattle.std.proofs.lemmas.List.{append-nil, map-append}
use Rattle.table.proofs.Ones.{means_one_table}
use Rattle.names.specs.Names.{Stays, entered}
use Rattle.names.proofs.Entering.{roomy, fits_is}
use Rattle.netlist.specs.declared.edit.Edit.{Edit}
use Rattle.netlist.specs.declared.edit.Refusal.{Refusal}
use Rattle.editor.specs.Log.{Entry}
use Rattle.blif.specs.declared.fault.FileFault.{FileFault}
use Rattle.blif.specs.declared.fault.FileFault.TheVariants as file_fault
use Rattle.blif.specs.Statement.{Name, Words, Statement, inputs, outputs, latch, names, mentioned, all_mentioned, WriteAll, IsFile}
use Rattle.blif.specs.Form.{model, finish, nothing, statements, ended, says}
use Rattle.blif.specs.Rows.{Row, words_of, AreLines}
use Rattle.blif.specs.Description.{Claim, drives, Claims, ClaimAll}
use Rattle.blif.specs.Description as source
use Rattle.blif.specs.Calls.{edit_of, Made}
use Rattle.blif.specs.Calls as turn
use Rattle.blif.specs.Building.{Numbered}
use Rattle.blif.specs.File.{Met, Lines, at, meets, whole, unfinished, bad_text, bad_form, refused, taken, short}
use Rattle.blif.specs.Following.{after_statement, Through, Stops, none, more, here, later}
use Rattle.blif.proofs.Following.{head, no_rows, roomy-front, line_is_taken, some_none, statements_followed}
use Rattle.blif.proofs.Numbering.{entered_more, entered_stays, fits_named, all_join, all_change, numbered_keeps, edits_keep, written_sized, claims_numbered, made_join}
use Rattle.blif.proofs.Accepted.{made_nothing}

-- a statement claims one thing
claims-one : (s : Statement) (a b : List Claim) → Claims s a → Claims s b → a ≡ b
claims-one (inputs xs) a b h k = h ∙ sym k
claims-one (outputs xs) a b h k = h ∙ sym k
claims-one (latch p x start) a b h k = h ∙ sym k
claims-one (names pins x cover) a b h k =
    h.2 ∙ ap (λ table. drives x (source.gate table pins) ∷ []) (means_one_table (length pins) cover h.0 k.0 h.1 k.1) ∙ sym k.2

made-front : (es fs : List Edit) (a : List Entry) (x : ℕ) (end : Option (Refusal × ℕ)) (w : Refusal × ℕ) → end ≡ Some w → Made es a x end → Made (es ++ fs) a x end
made-front es fs a x end w e turn.all = absurd (cc)
made-front es fs a x end w e (turn.accepted {es = es'} {log = log} {total = total} count h) = turn.accepted count (made-front es' fs log total end w e h)
made-front es fs a x end w e (turn.refused r) = turn.refused r

-- ---- the claims of statements, by number

pub all_numbered : (m : ℕ) (ss : List Statement) (ns : List Name) (body : List Words) (cs : List Claim) → WriteAll ss body → ClaimAll ss cs → roomy m ns (all_mentioned ss) ≡ true
    → AllByRecursion (Numbered m (entered ns (all_mentioned ss))) cs
all_numbered m [] ns body cs w c room = subst (AllByRecursion (Numbered m ns)) (sym c) tt
all_numbered m (s ∷ ss) ns body cs w c room =
    let rooms = roomy-front m ns (mentioned s) (all_mentioned ss) room in
    let first = claims_numbered m (entered ns (mentioned s)) s c.0 (written_sized s w.0 w.2) (fits_named m ns (mentioned s) rooms.0) c.2 in
    let others = all_numbered m ss (entered ns (mentioned s)) w.1 c.1 w.3 c.3 rooms.1 in
    let stays = entered_stays (entered ns (mentioned s)) (all_mentioned ss) in
    subst (λ l. AllByRecursion (Numbered m (entered ns (all_mentioned (s ∷ ss)))) l) (sym c.4)
    (subst (λ l. AllByRecursion (Numbered m l) (c.0 ++ c.1)) (sym (entered_more ns (mentioned s) (all_mentioned ss)))
    (all_join (Numbered m (entered (entered ns (mentioned s)) (all_mentioned ss))) c.0 c.1
    (all_change (Numbered m (entered ns (mentioned s))) (Numbered m (entered (entered ns (mentioned s)) (all_mentioned ss))) (numbered_keeps m (entered ns (mentioned s)) _ stays) c.0 first) others))

module _ (m : ℕ) (ns : List Name) where
  -- the edits of a first statement, under the names met in the end
  first-edits : (s : Statement) (ss : List Statement) (t : Met) (w own : List Words) (cs given : List Claim) (log : List Entry) (count : ℕ) (end : Option (Refusal × ℕ)) → WriteAll (s ∷ ss) w → Claims s cs → Claims s given
      → roomy m t.signals (mentioned s) ≡ true → ns ≡ entered t.signals (all_mentioned (s ∷ ss)) → Made (map (edit_of (after_statement s t).signals) given) log count end → Made (map (edit_of ns) cs) log count end
  first-edits s ss t w own cs given log count end writes c k room is made =
      let num = claims_numbered m (entered t.signals (mentioned s)) s cs (written_sized s writes.0 writes.2) (fits_named m t.signals (mentioned s) room) c in
      let stays : Stays (entered t.signals (mentioned s)) ns =
      subst (Stays (entered t.signals (mentioned s))) (sym (is ∙ entered_more t.signals (mentioned s) (all_mentioned ss))) (entered_stays (entered t.signals (mentioned s)) (all_mentioned ss)) in
      subst (λ es. Made es log count end) (ap (map (edit_of (entered t.signals (mentioned s)))) (claims-one s given cs k c) ∙ sym (edits_keep m (entered t.signals (mentioned s)) ns stays cs num)) made

  through-made : (ss : List Statement) (t t' : Met) (log : List Entry) (body : List Words) (cs : List Claim) → Through ss t log t' → WriteAll ss body → ClaimAll ss cs → roomy m t.signals (all_mentioned ss) ≡ true
      → ns ≡ entered t.signals (all_mentioned ss) → (t'.signals ≡ ns) × ((count : ℕ) × Made (map (edit_of ns) cs) log count None)
  through-made [] t t' log body cs none w c room is = (sym is, (0, subst (λ l. Made (map (edit_of ns) l) [] 0 None) (sym c) turn.all))
  through-made (s ∷ ss) t t' log body cs (more {own = own} {later = rest} given count k made h) w c room is =
      let rooms = roomy-front m t.signals (mentioned s) (all_mentioned ss) room in
      let first = first-edits s ss t body w.0 c.0 given own count None w c.2 k rooms.0 is made in
      let others = through-made ss (after_statement s t) t' rest w.1 c.1 h w.3 c.3 rooms.1 (is ∙ entered_more t.signals (mentioned s) (all_mentioned ss)) in (
        others.0,
        (
          count + others.1.0,
          subst (λ l. Made (map (edit_of ns) l) (own ++ rest) (count + others.1.0) None) (sym c.4)
              (subst (λ es. Made es (own ++ rest) (count + others.1.0) None) (sym (map-append (edit_of ns) c.0 c.1))
              (made_join (map (edit_of ns) c.0) (map (edit_of ns) c.1) own rest count others.1.0 None None refl first others.1.1)),
        ),
      )

  abbrev pub Refuses : List Claim → List Entry → Type 0
  Refuses cs log = (count : ℕ) × (w : Refusal × ℕ) × Made (map (edit_of ns) cs) log count (Some w)

  stops-made : (ss : List Statement) (t : Met) (log : List Entry) (body : List Words) (cs : List Claim) → Stops ss t log → WriteAll ss body → ClaimAll ss cs → roomy m t.signals (all_mentioned ss) ≡ true
      → ns ≡ entered t.signals (all_mentioned ss) → Refuses cs log
  stops-made [] t log body cs h w c room is = absurd (nowhere h refl)
    where
      nowhere : {zs : List Statement} {t : Met} {log : List Entry} → Stops zs t log → zs ≡ [] → ⊥
      nowhere (here cs count why signal k made) e = cc
      nowhere (later cs count k made h) e = cc
  stops-made (s ∷ ss) t log body cs (here given count why signal k made) w c room is =
      let rooms = roomy-front m t.signals (mentioned s) (all_mentioned ss) room in
      let first = first-edits s ss t body w.0 c.0 given log count (Some (why, signal)) w c.2 k rooms.0 is made in (
        count,
        (why, signal),
        subst (λ l. Made (map (edit_of ns) l) log count (Some (why, signal))) (sym c.4)
            (subst (λ es. Made es log count (Some (why, signal))) (sym (map-append (edit_of ns) c.0 c.1))
            (made-front (map (edit_of ns) c.0) (map (edit_of ns) c.1) log count (Some (why, signal)) (why, signal) refl first)),
      )
  stops-made (s ∷ ss) t log body cs (later {own = own} {more = rest} given count k made h) w c room is =
      let rooms = roomy-front m t.signals (mentioned s) (all_mentioned ss) room in
      let first = first-edits s ss t body w.0 c.0 given own count None w c.2 k rooms.0 is made in
      let others = stops-made ss (after_statement s t) rest w.1 c.1 h w.3 c.3 rooms.1 (is ∙ entered_more t.signals (mentioned s) (all_mentioned ss)) in (
        count + others.0,
        others.1,
        subst (λ l. Made (map (edit_of ns) l) (own ++ rest) (count + others.0) (Some others.1)) (sym c.4)
            (subst (λ es. Made es (own ++ rest) (count + others.0) (Some others.1)) (sym (map-append (edit_of ns) c.0 c.1))
            (made_join (map (edit_of ns) c.0) (map (edit_of ns) c.1) own rest count others.0 (Some others.1) None refl first others.2)),
      )

-- ---- a whole file

at-end : (m : ℕ) (t t' : Met) (rows : List Row) (log : List Entry) (total : ℕ) (end : Option FileFault) → Lines m (at ended) t rows log t' total end → rows ≡ [] → (end ≡ Some file_fault.Memory) ⊎ ((end ≡ None) × (t' ≡ t) × (log ≡ []))
at-end m t t' rows log total end whole e = inr (refl, refl, refl)
at-end m t t' rows log total end (unfinished n) e = absurd (n refl)
at-end m t t' rows log total end (bad_text f k) e = absurd (cc)
at-end m t t' rows log total end (bad_form f k l) e = absurd (cc)
at-end m t t' rows log total end (refused x cs why s k l c h) e = absurd (cc)
at-end m t t' rows log total end (taken x cs k l c h on) e = absurd (cc)
at-end m t t' rows log total end (short k) e = inl refl

-- how the rows of a file end
abbrev pub Ends : ℕ → List Name → List Claim → List Entry → Met → Option FileFault → Type 0
Ends m ns cs log t' end =
    (end ≡ Some file_fault.Memory) ⊎ (Refuses m ns cs log ⊎ ((end ≡ None) × (t'.signals ≡ ns) × ((count : ℕ) × Made (map (edit_of ns) cs) log count None)))

module _ (m : ℕ) (model' : Name) (ss : List Statement) (t t' : Met) (lines : List Words) (cs : List Claim) (end : Option FileFault) (c : ClaimAll ss cs) (room : roomy m t.signals (all_mentioned ss) ≡ true) where
  abbrev ns : List Name
  ns = entered t.signals (all_mentioned ss)

  end-line : (then : Met) (rows : List Row) (log : List Entry) (total : ℕ) → AreLines rows ((codes ".end" ∷ []) ∷ []) → Lines m (at statements) then rows log t' total end
      → (end ≡ Some file_fault.Memory) ⊎ ((end ≡ None) × (t' ≡ then) × (log ≡ []))
  end-line then rows log total are h =
      let top = head rows _ _ are in
      let says-end : says m then.signals statements (words_of top.0) ≡ Ok finish = ap (says m then.signals statements) top.4 in
      ⊎_elim
      (λ a.
      let z = made_nothing _ a.own a.count None a.made (ap (map (edit_of then.signals)) a.now) in
      ⊎_elim (λ x. inl x) (λ x. inr (x.0, x.1, a.entries ∙ ap (λ l. l ++ a.later) z.0 ∙ x.2)) (at-end m then t' top.1 a.later a.total end a.on (no_rows top.1 top.5)))
      (λ b. ⊎_elim (λ s. let z = (made_nothing _ log total _ s.made (ap (map (edit_of then.signals)) s.now)).2 in absurd (some_none (s.why, s.signal) z)) (λ x. inl x) b)
      (line_is_taken m statements then t' top.0 top.1 finish log total end top.3 says-end (subst (λ l. Lines m (at statements) then l log t' total end) top.2 h))

  body-lines : (start : Met) (rows : List Row) (body : List Words) (log : List Entry) (total : ℕ) → start.signals ≡ t.signals → WriteAll ss body → AreLines rows (body ++ (codes ".end" ∷ []) ∷ [])
      → Lines m (at statements) start rows log t' total end → Ends m ns cs log t' end
  body-lines start rows body log total same w are h =
      let few : roomy m start.signals (all_mentioned ss) ≡ true = ap (λ l. roomy m l (all_mentioned ss)) same ∙ room in
      let is : ns ≡ entered start.signals (all_mentioned ss) = ap (λ l. entered l (all_mentioned ss)) (sym same) in
      ⊎_elim (λ x. inl x)
      (λ y.
      ⊎_elim (λ s. inr (inl (stops-made m ns ss start log body cs s w c few is)))
      (λ z.
      let through = through-made m ns ss start z.then z.own body cs z.through w c few is in
      ⊎_elim (λ x. inl x)
      (λ x.
      inr (inr (
        x.0,
        ap (λ q. q.signals) x.1 ∙ through.0,
        (through.1.0, subst (λ l. Made (map (edit_of ns) cs) l through.1.0 None) (sym (z.entries ∙ ap (λ l. z.own ++ l) x.2 ∙ append-nil z.own)) through.1.1),
      )))
      (end-line z.then z.rows z.later z.total z.left z.on))
      y)
      (statements_followed m ss body ((codes ".end" ∷ []) ∷ []) rows start t' log total end w are refl (fits_is m start.signals (all_mentioned ss) ∙ few) h)

  pub file_ends : (rows : List Row) (log : List Entry) (total : ℕ) → AreLines rows lines → IsFile lines model' ss → Lines m (at nothing) t rows log t' total end → Ends m ns cs log t' end
  file_ends rows log total are file h =
      let top = head rows _ _ (subst (AreLines rows) file.whole are) in
      let ok : says m t.signals nothing (words_of top.0) ≡ Ok (model model') = ap (says m t.signals nothing) top.4 in
      ⊎_elim
      (λ a.
      let z = made_nothing _ a.own a.count None a.made (ap (map (edit_of t.signals)) a.now) in
      subst (λ l. Ends m ns cs l t' end) (sym (a.entries ∙ ap (λ l. l ++ a.later) z.0)) (body-lines (meets t (model model')) top.1 file.body a.later a.total refl file.writes top.5 a.on))
      (λ b. ⊎_elim (λ s. let z = (made_nothing _ log total _ s.made (ap (map (edit_of t.signals)) s.now)).2 in absurd (some_none (s.why, s.signal) z)) (λ x. inl x) b)
      (line_is_taken m nothing t t' top.0 top.1 (model model') log total end top.3 ok (subst (λ l. Lines m (at nothing) t l log t' total end) top.2 h))
