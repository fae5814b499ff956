-- The lines of statements are followed.
use Rattle.std.proofs.Common.{◌≡◌, ℕ, zero, suc, ◌+◌, ◌≤◌, ◌⊎◌, true, false, eqb, List, [], ◌∷◌, ◌++◌, map, length, codes, Some, None, Ok, Err, Option, sym, refl, ap, ◌∙◌, subst, inl, inr, ⊎_elim, append_assoc, arith}
use Rattle.std.specs.List.{AllByRecursion}
use Rattle.std.proofs.lemmas.Bool.{cond-true, and_parts, and_from}
use Rattle.std.proofs.lemmas.List.{append-nil}
use Rattle.table.specs.Line.{Line, IsCover, Formed, Alike, Differs, Characters}
use Rattle.table.specs.Cover.{Refuses}
use Rattle.table.specs.declared.fault.CoverFault.{CoverFault}
use Rattle.names.specs.Names.{entered, fits, below, position, added}
use Rattle.names.proofs.Entering.{roomy, fits_is}
use Rattle.netlist.specs.declared.edit.Refusal.{Refusal}
use Rattle.editor.specs.Log.{Entry}
use Rattle.blif.specs.declared.fault.FormFault.{FormFault}
use Rattle.blif.specs.declared.fault.FileFault.{FileFault}
use Rattle.blif.specs.declared.fault.FileFault.TheVariants as file_fault
use Rattle.blif.specs.Statement.{Name, Words, Statement, inputs, outputs, latch, names, mentioned, all_mentioned, cover_words, Writes, WriteAll}
use Rattle.blif.specs.Form.{Saying, states, Before, statements, said, says, allowed, cover_line, CoverFaulty}
use Rattle.blif.specs.Rows.{Row, words_of, dotted, AreLines}
use Rattle.blif.specs.Description.{Claim, Claims}
use Rattle.netlist.specs.declared.edit.Edit.{Edit}
use Rattle.blif.specs.Calls.{edit_of, Made}
use Rattle.blif.specs.Calls as made
use Rattle.blif.specs.File.{Met, Lines, at, covering, meets, behind, Covers, ClaimsNow, bad_text, bad_form, refused, taken, bad_cover_text, bad_cover, covered, gate, gate_refused, short}
use Rattle.blif.specs.Following.{Taken, LineIsTaken, after_statement, none, more, Stops, here, later, Dotted, Gone, StatementsAreFollowed}

same_saying : (m : ℕ) (ns : List Name) (b : Before) (ws : Words) (x y : Saying) → says m ns b ws ≡ Ok x → says m ns b ws ≡ Ok y → x ≡ y
same_saying m ns b ws x y e f = let g : Ok x ≡ Ok y = sym e ∙ f in cc

pub line_is_taken : LineIsTaken
line_is_taken m b t t' r rs x all sum end sound says-x (bad_text f e) = let g = sym sound ∙ e.number in absurd (cc)
line_is_taken m b t t' r rs x all sum end sound says-x (bad_form f e k) = let g : Ok x ≡ Err f = sym says-x ∙ k in absurd (cc)
line_is_taken m b t t' r rs x all sum end sound says-x (refused y cs why s e k c made) =
    let same : y ≡ x = same_saying m t.signals b (words_of r) y x k says-x in
    inr (inl (record {
      claims = cs;
      now = subst (λ z. ClaimsNow z cs) same c;
      why = why;
      signal = s;
      made = subst (λ z. Made (map (edit_of (meets t z).signals) cs) all sum (Some (why, s))) same made;
      names = ap (meets t) same;
      ends = refl;
    }))
line_is_taken m b t t' r rs x all sum end sound says-x (taken {own = own} {later = further} {count = count} {total = total} y cs e k c made on) =
    let same : y ≡ x = same_saying m t.signals b (words_of r) y x k says-x in
    inl (record {
      claims = cs;
      now = subst (λ z. ClaimsNow z cs) same c;
      own = own;
      later = further;
      count = count;
      total = total;
      made = subst (λ z. Made (map (edit_of (meets t z).signals) cs) own count None) same made;
      on = subst (λ z. Lines m (behind r.line z) (meets t z) rs further t' total end) same on;
      entries = refl;
      sums = refl;
    })
line_is_taken m b t t' r rs x all sum end sound says-x (short k) = inr (inr refl)

-- ---- the head of some rows

pub head : (rows : List Row) (w : Words) (ls : List Words) → AreLines rows (w ∷ ls) → (r : Row) × (rs : List Row) × (rows ≡ r ∷ rs) × (r.fault ≡ None) × (words_of r ≡ w) × AreLines rs ls
head [] w ls h = absurd (cc)
head (r ∷ rs) w ls h =
    let a : words_of r ≡ w = cc in
    let b : map words_of rs ≡ ls = cc in
    (r, rs, refl, h.0.0, a, (h.0.1, b))

pub no_rows : (rows : List Row) → AreLines rows [] → rows ≡ []
no_rows [] h = refl
no_rows (r ∷ rs) h = absurd (cc)

uncovered : (rows : List Row) (ls : List Words) → AreLines rows ls → Dotted ls → Covers rows → ⊥
uncovered [] ls h d c = c
uncovered (r ∷ rs) [] h d c = absurd (cc)
uncovered (r ∷ rs) (w ∷ ls) h d c =
    let a : words_of r ≡ w = cc in
    let e : true ≡ false = sym d ∙ ap dotted (sym a) ∙ c in absurd (cc)

-- ---- names of a line among those of a file

pub roomy-front : (m : ℕ) (ns ws vs : List Name) → roomy m ns (ws ++ vs) ≡ true → (roomy m ns ws ≡ true) × (roomy m (entered ns ws) vs ≡ true)
roomy-front m ns [] vs h = (refl, h)
roomy-front m ns (w ∷ ws) vs h =
    let both = and_parts (below m (position (added ns w) w)) (roomy m (added ns w) (ws ++ vs)) h in
    let rest = roomy-front m (added ns w) ws vs both.1 in
    (and_from (below m (position (added ns w) w)) (roomy m (added ns w) ws) both.0 rest.0, rest.1)

says-said : (m : ℕ) (ns : List Name) (ws : Words) (s : Statement) → said ws ≡ Ok (states s) → roomy m ns (mentioned s) ≡ true → says m ns statements ws ≡ Ok (states s)
says-said m ns ws s e h = ap (allowed m ns statements) e ∙ cond-true (fits m ns (mentioned s)) _ _ (fits_is m ns (mentioned s) ∙ h)

-- ---- covers

empty_plane : (p : List ℕ) → length p ≡ 0 → [] ≡ p
empty_plane [] e = refl
empty_plane (b ∷ p) e = absurd (omega (arith, e))

plane_undotted : (p o : List ℕ) (k : ℕ) → length p ≡ suc k → Characters p → dotted (p ∷ o ∷ []) ≡ false
plane_undotted [] o k e h = absurd (omega (arith, e))
plane_undotted (c ∷ p) o k e h = ⊎_elim (λ z. ap (λ b. eqb b 46) z) (λ y. ⊎_elim (λ z. ap (λ b. eqb b 46) z) (λ z. ap (λ b. eqb b 46) z) y) (h 0 (omega arith))

shaped : (k : ℕ) (line : Line) → Formed k line → cover_line k (cover_words k line) ≡ Some line
shaped zero line f = ap (λ p. Some (record { plane = p; output = line.output })) (empty_plane line.plane f.long)
shaped (suc k) line f = refl

pub undotted : (k : ℕ) (line : Line) → Formed k line → dotted (cover_words k line) ≡ false
undotted zero line f = ⊎_elim (λ e. ap (λ o. dotted (o ∷ [])) e) (λ e. ap (λ o. dotted (o ∷ [])) e) f.ends
undotted (suc k) line f = plane_undotted line.plane line.output k f.long f.characters

part_formed : (k : ℕ) (done : List Line) (line : Line) (rest : List Line) → AllByRecursion (Formed k) (done ++ line ∷ rest) → Formed k line
part_formed k [] line rest h = h.0
part_formed k (l ∷ done) line rest h = part_formed k done line rest h.1

part_alike : (o : List ℕ) (done : List Line) (line : Line) (rest : List Line) → AllByRecursion (λ l. l.output ≡ o) (done ++ line ∷ rest) → line.output ≡ o
part_alike o [] line rest h = h.0
part_alike o (l ∷ done) line rest h = part_alike o done line rest h.1

undiffering : (done : List Line) (line : Line) (rest : List Line) → Alike (done ++ line ∷ rest) → Differs done line → ⊥
undiffering [] line rest h d = d
undiffering (l ∷ done) line rest h d = d (part_alike l.output done line rest h)

unfaulty : (k : ℕ) (done : List Line) (line : Line) (o : Option Line) (f : FormFault) → o ≡ Some line → Formed k line → (Differs done line → ⊥) → CoverFaulty k done o f → ⊥
unfaulty k done line None f e formed differs h = absurd (cc)
unfaulty k done line (Some l) f e formed differs (g, h, is) = by g h
  where
    same : l ≡ line
    same = cc

    by : (g : CoverFault) → Refuses k done l g → ⊥
    by g h = ⊎_elim (λ z. z.1 (subst (Formed k) (sym same) formed)) (λ z. differs (subst (Differs done) same z.2)) h

cover-step :
    (m n : ℕ) (pins : List Name) (x : Name) (done : List Line) (line : Line) (t t' : Met) (r : Row) (rs : List Row) (all : List Entry) (sum : ℕ) (end : Option FileFault) → r.fault ≡ None
    → words_of r ≡ cover_words (length pins) line → Formed (length pins) line → (Differs done line → ⊥) → Lines m (covering n pins x done) t (r ∷ rs) all t' sum end
    → (end ≡ Some file_fault.Memory) ⊎ Lines m (covering n pins x (done ++ line ∷ [])) t rs all t' sum end
cover-step m n pins x done line t t' r rs all sum end sound is formed differs (bad_cover_text f c e) = let g = sym sound ∙ e.number in absurd (cc)
cover-step m n pins x done line t t' r rs all sum end sound is formed differs (bad_cover f c e k) =
    absurd (unfaulty (length pins) done line (cover_line (length pins) (words_of r)) f (ap (cover_line (length pins)) is ∙ shaped (length pins) line formed) formed differs k)
cover-step m n pins x done line t t' r rs all sum end sound is formed differs (covered l c e k on) =
    let g : Some l ≡ Some line = sym k.0 ∙ ap (cover_line (length pins)) is ∙ shaped (length pins) line formed in
    let same : l ≡ line = cc in
    inr (subst (λ z. Lines m (covering n pins x (done ++ z ∷ [])) t rs all t' sum end) same on)
cover-step m n pins x done line t t' r rs all sum end sound is formed differs (gate_refused cs why s un k made) = absurd (un (ap dotted is ∙ undotted (length pins) line formed))
cover-step m n pins x done line t t' r rs all sum end sound is formed differs (gate cs un k made on) = absurd (un (ap dotted is ∙ undotted (length pins) line formed))
cover-step m n pins x done line t t' r rs all sum end sound is formed differs (short k) = inl refl

follow-cover :
    (m n : ℕ) (pins : List Name) (x : Name) (cover done : List Line) (t t' : Met) (rows : List Row) (after : List Words) (all : List Entry) (sum : ℕ) (end : Option FileFault)
    → IsCover (length pins) (done ++ cover) → AreLines rows (map (cover_words (length pins)) cover ++ after) → Lines m (covering n pins x done) t rows all t' sum end
    → (end ≡ Some file_fault.Memory) ⊎ ((rs : List Row) × AreLines rs after × Lines m (covering n pins x (done ++ cover)) t rs all t' sum end)
follow-cover m n pins x [] done t t' rows after all sum end c h k = inr (rows, h, subst (λ l. Lines m (covering n pins x l) t rows all t' sum end) (sym (append-nil done)) k)
follow-cover m n pins x (line ∷ cover) done t t' rows after all sum end c h k =
    let top = head rows _ _ h in
    ⊎_elim (λ e. inl e)
    (λ on.
    ⊎_elim (λ e. inl e)
    (λ z. inr (z.0, z.1, subst (λ l. Lines m (covering n pins x l) t z.0 all t' sum end) (append_assoc done (line ∷ []) cover) z.2))
    (follow-cover m n pins x cover (done ++ line ∷ []) t t' top.1 after all sum end (subst (IsCover (length pins)) (sym (append_assoc done (line ∷ []) cover)) c) top.5 on))
    (cover-step m n pins x done line t t' top.0 top.1 all sum end top.3 top.4 (part_formed (length pins) done line cover c.formed) (undiffering done line cover c.alike)
    (subst (λ l. Lines m (covering n pins x done) t l all t' sum end) top.2 k))

-- ---- one statement

record Ahead (m : ℕ) (s : Statement) (t : Met) (after : List Words) (all : List Entry) (t' : Met) (end : Option FileFault) : Type 0 where
  rows : List Row
  claims : List Claim
  own : List Entry
  further : List Entry
  count : ℕ
  total : ℕ
  are : Claims s claims
  made : Made (map (edit_of (after_statement s t).signals) claims) own count None
  left : AreLines rows after
  on : Lines m (at statements) (after_statement s t) rows further t' total end
  entries : all ≡ own ++ further

abbrev Stop : Statement → Met → List Entry → Type 0
Stop s t all = (claims : List Claim) × (count : ℕ) × (why : Refusal) × (signal : ℕ) × Claims s claims × Made (map (edit_of (after_statement s t).signals) claims) all count (Some (why, signal))

abbrev Outcome : ℕ → Statement → Met → List Words → List Entry → Met → Option FileFault → Type 0
Outcome m s t after all t' end = (end ≡ Some file_fault.Memory) ⊎ (Stop s t all ⊎ Ahead m s t after all t' end)

plain-step :
    (m : ℕ) (s : Statement) (w : Words) (after : List Words) (rows : List Row) (t t' : Met) (all : List Entry) (sum : ℕ) (end : Option FileFault) → said w ≡ Ok (states s)
    → ((n : ℕ) → behind n (states s) ≡ at statements) → ((cs : List Claim) → ClaimsNow (states s) cs → Claims s cs) → roomy m t.signals (mentioned s) ≡ true → AreLines rows (w ∷ after)
    → Lines m (at statements) t rows all t' sum end → Outcome m s t after all t' end
plain-step m s w after rows t t' all sum end e there claims room h k =
    let top = head rows w after h in
    let ok : says m t.signals statements (words_of top.0) ≡ Ok (states s) = ap (says m t.signals statements) top.4 ∙ says-said m t.signals w s e room in
    ⊎_elim
    (λ a.
    inr (inr (record {
      rows = top.1;
      claims = a.claims;
      own = a.own;
      further = a.later;
      count = a.count;
      total = a.total;
      are = claims a.claims a.now;
      made = a.made;
      left = top.5;
      on = subst (λ p. Lines m p (after_statement s t) top.1 a.later t' a.total end) (there top.0.line) a.on;
      entries = a.entries;
    })))
    (λ b. ⊎_elim (λ z. inr (inl (z.claims, sum, z.why, z.signal, claims z.claims z.now, z.made))) (λ z. inl z) b)
    (line_is_taken m statements t t' top.0 top.1 (states s) all sum end top.3 ok (subst (λ l. Lines m (at statements) t l all t' sum end) top.2 k))

record Closed (m : ℕ) (pins : List Name) (x : Name) (cover : List Line) (t : Met) (rows : List Row) (all : List Entry) (t' : Met) (end : Option FileFault) : Type 0 where
  claims : List Claim
  own : List Entry
  further : List Entry
  count : ℕ
  total : ℕ
  are : Claims (names pins x cover) claims
  made : Made (map (edit_of t.signals) claims) own count None
  on : Lines m (at statements) t rows further t' total end
  entries : all ≡ own ++ further

gate-step :
    (m n : ℕ) (pins : List Name) (x : Name) (cover : List Line) (t t' : Met) (rows : List Row) (all : List Entry) (sum : ℕ) (end : Option FileFault) → (Covers rows → ⊥)
    → Lines m (covering n pins x cover) t rows all t' sum end
    → (end ≡ Some file_fault.Memory)
    ⊎ (((claims : List Claim) × (count : ℕ) × (why : Refusal) × (signal : ℕ) × Claims (names pins x cover) claims × Made (map (edit_of t.signals) claims) all count (Some (why, signal)))
    ⊎ Closed m pins x cover t rows all t' end)
gate-step m n pins x cover t t' rows all sum end un (bad_cover_text f c e) = absurd (un c)
gate-step m n pins x cover t t' rows all sum end un (bad_cover f c e k) = absurd (un c)
gate-step m n pins x cover t t' rows all sum end un (covered l c e k on) = absurd (un c)
gate-step m n pins x cover t t' rows all sum end un (gate_refused cs why s u k made) = inr (inl (cs, sum, why, s, k, made))
gate-step m n pins x cover t t' rows all sum end un (gate {own = own} {later = further} {count = count} {total = total} cs u k made on) =
    inr (inr (record { claims = cs; own = own; further = further; count = count; total = total; are = k; made = made; on = on; entries = refl }))
gate-step m n pins x cover t t' rows all sum end un (short k) = inl refl

pub some_none : (a : Refusal × ℕ) → Some a ≡ None → ⊥
some_none a e = cc

made_none : (es : List Edit) (all : List Entry) (sum : ℕ) (end : Option (Refusal × ℕ)) → Made es all sum end → es ≡ [] → (end ≡ None) × (all ≡ [])
made_none es all sum end made.all e = (refl, refl)
made_none es all sum end (made.accepted c rest) e = absurd (cc)
made_none es all sum end (made.refused r) e = absurd (cc)

names_said : (pins : List Name) (x : Name) → length pins ≤ 4 → said (codes ".names" ∷ (pins ++ x ∷ [])) ≡ Ok (states (names pins x []))
names_said [] x h = refl
names_said (a ∷ []) x h = refl
names_said (a ∷ (b ∷ [])) x h = refl
names_said (a ∷ (b ∷ (c ∷ []))) x h = refl
names_said (a ∷ (b ∷ (c ∷ (d ∷ [])))) x h = refl
names_said (a ∷ (b ∷ (c ∷ (d ∷ (e ∷ pins))))) x h = absurd (omega (arith, h))

names-step :
    (m : ℕ) (pins : List Name) (x : Name) (cover : List Line) (after : List Words) (rows : List Row) (t t' : Met) (all : List Entry) (sum : ℕ) (end : Option FileFault) → length pins ≤ 4
    → IsCover (length pins) cover → roomy m t.signals (pins ++ x ∷ []) ≡ true → AreLines rows ((codes ".names" ∷ (pins ++ x ∷ [])) ∷ (map (cover_words (length pins)) cover ++ after)) → Dotted after
    → Lines m (at statements) t rows all t' sum end → Outcome m (names pins x cover) t after all t' end
names-step m pins x cover after rows t t' all sum end few is room h dots k =
    let top = head rows _ _ h in
    let w = codes ".names" ∷ (pins ++ x ∷ []) in
    let ok : says m t.signals statements (words_of top.0) ≡ Ok (states (names pins x [])) =
    ap (says m t.signals statements) top.4 ∙ says-said m t.signals w (names pins x []) (names_said pins x few) room in
    ⊎_elim
    (λ a. covers top.0 top.1 top.5 a)
    (λ b. ⊎_elim (λ z. inr (inl (never z.claims z.now z.made))) (λ z. inl z) b)
    (line_is_taken m statements t t' top.0 top.1 (states (names pins x [])) all sum end top.3 ok (subst (λ l. Lines m (at statements) t l all t' sum end) top.2 k))
  where
    never : {why : Refusal} {signal : ℕ} (cs : List Claim) → cs ≡ [] → Made (map (edit_of (after_statement (names pins x []) t).signals) cs) all sum (Some (why, signal)) → Stop (names pins x cover) t all
    never {why} {signal} cs e k = let z = (made_none _ all sum _ k (ap (map (edit_of (after_statement (names pins x []) t).signals)) e)).0 in absurd (some_none (why, signal) z)

    covers : (r : Row) (rs : List Row) → AreLines rs (map (cover_words (length pins)) cover ++ after) → Taken m statements t r rs (states (names pins x [])) all t' sum end → Outcome m (names pins x cover) t after all t' end
    covers r rs left a =
        let own = (made_none _ a.own a.count None a.made (ap (map (edit_of (after_statement (names pins x []) t).signals)) a.now)).1 in
        let same : a.later ≡ all = sym (a.entries ∙ ap (λ l. l ++ a.later) own) in
        ⊎_elim (λ z. inl z)
        (λ z.
        ⊎_elim (λ y. inl y)
        (λ y.
        ⊎_elim
        (λ v. inr (inl (v.0, v.1, v.2, v.3, v.4, subst (λ l. Made (map (edit_of (after_statement (names pins x cover) t).signals) v.0) l v.1 (Some (v.2, v.3))) same v.5)))
        (λ v. inr (inr (record { rows = z.0; claims = v.claims; own = v.own; further = v.further; count = v.count; total = v.total; are = v.are; made = v.made; left = z.1; on = v.on; entries = sym same ∙ v.entries })))
        y)
        (gate-step m r.line pins x cover (after_statement (names pins x []) t) t' z.0 a.later a.total end (uncovered z.0 after z.1 dots) z.2))
        (follow-cover m r.line pins x cover [] (after_statement (names pins x []) t) t' rs after a.later a.total end is left a.on)

-- ---- all statements

dotted-head : (ss : List Statement) (body after : List Words) → WriteAll ss body → Dotted after → Dotted (body ++ after)
dotted-head [] body after w d = subst (λ b. Dotted (b ++ after)) (sym w) d
dotted-head (inputs xs ∷ ss) body after w d = subst (λ b. Dotted (b ++ after)) (sym (w.4 ∙ ap (λ l. l ++ w.1) w.2)) refl
dotted-head (outputs xs ∷ ss) body after w d = subst (λ b. Dotted (b ++ after)) (sym (w.4 ∙ ap (λ l. l ++ w.1) w.2)) refl
dotted-head (latch a x start ∷ ss) body after w d =
    subst (λ b. Dotted (b ++ after)) (sym w.4)
    (⊎_elim (λ e. subst (λ l. Dotted ((l ++ w.1) ++ after)) (sym e) refl) (λ e. subst (λ l. Dotted ((l ++ w.1) ++ after)) (sym e.1) refl) w.2.1)
dotted-head (names pins x cover ∷ ss) body after w d = subst (λ b. Dotted (b ++ after)) (sym (w.4 ∙ ap (λ l. l ++ w.1) w.2.2)) refl

latch_said : (a x : Name) (start : ℕ) → start ≤ 3 → said (codes ".latch" ∷ a ∷ x ∷ ((48 + start) ∷ []) ∷ []) ≡ Ok (states (latch a x start))
latch_said a x zero h = refl
latch_said a x (suc zero) h = refl
latch_said a x (suc (suc zero)) h = refl
latch_said a x (suc (suc (suc zero))) h = refl
latch_said a x (suc (suc (suc (suc s)))) h = absurd (omega (arith, h))

one_step :
    (m : ℕ) (s : Statement) (own after : List Words) (rows : List Row) (t t' : Met) (all : List Entry) (sum : ℕ) (end : Option FileFault) → Writes s own → roomy m t.signals (mentioned s) ≡ true
    → AreLines rows (own ++ after) → Dotted after → Lines m (at statements) t rows all t' sum end → Outcome m s t after all t' end
one_step m (inputs xs) own after rows t t' all sum end w room h d k =
    plain-step m (inputs xs) (codes ".inputs" ∷ xs) after rows t t' all sum end refl (λ n. refl) (λ cs c. c) room (subst (λ l. AreLines rows (l ++ after)) w h) k
one_step m (outputs xs) own after rows t t' all sum end w room h d k =
    plain-step m (outputs xs) (codes ".outputs" ∷ xs) after rows t t' all sum end refl (λ n. refl) (λ cs c. c) room (subst (λ l. AreLines rows (l ++ after)) w h) k
one_step m (latch a x start) own after rows t t' all sum end w room h d k =
    ⊎_elim
    (λ e.
    plain-step m (latch a x start) (codes ".latch" ∷ a ∷ x ∷ ((48 + start) ∷ []) ∷ []) after rows t t' all sum end (latch_said a x start w.0) (λ n. refl) (λ cs c. c) room
    (subst (λ l. AreLines rows (l ++ after)) e h) k)
    (λ e.
    plain-step m (latch a x start) (codes ".latch" ∷ a ∷ x ∷ []) after rows t t' all sum end (ap (λ v. Ok (states (latch a x v))) (sym e.0)) (λ n. refl) (λ cs c. c) room
    (subst (λ l. AreLines rows (l ++ after)) e.1 h) k)
    w.1
one_step m (names pins x cover) own after rows t t' all sum end w room h d k =
    names-step m pins x cover after rows t t' all sum end w.0 w.1 room (subst (λ l. AreLines rows (l ++ after)) w.2 h) d k

follow-roomy :
    (m : ℕ) (ss : List Statement) (body after : List Words) (rows : List Row) (t t' : Met) (all : List Entry) (sum : ℕ) (end : Option FileFault) → WriteAll ss body → AreLines rows (body ++ after) → Dotted after
    → roomy m t.signals (all_mentioned ss) ≡ true → Lines m (at statements) t rows all t' sum end
    → (end ≡ Some file_fault.Memory) ⊎ (Stops ss t all ⊎ Gone m ss t after all t' end)
follow-roomy m [] body after rows t t' all sum end w h d room k =
    inr (inr (record { rows = rows; own = []; later = all; total = sum; then = t; through = none; left = subst (λ b. AreLines rows (b ++ after)) w h; on = k; entries = refl }))
follow-roomy m (s ∷ ss) body after rows t t' all sum end w h d room k =
    let rooms = roomy-front m t.signals (mentioned s) (all_mentioned ss) room in
    let split : AreLines rows (w.0 ++ (w.1 ++ after)) = subst (AreLines rows) (ap (λ b. b ++ after) w.4 ∙ append_assoc w.0 w.1 after) h in
    ⊎_elim (λ e. inl e)
    (λ out.
    ⊎_elim
    (λ z. inr (inl (subst (Stops (s ∷ ss) t) refl (here z.0 z.1 z.2 z.3 z.4 z.5))))
    (λ z.
    ⊎_elim (λ e. inl e)
    (λ more'.
    ⊎_elim
    (λ y. inr (inl (subst (Stops (s ∷ ss) t) (sym z.entries) (later z.claims z.count z.are z.made y))))
    (λ y.
    inr (inr (record {
      rows = y.rows;
      own = z.own ++ y.own;
      later = y.later;
      total = y.total;
      then = y.then;
      through = more z.claims z.count z.are z.made y.through;
      left = y.left;
      on = y.on;
      entries = z.entries ∙ ap (λ l. z.own ++ l) y.entries ∙ sym (append_assoc z.own y.own y.later);
    })))
    more')
    (follow-roomy m ss w.1 after z.rows (after_statement s t) t' z.further z.total end w.3 z.left d rooms.1 z.on))
    out)
    (one_step m s w.0 (w.1 ++ after) rows t t' all sum end w.2 rooms.0 split (dotted-head ss w.1 after w.3 d) k)

pub statements_followed : StatementsAreFollowed
statements_followed m ss body after rows t t' all sum end w h d few k =
    follow-roomy m ss body after rows t t' all sum end w h d (sym (fits_is m t.signals (all_mentioned ss)) ∙ few) k
