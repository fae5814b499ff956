-- Rows that are read without a fault are a file.
use Rattle.std.proofs.Common.{◌≡◌, ℕ, ◌+◌, true, List, [], ◌∷◌, ◌++◌, map, length, codes, None, Option, sym, refl, ap, ◌∙◌, subst, inl, inr, ⊎_elim, append_assoc, arith}
use Rattle.std.specs.List.{AllByRecursion}
use Rattle.std.proofs.lemmas.List.{append-nil, map-append}
use Rattle.std.specs.Str.{bytes_eq}
use Rattle.std.proofs.lemmas.Bool.{cases_Bool, and_from, and_parts}
use Rattle.std.specs.Cmp.Lexicographic.{bytes_decides}
use Rattle.table.specs.Line.{Line, IsCover, Formed, Alike, Differs}
use Rattle.names.specs.Names.{position, Stays, added, below, entered}
use Rattle.names.proofs.Entering.{roomy, fits_is}
use Rattle.netlist.specs.declared.edit.Refusal.{Refusal}
use Rattle.editor.specs.Log.{Entry}
use Rattle.blif.specs.declared.fault.FileFault.{FileFault}
use Rattle.blif.specs.Statement.{Name, Words, Statement, inputs, outputs, latch, names, mentioned, all_mentioned, cover_words, Writes, WriteAll}
use Rattle.blif.specs.Form.{Saying, model, states, finish, Before, nothing, statements, ended}
use Rattle.blif.specs.Rows.{Row, words_of}
use Rattle.blif.specs.Description.{Claim, Claims, ClaimAll}
use Rattle.netlist.specs.declared.edit.Edit.{Edit}
use Rattle.blif.specs.Calls.{edit_of, Made}
use Rattle.blif.specs.Calls as turn
use Rattle.blif.specs.Building.{Numbered}
use Rattle.blif.specs.File.{Met, Point, at, covering, Lines, meets, behind, ClaimsNow, whole, unfinished, bad_text, bad_form, refused, taken, bad_cover_text, bad_cover, covered, gate_refused, gate, short}
use Rattle.blif.specs.Following.{after_statement}
use Rattle.blif.specs.Accepted.{AcceptedIsSaid}
use Rattle.blif.proofs.Numbering.{entered_more, entered_stays, fits_named, all_join, all_change, numbered_keeps, edits_keep, Sized, claims_numbered, made_join}
use Rattle.blif.proofs.Saying.{spells, Allowed, saying-parts, cover_spelled}

abbrev Soundly : List Row → Type 0
Soundly rows = AllByRecursion (λ r. r.fault ≡ None) rows

-- what the rows behind `.model` say
record Said (m : ℕ) (t : Met) (rows : List Row) (log : List Entry) (t' : Met) (total : ℕ) : Type 0 where
  ss : List Statement
  body : List Words
  claims : List Claim
  sound : Soundly rows
  writes : WriteAll ss body
  worded : map words_of rows ≡ body ++ (codes ".end" ∷ []) ∷ []
  are : ClaimAll ss claims
  same : t'.model ≡ t.model
  met : t'.signals ≡ entered t.signals (all_mentioned ss)
  few : roomy m t.signals (all_mentioned ss) ≡ true
  numbered : AllByRecursion (Numbered m t'.signals) claims
  calls : Made (map (edit_of t'.signals) claims) log total None

-- what they say behind a gate whose cover has begun
record Closes (m : ℕ) (pins : List Name) (x : Name) (cover : List Line) (t : Met) (rows : List Row) (log : List Entry) (t' : Met) (total : ℕ) : Type 0 where
  lines : List Line
  front : List Row
  rest : List Row
  parts : rows ≡ front ++ rest
  sound : Soundly front
  worded : map words_of front ≡ map (cover_words (length pins)) lines
  is : IsCover (length pins) (cover ++ lines)
  claims : List Claim
  are : Claims (names pins x (cover ++ lines)) claims
  own : List Entry
  count : ℕ
  calls : Made (map (edit_of t.signals) claims) own count None
  later : List Entry
  left : ℕ
  then : Said m t rest later t' left
  entries : log ≡ own ++ later
  sums : total ≡ count + left

record Begins (m : ℕ) (t : Met) (rows : List Row) (log : List Entry) (t' : Met) (total : ℕ) : Type 0 where
  name : Name
  top : Row
  rest : List Row
  parts : rows ≡ top ∷ rest
  sound : top.fault ≡ None
  worded : words_of top ≡ codes ".model" ∷ name ∷ []
  then : Said m (meets t (model name)) rest log t' total

abbrev Gives : ℕ → Point → Met → List Row → List Entry → Met → ℕ → Type 0
Gives m (at nothing) t rows log t' total = Begins m t rows log t' total
Gives m (at statements) t rows log t' total = Said m t rows log t' total
Gives m (at ended) t rows log t' total = (rows ≡ []) × (log ≡ []) × (t' ≡ t) × (total ≡ 0)
Gives m (covering n pins x cover) t rows log t' total = IsCover (length pins) cover → Closes m pins x cover t rows log t' total

-- ---- covers

alike-all : (o : List ℕ) (ls : List Line) (l : Line) → AllByRecursion (λ x. x.output ≡ o) ls → l.output ≡ o → AllByRecursion (λ x. x.output ≡ o) (ls ++ l ∷ [])
alike-all o ls l h e = all_join (λ x. x.output ≡ o) ls (l ∷ []) h (e, tt)

alike-more : (cover : List Line) (line : Line) → Alike cover → (Differs cover line → ⊥) → Alike (cover ++ line ∷ [])
alike-more [] line h d = tt
alike-more (first ∷ rest) line h d =
    alike-all first.output rest line h
    (⊎_elim (λ t. (bytes_decides line.output first.output).0 t) (λ f. absurd (d (λ e. let u = (bytes_decides line.output first.output).1 e in cc))) (cases_Bool (bytes_eq line.output first.output)))

cover-more : (k : ℕ) (cover : List Line) (line : Line) → IsCover k cover → Formed k line → (Differs cover line → ⊥) → IsCover k (cover ++ line ∷ [])
cover-more k cover line h f d = record { formed = all_join (Formed k) cover (line ∷ []) h.formed (f, tt); alike = alike-more cover line h.alike d }

cover-step :
    (m : ℕ) (pins : List Name) (x : Name) (cover : List Line) (line : Line) (t t' : Met) (r : Row) (rs : List Row) (log : List Entry) (total : ℕ) → r.fault ≡ None → words_of r ≡ cover_words (length pins) line
    → Closes m pins x (cover ++ line ∷ []) t rs log t' total → Closes m pins x cover t (r ∷ rs) log t' total
cover-step m pins x cover line t t' r rs log total sound is c =
    let more : (cover ++ line ∷ []) ++ c.lines ≡ cover ++ (line ∷ c.lines) = append_assoc cover (line ∷ []) c.lines in
    record {
      lines = line ∷ c.lines;
      front = r ∷ c.front;
      rest = c.rest;
      parts = ap (λ l. r ∷ l) c.parts;
      sound = (sound, c.sound);
      worded = ap (λ w. w ∷ map words_of c.front) is ∙ ap (λ l. cover_words (length pins) line ∷ l) c.worded;
      is = subst (IsCover (length pins)) more c.is;
      claims = c.claims;
      are = subst (λ l. Claims (names pins x l) c.claims) more c.are;
      own = c.own;
      count = c.count;
      calls = c.calls;
      later = c.later;
      left = c.left;
      then = c.then;
      entries = c.entries;
      sums = c.sums;
    }

-- ---- a statement in front

pub joined : (m : ℕ) (ns ws vs : List Name) → roomy m ns ws ≡ true → roomy m (entered ns ws) vs ≡ true → roomy m ns (ws ++ vs) ≡ true
joined m ns [] vs h k = k
joined m ns (w ∷ ws) vs h k =
    let both = and_parts (below m (position (added ns w) w)) (roomy m (added ns w) ws) h in
    and_from (below m (position (added ns w) w)) (roomy m (added ns w) (ws ++ vs)) both.0 (joined m (added ns w) ws vs both.1 k)

module _ (m : ℕ) (s : Statement) (t t' : Met) (front rest : List Row) (lines : List Words) (own later : List Entry) (count left : ℕ) (claims : List Claim) where
  join : Soundly front → map words_of front ≡ lines → Writes s lines → Sized s → Claims s claims → roomy m t.signals (mentioned s) ≡ true
      → Made (map (edit_of (after_statement s t).signals) claims) own count None → Said m (after_statement s t) rest later t' left → Said m t (front ++ rest) (own ++ later) t' (count + left)
  join sound worded writes sized are room calls h =
      let named = claims_numbered m (entered t.signals (mentioned s)) s claims sized (fits_named m t.signals (mentioned s) room) are in
      let stays : Stays (entered t.signals (mentioned s)) t'.signals = subst (Stays (entered t.signals (mentioned s))) (sym h.met) (entered_stays (entered t.signals (mentioned s)) (all_mentioned h.ss)) in
      record {
        ss = s ∷ h.ss;
        body = lines ++ h.body;
        claims = claims ++ h.claims;
        sound = all_join (λ r. r.fault ≡ None) front rest sound h.sound;
        writes = (lines, h.body, writes, h.writes, refl);
        worded =
            map-append words_of front rest ∙ ap (λ l. l ++ map words_of rest) worded ∙ ap (λ l. lines ++ l) h.worded
            ∙ sym (append_assoc lines h.body ((codes ".end" ∷ []) ∷ []));
        are = (claims, h.claims, are, h.are, refl);
        same = h.same;
        met = h.met ∙ sym (entered_more t.signals (mentioned s) (all_mentioned h.ss));
        few = joined m t.signals (mentioned s) (all_mentioned h.ss) room h.few;
        numbered =
            all_join (Numbered m t'.signals) claims h.claims
            (all_change (Numbered m (entered t.signals (mentioned s))) (Numbered m t'.signals) (numbered_keeps m (entered t.signals (mentioned s)) t'.signals stays) claims named) h.numbered;
        calls =
            subst (λ es. Made es (own ++ later) (count + left) None) (sym (map-append (edit_of t'.signals) claims h.claims))
            (made_join (map (edit_of t'.signals) claims) (map (edit_of t'.signals) h.claims) own later count left None None refl
            (subst (λ es. Made es own count None) (sym (edits_keep m (entered t.signals (mentioned s)) t'.signals stays claims named)) calls) h.calls);
      }

-- ---- a line

pub made_nothing : (es : List Edit) (all : List Entry) (sum : ℕ) (end : Option (Refusal × ℕ)) → Made es all sum end → es ≡ [] → (all ≡ []) × (sum ≡ 0) × (end ≡ None)
made_nothing es all sum end turn.all e = (refl, refl, refl)
made_nothing es all sum end (turn.accepted c rest) e = absurd (cc)
made_nothing es all sum end (turn.refused r) e = absurd (cc)

module _ (m : ℕ) (t t' : Met) (r : Row) (rs : List Row) (cs : List Claim) (own later : List Entry) (count total : ℕ) (sound : r.fault ≡ None) where
  nothing-step : (x : Saying) → Allowed m t.signals nothing (words_of r) x → ClaimsNow x cs → Made (map (edit_of (meets t x).signals) cs) own count None → Gives m (behind r.line x) (meets t x) rs later t' total
      → Begins m t (r ∷ rs) (own ++ later) t' (count + total)
  nothing-step (model x) a now made g =
      let z = made_nothing (map (edit_of t.signals) cs) own count None made (ap (map (edit_of t.signals)) now) in
      subst (λ l. Begins m t (r ∷ rs) (l ++ later) t' (count + total)) (sym z.0)
      (subst (λ k. Begins m t (r ∷ rs) later t' k) (omega (arith, z.1)) (record { name = x; top = r; rest = rs; parts = refl; sound = sound; worded = spells (words_of r) (model x) a.says; then = g }))
  nothing-step (states s) a now made g = let u = a.placing in absurd (cc)
  nothing-step finish a now made g = let u = a.placing in absurd (cc)

  module _ (made : Made (map (edit_of t.signals) cs) own count None) (empty : cs ≡ []) where
    uncounted : (log : List Entry) (k : ℕ) → log ≡ later → k ≡ total → Said m t (r ∷ rs) log t' k → Said m t (r ∷ rs) (own ++ later) t' (count + total)
    uncounted log k e f h =
        let z = made_nothing (map (edit_of t.signals) cs) own count None made (ap (map (edit_of t.signals)) empty) in
        subst (λ l. Said m t (r ∷ rs) l t' (count + total)) (e ∙ ap (λ l. l ++ later) (sym z.0)) (subst (λ j. Said m t (r ∷ rs) log t' j) (omega (arith, z.1, f)) h)

  names-step : (pins : List Name) (x : Name) (cover : List Line) → Allowed m t.signals statements (words_of r) (states (names pins x cover)) → cs ≡ []
      → Made (map (edit_of (entered t.signals (pins ++ x ∷ []))) cs) own count None → Closes m pins x [] (after_statement (names pins x []) t) rs later t' total → Said m t (r ∷ rs) (own ++ later) t' (count + total)
  names-step pins x cover a now made c =
      let z = made_nothing (map (edit_of (entered t.signals (pins ++ x ∷ []))) cs) own count None made (ap (map (edit_of (entered t.signals (pins ++ x ∷ [])))) now) in
      let sp = spells (words_of r) (states (names pins x cover)) a.says in
      let whole' : Said m t (r ∷ (c.front ++ c.rest)) (c.own ++ c.later) t' (c.count + c.left) =
      join m (names pins x c.lines) t t' (r ∷ c.front) c.rest ((codes ".names" ∷ (pins ++ x ∷ [])) ∷ map (cover_words (length pins)) c.lines) c.own c.later c.count c.left c.claims (sound, c.sound)
      (ap (λ w. w ∷ map words_of c.front) sp.2 ∙ ap (λ l. (codes ".names" ∷ (pins ++ x ∷ [])) ∷ l) c.worded) (sp.1, c.is, refl) sp.1 c.are (sym (fits_is m t.signals (pins ++ x ∷ [])) ∙ a.fitting) c.calls c.then in
      subst (λ l. Said m t (r ∷ rs) l t' (count + total)) (sym (ap (λ l. l ++ later) z.0 ∙ c.entries))
      (subst (λ k. Said m t (r ∷ rs) (c.own ++ c.later) t' k) (omega (arith, z.1, c.sums))
      (subst (λ l. Said m t (r ∷ l) (c.own ++ c.later) t' (c.count + c.left)) (sym c.parts) whole'))

  end-step : Allowed m t.signals statements (words_of r) finish → cs ≡ [] → Made (map (edit_of t.signals) cs) own count None → Gives m (at ended) t rs later t' total → Said m t (r ∷ rs) (own ++ later) t' (count + total)
  end-step a now made g =
      uncounted made now [] 0 (sym g.1) (sym g.3)
      (record {
        ss = [];
        body = [];
        claims = [];
        sound = (sound, subst Soundly (sym g.0) tt);
        writes = refl;
        worded = ap (λ w. w ∷ map words_of rs) (spells (words_of r) finish a.says) ∙ ap (λ l. (codes ".end" ∷ []) ∷ map words_of l) g.0;
        are = refl;
        same = ap (λ q. q.model) g.2;
        met = ap (λ q. q.signals) g.2;
        few = refl;
        numbered = tt;
        calls = turn.all;
      })

  statements-step : (x : Saying) → Allowed m t.signals statements (words_of r) x → ClaimsNow x cs → Made (map (edit_of (meets t x).signals) cs) own count None → Gives m (behind r.line x) (meets t x) rs later t' total
      → Said m t (r ∷ rs) (own ++ later) t' (count + total)
  statements-step (model x) a now made g = let u = a.placing in absurd (cc)
  statements-step (states (inputs xs)) a now made g =
      join m (inputs xs) t t' (r ∷ []) rs (words_of r ∷ []) own later count total cs (sound, tt) refl (ap (λ w. w ∷ []) (spells (words_of r) (states (inputs xs)) a.says)) tt now
      (sym (fits_is m t.signals xs) ∙ a.fitting) made g
  statements-step (states (outputs xs)) a now made g =
      join m (outputs xs) t t' (r ∷ []) rs (words_of r ∷ []) own later count total cs (sound, tt) refl (ap (λ w. w ∷ []) (spells (words_of r) (states (outputs xs)) a.says)) tt now
      (sym (fits_is m t.signals xs) ∙ a.fitting) made g
  statements-step (states (latch b x start)) a now made g =
      let sp = spells (words_of r) (states (latch b x start)) a.says in
      join m (latch b x start) t t' (r ∷ []) rs (words_of r ∷ []) own later count total cs (sound, tt) refl
      (sp.0, ⊎_elim (λ e. inl (ap (λ w. w ∷ []) e)) (λ e. inr (e.0, ap (λ w. w ∷ []) e.1)) sp.1) sp.0 now (sym (fits_is m t.signals (b ∷ x ∷ [])) ∙ a.fitting) made g
  statements-step (states (names pins x cover)) a now made g = names-step pins x cover a now made (g (record { formed = tt; alike = tt }))
  statements-step finish a now made g = end-step a now made g

  step : (b : Before) (x : Saying) → Allowed m t.signals b (words_of r) x → ClaimsNow x cs → Made (map (edit_of (meets t x).signals) cs) own count None → Gives m (behind r.line x) (meets t x) rs later t' total
      → Gives m (at b) t (r ∷ rs) (own ++ later) t' (count + total)
  step nothing x a now made g = nothing-step x a now made g
  step statements x a now made g = statements-step x a now made g
  step ended x a now made g = let u = a.placing in absurd (cc)

accept : (m : ℕ) (p : Point) (t t' : Met) (rows : List Row) (log : List Entry) (total : ℕ) (end : Option FileFault) → Lines m p t rows log t' total end → end ≡ None → Gives m p t rows log t' total
accept m p t t' rows log total end whole e = (refl, refl, refl, refl)
accept m p t t' rows log total end (unfinished n) e = absurd (cc)
accept m p t t' rows log total end (bad_text f k) e = absurd (cc)
accept m p t t' rows log total end (bad_form f k l) e = absurd (cc)
accept m p t t' rows log total end (refused x cs why s k l c h) e = absurd (cc)
accept m p t t' rows log total end (taken {b = b} {r = r} {rs = rs} {own = own} {later = later} {count = count} {total = left} x cs sound k now h on) e =
    step m t t' r rs cs own later count left sound b x (saying-parts m t.signals b (words_of r) x k) now h (accept m (behind r.line x) (meets t x) t' rs later left end on e)
accept m p t t' rows log total end (bad_cover_text f c k) e = absurd (cc)
accept m p t t' rows log total end (bad_cover f c k l) e = absurd (cc)
accept m p t t' rows log total end (covered {n = n} {pins = pins} {x = x} {cover = cover} {r = r} {rs = rs} line c sound k on) e =
    λ is. cover-step m pins x cover line t t' r rs log total sound (cover_spelled (length pins) (words_of r) line k.0)
    (accept m (covering n pins x (cover ++ line ∷ [])) t t' rs log total end on e (cover-more (length pins) cover line is k.1 k.2))
accept m p t t' rows log total end (gate_refused cs why s un k h) e = absurd (cc)
accept m p t t' rows log total end (gate {n = n} {pins = pins} {x = x} {cover = cover} {own = own} {later = later} {count = count} {total = left} cs un k h on) e =
    λ is. record {
      lines = [];
      front = [];
      rest = rows;
      parts = refl;
      sound = tt;
      worded = refl;
      is = subst (IsCover (length pins)) (sym (append-nil cover)) is;
      claims = cs;
      are = subst (λ l. Claims (names pins x l) cs) (sym (append-nil cover)) k;
      own = own;
      count = count;
      calls = h;
      later = later;
      left = left;
      then = accept m (at statements) t t' rows later left end on e;
      entries = refl;
      sums = refl;
    }
accept m p t t' rows log total end (short k) e = absurd (cc)

pub accepted-said : AcceptedIsSaid
accepted-said m t t' rows log total end h e =
    let g = accept m (at nothing) t t' rows log total end h e in
    let z = g.then in
    record {
      lines = map words_of rows;
      statements = z.ss;
      claims = z.claims;
      are = (subst Soundly (sym g.parts) (g.sound, z.sound), refl);
      file = record {
        body = z.body;
        writes = z.writes;
        whole = ap (map words_of) g.parts ∙ ap (λ w. w ∷ map words_of g.rest) g.worded ∙ ap (λ n. (codes ".model" ∷ n ∷ []) ∷ map words_of g.rest) (sym z.same) ∙ ap (λ l. (codes ".model" ∷ t'.model ∷ []) ∷ l) z.worded;
      };
      claimed = z.are;
      met = z.met;
      few = fits_is m t.signals (all_mentioned z.ss) ∙ z.few;
      numbered = z.numbered;
      made = z.calls;
    }
