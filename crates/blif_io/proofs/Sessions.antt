-- The calls around the rows of a read.
use Rattle.std.proofs.Common.{◌≡◌, ℕ, ◌<◌, ◌⊎◌, ⊎_elim, List, [], ◌∷◌, ◌++◌, length, Some, None, Ok, Err, Option, Result, sym, refl, ap, ◌∙◌, subst, arith}
use Rattle.std.specs.Prelude.{MatchOption}
use Rattle.words.specs.Meaning.{levels}
use Rattle.text.specs.Rules.{file_rules}
use Rattle.netlist.specs.declared.edit.Edit.{Edit}
use Rattle.netlist.specs.declared.edit.Refusal.{Refusal}
use Rattle.netlist.specs.declared.edit.Refusal.TheVariants.{NoEditor, NoBatch, BatchOpen, NoSuchSignal, OutOfRange, Driven, NotDriven, NoSuchPin, InUse, NoLevelForMark, NoMark, MarkOpen, AbsentInUse, Looped}
use Rattle.netlist.specs.Refusals.{number}
use Rattle.netlist.specs.Netlist.{Netlist, Driver, absent, driver_of}
use Rattle.netlist.specs.Netlist as net
use Rattle.board.specs.declared.kind.Kind.{Kind}
use Rattle.board.specs.declared.kind.Kind.TheVariants.{Absent}
use Rattle.board.specs.Kinds.{kind_of}
use Rattle.board.proofs.Signals.{driver_past}
use Rattle.std.proofs.lemmas.Bool.{cases_lt}
use Rattle.editor.specs.Questions.{Tells}
use Rattle.board.specs.Board.{netlist_of}
use Rattle.editor.specs.Calls.{Missing}
use Rattle.editor.specs.declared.call.Call.TheVariants.{Begin, Keep, Drop, Make}
use Rattle.editor.specs.Log.{Entry}
use Rattle.editor.specs.State.{State as EditorState}
use Rattle.editor.specs.Plain.{plain}
use Rattle.desk.specs.State.{State}
use Rattle.desk.specs.Plays.{Plays}
use Rattle.blif.specs.declared.fault.FileFault.{FileFault}
use Rattle.blif.specs.Form.{nothing}
use Rattle.blif.specs.Rows.{Row, all_rows}
use Rattle.blif.specs.Calls.{Made, all, accepted}
use Rattle.blif.specs.Calls as turn
use Rattle.blif.specs.File.{Met, Point, Lines, call, refusal, form, whole, unfinished, bad_text, bad_form, refused, taken, bad_cover_text, bad_cover, covered, gate_refused, gate, short, Due, Bars, Reads, barred, faulty, unkept, read}
use Rattle.blif.specs.File as point
use Rattle.blif.specs.Chain.{Chain}
use Rattle.blif.specs.Promises.{ReadsText, netlist_at}
use Rattle.blif_io.specs.Reader.{ReadsRows}
use Rattle.blif_io.specs.Session.{Closes}
use Rattle.blif.proofs.Turns.{serves-at}
use Rattle.blif.proofs.Giving.{Opened, opens}

-- ---- the calls of lines leave the levels

made-levels : (m : ℕ) (pos : 0 < m) (es : List Edit) (log : List Entry) (count : ℕ) (end : Option (Refusal × ℕ)) (d d' : State) → d.editor.signals ≡ m → Made es log count end → Chain d log d' → (levels d'.editor.words ≡ levels d.editor.words) × (d'.editor.signals ≡ m)
made-levels m pos es log count end d d' s all c = (ap (λ x. levels x.editor.words) c, ap (λ x. x.editor.signals) c ∙ s)
made-levels m pos es log count end d d' s (accepted {e = e} {es = es'} {log = rest} {total = total} k h) c =
    let r = serves-at m d c.0 (Make e) (Ok k) pos s c.1 in
    let more = made-levels m pos es' rest total end c.0 d' (c.1.called.signals ∙ s) h c.2 in
    (more.0 ∙ ap length r.1.0.levels, more.1)
made-levels m pos es log count end d d' s (turn.refused {e = e} why) c =
    let r = serves-at m d c.0 (Make e) (Err why) pos s c.1 in
    (ap (λ x. levels x.editor.words) c.2 ∙ ap levels r.2, ap (λ x. x.editor.signals) c.2 ∙ (c.1.called.signals ∙ s))

chain-split : (a b : List Entry) (d d' : State) → Chain d (a ++ b) d' → (mid : State) × Chain d a mid × Chain mid b d'
chain-split [] b d d' c = (d, refl, c)
chain-split (x ∷ a) b d d' c = let r = chain-split a b c.0 d' c.2 in (r.0, (c.0, c.1, r.1), r.2)

unmoved : (m : ℕ) (d d' : State) → d.editor.signals ≡ m → d' ≡ d → (levels d'.editor.words ≡ levels d.editor.words) × (d'.editor.signals ≡ m)
unmoved m d d' s c = (ap (λ x. levels x.editor.words) c, ap (λ x. x.editor.signals) c ∙ s)

lines-levels : (m : ℕ) (pos : 0 < m) (p : Point) (t t' : Met) (rows : List Row) (log : List Entry) (total : ℕ) (end : Option FileFault) (d d' : State) → d.editor.signals ≡ m → Lines m p t rows log t' total end → Chain d log d' → (levels d'.editor.words ≡ levels d.editor.words) × (d'.editor.signals ≡ m)
lines-levels m pos p t t' rows log total end d d' s whole c = unmoved m d d' s c
lines-levels m pos p t t' rows log total end d d' s (unfinished n) c = unmoved m d d' s c
lines-levels m pos p t t' rows log total end d d' s (bad_text f k) c = unmoved m d d' s c
lines-levels m pos p t t' rows log total end d d' s (bad_form f k l) c = unmoved m d d' s c
lines-levels m pos p t t' rows log total end d d' s (refused x cs why q k l n h) c = made-levels m pos _ log total _ d d' s h c
lines-levels m pos p t t' rows log total end d d' s (taken {t = t0} {r = r} {rs = rs} {own = own} {later = later} {count = count} {total = left} x cs k l n h on) c =
    let split = chain-split own later d d' c in
    let front = made-levels m pos _ own count _ d split.0 s h split.1 in
    let on' = lines-levels m pos _ _ t' rs later left end split.0 d' front.1 on split.2 in
    (on'.0 ∙ front.0, on'.1)
lines-levels m pos p t t' rows log total end d d' s (bad_cover_text f k l) c = unmoved m d d' s c
lines-levels m pos p t t' rows log total end d d' s (bad_cover f k l n) c = unmoved m d d' s c
lines-levels m pos p t t' rows log total end d d' s (covered {rs = rs} line k l n on) c = lines-levels m pos _ t t' rs log total end d d' s on c
lines-levels m pos p t t' rows log total end d d' s (gate_refused cs why q un k h) c = made-levels m pos _ log total _ d d' s h c
lines-levels m pos p t t' rows log total end d d' s (gate {own = own} {later = later} {count = count} {total = left} cs un k h on) c =
    let split = chain-split own later d d' c in
    let front = made-levels m pos _ own count _ d split.0 s h split.1 in
    let on' = lines-levels m pos _ t t' rows later left end split.0 d' front.1 on split.2 in
    (on'.0 ∙ front.0, on'.1)
lines-levels m pos p t t' rows log total end d d' s (short k) c = unmoved m d d' s c

-- ---- closing calls

pub drops : (d d' : State) (r : Result (Unit {0}) Refusal) → Plays d Drop d' (plain r) → 0 < d.editor.signals → 0 < levels d.editor.words → Plays d Drop d' (Ok 0)
drops d d' (Ok x) p pos open' = p
drops d d' (Err r) p pos open' = let no' = serves-at d.editor.signals d d' Drop (Err r) pos refl p in absurd (let z = no'.0.1 in omega arith)

is_absent : (r : Refusal) → number r ≡ 24 → r ≡ AbsentInUse
is_absent NoEditor e = absurd (omega arith)
is_absent NoBatch e = absurd (omega arith)
is_absent BatchOpen e = absurd (omega arith)
is_absent NoSuchSignal e = absurd (omega arith)
is_absent OutOfRange e = absurd (omega arith)
is_absent Driven e = absurd (omega arith)
is_absent NotDriven e = absurd (omega arith)
is_absent NoSuchPin e = absurd (omega arith)
is_absent InUse e = absurd (omega arith)
is_absent NoLevelForMark e = absurd (omega arith)
is_absent NoMark e = absurd (omega arith)
is_absent MarkOpen e = absurd (omega arith)
is_absent AbsentInUse e = refl
is_absent Looped e = absurd (omega arith)

abbrev Least : ℕ → Netlist → Option ℕ → Type 0
Least m n o = MatchOption o ((s : ℕ) → Missing m n s → ⊥) (λ s. Missing m n s × ((a : ℕ) → a < s → Missing m n a → ⊥))

-- what the question for the smallest absent signal in use tells of an editor
abbrev pub Told : EditorState → Option ℕ → Type 0
Told e o = Least e.signals (netlist_of e.signals e.words.image) o

pub keeps : (d d' : State) → Plays d Keep d' (Ok 0) → Closes d d' (Ok tt)
keeps d d' p = (d', p, refl)

pub keep-fails : (d d1 d2 : State) (why : Refusal) (o : Option ℕ) → 0 < d.editor.signals → levels d.editor.words ≡ 1 → Plays d Keep d1 (Err why) → (0 < d1.editor.signals → 0 < levels d1.editor.words → Plays d1 Drop d2 (Ok 0)) → Least d.editor.signals (netlist_of d.editor.signals d.editor.words.image) o
    → Closes d d2 (Err (refusal why 0 o))
keep-fails d d1 d2 why o pos one p drop' least =
    let no' = serves-at d.editor.signals d d1 Keep (Err why) pos refl p in
    ⊎_elim (λ a. absurd (let z = a.1 in omega arith))
    (λ b. ⊎_elim (λ a. absurd (let z = a.1 in omega arith))
    (λ a.
    let is = is_absent why a.0 in
    let dropped' = drop' (subst (λ k. 0 < k) (sym p.called.signals) pos) (subst (λ k. 0 < levels k) (sym no'.2) (omega arith)) in
    subst (λ w. Closes d d2 (Err (refusal w 0 o))) (sym is) (by o least (subst (λ w. Plays d Keep d1 (Err w)) is p) dropped' a.1)) b)
    no'.0
  where
    by : (o : Option ℕ) → Least d.editor.signals (netlist_of d.editor.signals d.editor.words.image) o → Plays d Keep d1 (Err AbsentInUse) → Plays d1 Drop d2 (Ok 0) → ((s : ℕ) × Missing d.editor.signals (netlist_of d.editor.signals d.editor.words.image) s) → Closes d d2 (Err (refusal AbsentInUse 0 o))
    by None l p q some = absurd (l some.0 some.1)
    by (Some s) l p q some = (s, l.0, l.1, (d1, p, (d2, q, refl)), refl)

-- ---- a read

pub begins : (d d' : State) (r : Result (Unit {0}) Refusal) → Plays d Begin d' (plain r) → 0 < d.editor.signals → levels d.editor.words ≡ 0 → Plays d Begin d' (Ok 0)
begins d d' (Ok x) p pos closed = p
begins d d' (Err r) p pos closed = let no' = serves-at d.editor.signals d d' Begin (Err r) pos refl p in absurd (let z = no'.0.1 in omega arith)

module _ (limit : ℕ) (text : List ℕ) (d : State) (t : Met) where
  pub not_begun : (f : FileFault) → Bars d.editor.signals (levels d.editor.words) limit (netlist_at d) text f → ReadsText limit text d t d t (Err f)
  not_begun f h = ([], [], d, refl, refl, barred f h)

  module _ (due : Due d.editor.signals (levels d.editor.words) limit (netlist_at d) text) (d1 d2 d3 : State) (t' : Met) (begin : Plays d Begin d1 (Ok 0)) where
    opened : Opened d d1
    opened = opens d d1 due.some begin

    pos1 : 0 < d1.editor.signals
    pos1 = subst (λ k. 0 < k) (sym begin.called.signals) due.some

    behind-lines : (own : List Entry) (total : ℕ) (end : Option FileFault) → Chain d1 own d2 → Lines d1.editor.signals (point.at nothing) t (all_rows file_rules text) own t' total end
        → (levels d2.editor.words ≡ 1) × (d2.editor.signals ≡ d.editor.signals)
    behind-lines own total end c lines =
        let l = lines-levels d1.editor.signals pos1 (point.at nothing) t t' (all_rows file_rules text) own total end d1 d2 refl lines c in
        (l.0 ∙ opened.one, l.1 ∙ begin.called.signals)

    some-behind : d2.editor.signals ≡ d.editor.signals → 0 < d2.editor.signals
    some-behind e = subst (λ k. 0 < k) (sym e) due.some

    pub has-failed : (f : FileFault) → ReadsRows d1 t (all_rows file_rules text) d2 t' (Err f) → (0 < d2.editor.signals → 0 < levels d2.editor.words → Plays d2 Drop d3 (Ok 0)) → ReadsText limit text d t d3 t' (Err f)
    has-failed f r drop' =
        let l = behind-lines r.0 r.2.0 (Some f) r.1 r.2.1 in
        let open2 : 0 < levels d2.editor.words = let e = l.0 in omega arith in (
          call Begin (Ok 0) ∷ r.0,
          call Drop (Ok 0) ∷ [],
          d2,
          (d1, begin, r.1),
          (d3, drop' (some-behind l.1) open2, refl),
          faulty r.2.0 f due (subst (λ k. Lines k (point.at nothing) t (all_rows file_rules text) r.0 t' r.2.0 (Some f)) begin.called.signals r.2.1),
        )

    lines-of : (total : ℕ) → (r : ReadsRows d1 t (all_rows file_rules text) d2 t' (Ok total)) → Lines d.editor.signals (point.at nothing) t (all_rows file_rules text) r.0 t' total None
    lines-of total r = subst (λ k. Lines k (point.at nothing) t (all_rows file_rules text) r.0 t' total None) begin.called.signals r.2

    pub closes-well : (total : ℕ) (x : Unit {0}) → ReadsRows d1 t (all_rows file_rules text) d2 t' (Ok total) → (0 < d2.editor.signals → levels d2.editor.words ≡ 1 → Closes d2 d3 (Ok x)) → ReadsText limit text d t d3 t' (Ok total)
    closes-well total x r keep =
        let l = behind-lines r.0 total None r.1 r.2 in
        (call Begin (Ok 0) ∷ r.0, call Keep (Ok 0) ∷ [], d2, (d1, begin, r.1), keep (some-behind l.1) l.0, read due (lines-of total r))

    pub closes-badly : (total : ℕ) (f : FileFault) → ReadsRows d1 t (all_rows file_rules text) d2 t' (Ok total) → (0 < d2.editor.signals → levels d2.editor.words ≡ 1 → Closes d2 d3 (Err f)) → ReadsText limit text d t d3 t' (Err f)
    closes-badly total f r keep =
        let l = behind-lines r.0 total None r.1 r.2 in
        let k = keep (some-behind l.1) l.0 in
        subst (λ g. ReadsText limit text d t d3 t' (Err g)) (sym k.4) (
          call Begin (Ok 0) ∷ r.0,
          call Keep (Err AbsentInUse) ∷ call Drop (Ok 0) ∷ [],
          d2,
          (d1, begin, r.1),
          k.3,
          unkept total k.0 due (lines-of total r) (subst (λ j. Missing j (netlist_of j d2.editor.words.image) k.0) l.1 k.1)
              (subst (λ j. (a : ℕ) → a < k.0 → Missing j (netlist_of j d2.editor.words.image) a → ⊥) l.1 k.2),
        )

-- ---- kinds

driver_none : (d : Driver) → kind_of d ≡ Absent → d ≡ absent
driver_none absent e = refl
driver_none net.input e = absurd (cc)
driver_none (net.gate table pins) e = absurd (cc)
driver_none (net.latch start pin) e = absurd (cc)

pub absent_told : (m s : ℕ) (n : Netlist) (o : Option Kind) → s < m → Tells m s (λ k. k ≡ kind_of (driver_of n s)) o → (o ≡ Some Absent) ⊎ (o ≡ None) → driver_of n s ≡ absent
absent_told m s n None lt h e = absurd (omega arith)
absent_told m s n (Some k) lt h e = ⊎_elim (λ x. let y : k ≡ Absent = cc in driver_none (driver_of n s) (sym h.1 ∙ y)) (λ x. absurd (cc)) e

pub all_absent : (m : ℕ) (ws : List ℕ) → ((s : ℕ) → s < m → driver_of (netlist_of m ws) s ≡ absent) → (s : ℕ) → driver_of (netlist_of m ws) s ≡ absent
all_absent m ws h s = ⊎_elim (λ lt. h s lt) (λ le. driver_past m ws s le) (cases_lt s m)

pub some_driven : (m s : ℕ) (n : Netlist) (k : Kind) → Tells m s (λ k. k ≡ kind_of (driver_of n s)) (Some k) → (k ≡ Absent → ⊥) → driver_of n s ≡ absent → ⊥
some_driven m s n k h ne z = ne (h.1 ∙ ap kind_of z)
