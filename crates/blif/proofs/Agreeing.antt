-- A text that describes a netlist is read as that netlist.
use Rattle.std.proofs.Common.{◌≡◌, ℕ, ◌<◌, true, false, ◌⊎◌, List, [], ◌∷◌, ◌++◌, map, length, codes, Some, None, Ok, Err, Option, Result, sym, refl, ap, ◌∙◌, subst, inl, inr, ⊎_elim, arith}
use Rattle.std.specs.List.{AllByRecursion}
use Rattle.std.proofs.lemmas.Bool.{cases_lt}
use Rattle.reach.specs.Reach.{Among}
use Rattle.names.specs.Names.{position, Apart, entered}
use Rattle.names.proofs.Entering.{roomy, fits_is}
use Rattle.netlist.specs.declared.edit.Refusal.{Refusal}
use Rattle.netlist.specs.Netlist.{Netlist, Driver, driver_of, output_of, pins_of, Used, empty_netlist}
use Rattle.netlist.specs.Netlist as net
use Rattle.words.specs.Meaning.{levels}
use Rattle.board.specs.Board.{board_of, netlist_of, order_of}
use Rattle.editor.specs.declared.call.Call.TheVariants.{Begin, Keep}
use Rattle.editor.specs.Log.{Entry}
use Rattle.editor.specs.Calls.{Missing}
use Rattle.desk.specs.State.{State}
use Rattle.desk.specs.Plays.{Plays}
use Rattle.text.specs.Rules.{file_rules}
use Rattle.blif.specs.declared.fault.FileFault.{FileFault}
use Rattle.blif.specs.declared.fault.FileFault.TheVariants as file_fault
use Rattle.blif.specs.Statement.{Name, all_mentioned}
use Rattle.blif.specs.Form.{nothing}
use Rattle.blif.specs.Rows.{all_rows}
use Rattle.blif.specs.Chain.{Chain}
use Rattle.blif.specs.Description.{Source, input, gate, latched, Claim, name_of, source_of, seen_at, seen, Describes, SameByName}
use Rattle.blif.specs.Calls.{edit_of, InTurn, Made}
use Rattle.blif.specs.Building.{Numbered}
use Rattle.blif.specs.File.{Met, Lines, Due, Bars, Reads, no_editor, batch_open, too_long, occupied, barred, faulty, unkept, read}
use Rattle.blif.specs.File as point
use Rattle.blif.specs.Reading.{Says, Stated}
use Rattle.blif.specs.Promises.{AcceptsDescribed, netlist_at}
use Rattle.blif.specs.Outcome.{Ready, ReadsAccept}
use Rattle.blif.proofs.Describing.{describes-one}
use Rattle.blif.proofs.Accepting.{accepts-stated}
use Rattle.blif.proofs.Numbering.{entered_apart}
use Rattle.blif.proofs.Accepted.{accepted-said}
use Rattle.blif.proofs.Turns.{serves-at, turns, stuck}
use Rattle.blif.proofs.Giving.{described, kept, among_all, Opened, opens, empty_board_of}
use Rattle.blif.proofs.Flowing.{file_ends, all_numbered}

-- ---- nothing is missing

paired : (f g : ℕ → Name) (s : ℕ) (xs ys : List ℕ) → map f ys ≡ map g xs → Among s xs → (a : ℕ) × Among a ys × (f a ≡ g s)
paired f g s [] ys e i = absurd i
paired f g s (x ∷ xs) [] e i = absurd (cc)
paired f g s (x ∷ xs) (y ∷ ys) e i =
    let here : f y ≡ g x = cc in
    let rest : map f ys ≡ map g xs = cc in
    ⊎_elim (λ z. (y, inl refl, here ∙ ap g (sym z))) (λ z. let r = paired f g s xs ys rest z in (r.0, inr r.1, r.2)) i

abbrev pins_of_source : Option Source → List Name
pins_of_source None = []
pins_of_source (Some input) = []
pins_of_source (Some (gate table pins)) = pins
pins_of_source (Some (latched start a)) = a ∷ []

named-pins : (ns : List Name) (d : Driver) → map (name_of ns) (pins_of d) ≡ pins_of_source (source_of ns d)
named-pins ns net.absent = refl
named-pins ns net.input = refl
named-pins ns (net.gate table pins) = refl
named-pins ns (net.latch start pin) = refl

source-some : (ns : List Name) (d : Driver) → (d ≡ net.absent → ⊥) → (x : Source) × (source_of ns d ≡ Some x)
source-some ns net.absent h = absurd (h refl)
source-some ns net.input h = (input, refl)
source-some ns (net.gate table pins) h = (gate table (map (name_of ns) pins), refl)
source-some ns (net.latch start pin) h = (latched start (name_of ns pin), refl)

module _ (ns names : List Name) (cs : List Claim) (n n' : Netlist) (apart : Apart ns) (s : Stated names cs n) (h : Describes cs (seen ns n')) where
  -- what is driven under a name in the one is driven in the other
  driven_too : (q : Name) (u k : ℕ) → position names q ≡ Some u → (driver_of n u ≡ net.absent → ⊥) → position ns q ≡ Some k → driver_of n' k ≡ net.absent → ⊥
  driven_too q u k at driven here gone =
      let src = source-some names (driver_of n u) driven in
      let claim = (s.describes.sources q src.0).0 (ap (λ o. (seen_at names n o).source) at ∙ src.1) in
      let there = (h.sources q src.0).1 claim in
      let e : None ≡ Some src.0 = sym (ap (λ o. (seen_at ns n' o).source) here ∙ ap (source_of ns) gone) ∙ there in cc

  named-at : (u : ℕ) → (driver_of n u ≡ net.absent → ⊥) → position names (name_of names u) ≡ Some u
  named-at u driven = ⊎_elim (λ lt. s.apart u lt) (λ le. absurd (driven (s.nameless u le).0)) (cases_lt u (length names))

  no_output : (k : ℕ) → k < length ns → output_of n' k ≡ true → driver_of n' k ≡ net.absent → ⊥
  no_output k lt out gone = by (position names (name_of ns k)) refl ((s.describes.outputs (name_of ns k)).1 ((h.outputs (name_of ns k)).0 (ap (λ o. (seen_at ns n' o).output) (apart k lt) ∙ out)))
    where
      by : (o : Option ℕ) → position names (name_of ns k) ≡ o → (seen names n (name_of ns k)).output ≡ true → ⊥
      by None at e = let f : false ≡ true = sym (ap (λ o. (seen_at names n o).output) at) ∙ e in cc
      by (Some u) at e =
          driven_too (name_of ns k) u k at (λ z. (s.whole u z).0 (sym (ap (λ o. (seen_at names n o).output) at) ∙ e)) (apart k lt) gone

  no_pin : (k t : ℕ) → k < length ns → t < length ns → Among k (pins_of (driver_of n' t)) → driver_of n' k ≡ net.absent → ⊥
  no_pin k t lt lt' i gone =
      let src = source-some ns (driver_of n' t) (λ z. subst (λ d. Among k (pins_of d)) z i) in
      let q = name_of ns t in
      let claim = (h.sources q src.0).0 (ap (λ o. (seen_at ns n' o).source) (apart t lt') ∙ src.1) in
      by src.0 src.1 (position names q) refl ((s.describes.sources q src.0).1 claim)
    where
      by : (d : Source) → source_of ns (driver_of n' t) ≡ Some d → (o : Option ℕ) → position names (name_of ns t) ≡ o → (seen names n (name_of ns t)).source ≡ Some d → ⊥
      by d is None at e = let f : None ≡ Some d = sym (ap (λ o. (seen_at names n o).source) at) ∙ e in cc
      by d is (Some u) at e =
          let there : source_of names (driver_of n u) ≡ Some d = sym (ap (λ o. (seen_at names n o).source) at) ∙ e in
          let pins : map (name_of names) (pins_of (driver_of n u)) ≡ map (name_of ns) (pins_of (driver_of n' t)) =
          named-pins names (driver_of n u) ∙ ap pins_of_source (there ∙ sym is) ∙ sym (named-pins ns (driver_of n' t)) in
          let p = paired (name_of names) (name_of ns) k (pins_of (driver_of n' t)) (pins_of (driver_of n u)) pins i in
          let driven : driver_of n p.0 ≡ net.absent → ⊥ = λ z. (s.whole p.0 z).1 (u, p.1) in
          driven_too (name_of ns k) p.0 k (ap (position names) (sym p.2) ∙ named-at p.0 driven) driven (apart k lt) gone

  pub none_missing : (m : ℕ) → ((t : ℕ) → ((driver_of n' t ≡ net.absent) ⊎ (((t < m) × (t < length ns)) × AllByRecursion (λ a. (a < m) × (a < length ns)) (pins_of (driver_of n' t)))) × ((output_of n' t ≡ false) ⊎ ((t < m) × (t < length ns))))
      → (k : ℕ) → Missing m n' k → ⊥
  none_missing m kept' k miss =
      ⊎_elim
      (λ used.
      ⊎_elim (λ z. subst (λ d. Among k (pins_of d)) z used.1)
      (λ z. no_pin k used.0 (among_all (λ a. (a < m) × (a < length ns)) k (pins_of (driver_of n' used.0)) z.1 used.1).1 z.0.1 used.1 miss.gone)
      (kept' used.0).0)
      (λ out. ⊎_elim (λ f. let e : true ≡ false = sym out ∙ f in cc) (λ z. no_output k z.1 out miss.gone) (kept' k).1)
      miss.wanted

-- ---- the lines of a read

module _ (text : List ℕ) (d mid last : State) (t t' after : Met) (cs : List Claim) (names : List Name) (n : Netlist) (ready : Ready d t) (limit : ℕ) (due : Due d.editor.signals (levels d.editor.words) limit (netlist_at d) text)
    (says : Says d.editor.signals text t after cs) (s : Stated names cs n) (begin : Plays d Begin mid (Ok 0)) (own : List Entry) (c : Chain mid own last) where
  abbrev ns : List Name
  ns = entered t.signals (all_mentioned says.statements)

  room : roomy d.editor.signals t.signals (all_mentioned says.statements) ≡ true
  room = sym (fits_is d.editor.signals t.signals (all_mentioned says.statements)) ∙ says.few

  num : AllByRecursion (Numbered d.editor.signals ns) cs
  num = all_numbered d.editor.signals says.statements t.signals says.file.body cs says.file.writes says.claims room

  apart : Apart ns
  apart = entered_apart t.signals (all_mentioned says.statements) ready.apart

  opened : Opened d mid
  opened = opens d mid due.some begin

  start : board_of d.editor.signals mid.editor.words.image ≡ record { netlist = empty_netlist d.editor.signals; order = order_of d.editor.signals d.editor.words.image }
  start = ap (board_of d.editor.signals) opened.image ∙ ap (λ x. record { netlist = x; order = order_of d.editor.signals d.editor.words.image }) (empty_board_of d.editor.signals d.editor.words.image (ready.order.whole opened.none) due.empty)

  not_refused : (count : ℕ) (w : Refusal × ℕ) → Made (map (edit_of ns) cs) own count (Some w) → ⊥
  not_refused count w made =
      let k = stuck d.editor.signals due.some ns cs (map (edit_of ns) cs) own count (Some w) w mid last opened.signals opened.one made refl refl c in
      accepts-stated d.editor.signals ns (order_of d.editor.signals d.editor.words.image) cs k.done k.rest k.claim names n k.then k.count k.why apart num says.once s k.parts
      (subst (λ b. InTurn d.editor.signals (map (edit_of ns) k.done) b k.then k.count) start k.made) k.applies

  pub record Through (end : Option FileFault) : Type 0 where
    pub ends : end ≡ None
    pub names' : t'.signals ≡ ns
    pub describes : Describes cs (seen ns (netlist_of d.editor.signals last.editor.words.image))
    pub complete : (k : ℕ) → Missing d.editor.signals (netlist_of d.editor.signals last.editor.words.image) k → ⊥
    pub signals : last.editor.signals ≡ d.editor.signals

  pub ran : (total : ℕ) (end : Option FileFault) → Lines d.editor.signals (point.at nothing) t (all_rows file_rules text) own t' total end → (end ≡ Some file_fault.Memory) ⊎ Through end
  ran total end lines =
      ⊎_elim (λ x. inl x)
      (λ y.
      ⊎_elim (λ no'. absurd (not_refused no'.0 no'.1 no'.2))
      (λ z.
      let went = turns d.editor.signals due.some (map (edit_of ns) cs) own z.2.0 None mid last opened.signals opened.one z.2.1 refl c in
      let turn : InTurn d.editor.signals (map (edit_of ns) cs) (record { netlist = empty_netlist d.editor.signals; order = order_of d.editor.signals d.editor.words.image }) (board_of d.editor.signals last.editor.words.image) z.2.0 =
      subst (λ b. InTurn d.editor.signals (map (edit_of ns) cs) b (board_of d.editor.signals last.editor.words.image) z.2.0) start went.0 in
      let is = described d.editor.signals ns cs (order_of d.editor.signals d.editor.words.image) (board_of d.editor.signals last.editor.words.image) z.2.0 num turn in
      inr (record {
        ends = z.0;
        names' = z.1;
        describes = is;
        complete =
            none_missing ns names cs n (netlist_of d.editor.signals last.editor.words.image) apart s is d.editor.signals
            (kept d.editor.signals ns cs (order_of d.editor.signals d.editor.words.image) (board_of d.editor.signals last.editor.words.image) z.2.0 num turn);
        signals = went.1;
      }))
      y)
      (file_ends d.editor.signals after.model says.statements t t' says.lines cs end says.claims room (all_rows file_rules text) own total says.rows says.file lines)

-- ---- a read

not-barred : (m open' limit : ℕ) (n' : Netlist) (text : List ℕ) (f : FileFault) → Due m open' limit n' text → Bars m open' limit n' text f → ⊥
not-barred m open' limit n' text f due (no_editor z) = let s = due.some in omega arith
not-barred m open' limit n' text f due (batch_open s o) = let z = due.closed in omega arith
not-barred m open' limit n' text f due (too_long s z lt) = let w = due.within in omega arith
not-barred m open' limit n' text f due (occupied k s z w driven) = driven (due.empty k)

accepts-by : (limit : ℕ) (text : List ℕ) (d d' : State) (t t' : Met) (r : Result ℕ FileFault) (opening closing : List Entry) (last : State) → Ready d t → Chain d opening last → Chain last closing d'
    → Reads d.editor.signals (levels d.editor.words) limit (netlist_at d) text t (netlist_of d.editor.signals last.editor.words.image) opening closing t' r → AcceptsDescribed limit text d t d' t' r
accepts-by limit text d d' t t' r opening closing last ready c c' (barred f h) after cs names n due says s =
    absurd (not-barred d.editor.signals (levels d.editor.words) limit (netlist_at d) text f due h)
accepts-by limit text d d' t t' r opening closing last ready c c' (faulty {own = own} total f due' lines) after cs names n due says s =
    ⊎_elim (λ x. let e : f ≡ file_fault.Memory = cc in inl (ap Err e)) (λ x. let e : Some f ≡ None = x.ends in absurd (cc))
    (ran text d c.0 last t t' after cs names n ready limit due says s c.1 own c.2 total (Some f) lines)
accepts-by limit text d d' t t' r opening closing last ready c c' (unkept {own = own} total k due' lines missing least) after cs names n due says s =
    ⊎_elim (λ x. absurd (cc)) (λ x. absurd (x.complete k missing)) (ran text d c.0 last t t' after cs names n ready limit due says s c.1 own c.2 total None lines)
accepts-by limit text d d' t t' r opening closing last ready c c' (read {own = own} {total = total} due' lines) after cs names n due says s =
    ⊎_elim (λ x. absurd (cc))
    (λ x.
    let said = accepted-said d.editor.signals t t' (all_rows file_rules text) own total None lines refl in
    let tops : (codes ".model" ∷ t'.model ∷ []) ∷ (said.file.body ++ (codes ".end" ∷ []) ∷ []) ≡ (codes ".model" ∷ after.model ∷ []) ∷ (says.file.body ++ (codes ".end" ∷ []) ∷ []) =
    sym said.file.whole ∙ sym said.are.1 ∙ says.rows.1 ∙ says.file.whole in
    let named : t'.model ≡ after.model = cc in
    let keep = serves-at d.editor.signals last c'.0 Keep (Ok 0) due.some x.signals c'.1 in
    let image : d'.editor.words.image ≡ last.editor.words.image = ap (λ y. y.editor.words.image) c'.2 ∙ ap (λ a. a.image) keep.1.0 in
    inr (
      refl,
      ap (λ o. record { model = o; signals = t'.signals }) named ∙ ap (λ l. record { model = after.model; signals = l }) (x.names' ∙ sym says.met),
      subst (λ l. SameByName names n l (netlist_of d.editor.signals d'.editor.words.image)) (sym x.names')
          (subst (λ ws. SameByName names n (entered t.signals (all_mentioned says.statements)) (netlist_of d.editor.signals ws)) (sym image)
          (describes-one cs names (entered t.signals (all_mentioned says.statements)) n (netlist_of d.editor.signals last.editor.words.image) s.describes x.describes)),
    ))
    (ran text d c.0 last t t' after cs names n ready limit due says s c.1 own c.2 total None lines)

pub reads_accept : ReadsAccept
reads_accept limit text d d' t t' r ready h = accepts-by limit text d d' t t' r h.0 h.1 h.2 ready h.3 h.4 h.5
