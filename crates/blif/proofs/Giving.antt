-- What an accepted read gives.
use Rattle.std.proofs.Common.{◌≡◌, ℕ, suc, ◌<◌, true, false, ◌⊎◌, List, [], ◌∷◌, map, length, None, Ok, Result, sym, refl, ap, ◌∙◌, subst, inl, inr, ⊎_elim, arith}
use Rattle.std.specs.List.{AllByRecursion}
use Rattle.std.proofs.lemmas.Bool.{cases_lt, cases_Bool}
use Rattle.std.proofs.lemmas.List.{length-replicate}
use Rattle.words.specs.Meaning.{levels}
use Rattle.reach.specs.Reach.{Among}
use Rattle.names.specs.Names.{Apart}
use Rattle.names.proofs.Places.{position_within}
use Rattle.netlist.specs.Netlist.{Netlist, Driver, unused, driver_of, output_of, pins_of, Used, Whole, Loop, empty_netlist}
use Rattle.netlist.specs.Netlist as net
use Rattle.netlist.specs.Places.{Order, Ordered}
use Rattle.netlist.specs.Edits.{Board}
use Rattle.netlist.proofs.Loops.{order-excludes-loops}
use Rattle.board.specs.Board.{board_of, netlist_of, order_of}
use Rattle.board.proofs.Listing.{length-listing}
use Rattle.editor.specs.declared.call.Call.TheVariants.{Begin, Keep}
use Rattle.editor.specs.Log.{Entry}
use Rattle.editor.specs.Calls.{Missing}
use Rattle.desk.specs.State.{State}
use Rattle.desk.specs.Plays.{Plays}
use Rattle.text.specs.Rules.{file_rules}
use Rattle.blif.specs.declared.fault.FileFault.{FileFault}
use Rattle.blif.specs.Statement.{Name, all_mentioned}
use Rattle.blif.specs.Rows.{all_rows}
use Rattle.blif.specs.Chain.{Chain}
use Rattle.blif.specs.Description.{Claim, driven, Once, seen, Describes}
use Rattle.blif.specs.Calls.{number_of, edit_of, InTurn}
use Rattle.blif.specs.Building.{Named, Numbered}
use Rattle.blif.specs.File.{Met, Due, Reads, barred, faulty, unkept, read}
use Rattle.blif.specs.Reading.{Stated, Gives}
use Rattle.blif.specs.Promises.{GivesDescribed, netlist_at}
use Rattle.blif.specs.Accepted.{FileSaid}
use Rattle.blif.specs.Outcome.{Ready, ReadsGive}
use Rattle.blif.proofs.Building.{numbered, all_unused, nothing_described, builds-described}
use Rattle.blif.proofs.Numbering.{entered_apart}
use Rattle.blif.proofs.Accepted.{accepted-said}
use Rattle.blif.proofs.Turns.{serves-at, turns, kept_built, once_built, all_empty}

pub among_all : (K : ℕ → Type 0) (s : ℕ) (xs : List ℕ) → AllByRecursion K xs → Among s xs → K s
among_all K s [] h i = absurd i
among_all K s (x ∷ xs) h i = ⊎_elim (λ e. subst K (sym e) h.0) (λ t. among_all K s xs h.1 t) i

-- ---- a board that edits made on the empty netlist

module _ (m : ℕ) (ns : List Name) (cs : List Claim) (o : Order) (b : Board) (count : ℕ) (num : AllByRecursion (Numbered m ns) cs) (turn : InTurn m (map (edit_of ns) cs) (record { netlist = empty_netlist m; order = o }) b count) where
  abbrev K : ℕ → Type 0
  K s = (s < m) × (s < length ns)

  known : (x : Name) → Named m ns x → K (number_of ns x)
  known x k = subst K (sym (numbered m ns x k)) (k.2, position_within ns x k.0 k.1)

  pub kept : (t : ℕ) → ((driver_of b.netlist t ≡ net.absent) ⊎ (((t < m) × (t < length ns)) × AllByRecursion (λ s. (s < m) × (s < length ns)) (pins_of (driver_of b.netlist t)))) × ((output_of b.netlist t ≡ false) ⊎ ((t < m) × (t < length ns)))
  kept = (kept_built K m ns known cs (record { netlist = empty_netlist m; order = o }) b count (length-replicate m unused) num _ refl turn (λ t. (inl (ap (λ g. g.driver) (all_unused m t)), inl (ap (λ g. g.output) (all_unused m t))))).0

  pub described : Describes cs (seen ns b.netlist)
  described = builds-described m ns o cs b count num turn

  pub driven_once : Once (driven cs)
  driven_once = once_built m ns [] cs (record { netlist = empty_netlist m; order = o }) b count (length-replicate m unused) num _ refl turn (nothing_described m ns) tt

  pub made_whole : ((s : ℕ) → Missing m b.netlist s → ⊥) → Whole b.netlist
  made_whole missing s gone = (
    λ e. ⊎_elim (λ f. let z : true ≡ false = sym e ∙ f in absurd (cc)) (λ k. missing s (record { signal = k.0; gone = gone; wanted = inr e })) (kept s).1,
    λ u.
        ⊎_elim (λ z. absurd (subst (λ d. Among s (pins_of d)) z u.1))
        (λ z. missing s (record { signal = (among_all K s (pins_of (driver_of b.netlist u.0)) z.1 u.1).0; gone = gone; wanted = inl u }))
        (kept u.0).0,
  )

  pub stated : Apart ns → ((s : ℕ) → Missing m b.netlist s → ⊥) → ((xs : List ℕ) → Loop b.netlist xs → ⊥) → Stated ns cs b.netlist
  stated apart missing unlooped = record {
    apart = apart;
    describes = described;
    nameless = λ s le. (⊎_elim (λ z. z) (λ z. let l = z.0.1 in absurd (omega arith)) (kept s).0, ⊎_elim (λ z. z) (λ z. let l = z.1 in absurd (omega arith)) (kept s).1);
    whole = made_whole missing;
    unlooped = unlooped;
  }

pub not_true : (x : Netlist) (s : ℕ) → (output_of x s ≡ true → ⊥) → output_of x s ≡ false
not_true x s h = ⊎_elim (λ t. absurd (h t)) (λ f. f) (cases_Bool (output_of x s))

pub none_open : (l : ℕ) → (0 < l → ⊥) → l ≡ 0
none_open l h = ⊎_elim (λ lt. absurd (h lt)) (λ le. omega arith) (cases_lt 0 l)

-- an editor without a batch whose signals are all absent
pub empty_board_of : (m : ℕ) (ws : List ℕ) → Whole (netlist_of m ws) → ((s : ℕ) → driver_of (netlist_of m ws) s ≡ net.absent) → netlist_of m ws ≡ empty_netlist m
empty_board_of m ws whole gone =
    all_empty (netlist_of m ws) gone (λ s. not_true (netlist_of m ws) s ((whole s (gone s)).0)) ∙ ap empty_netlist (length-listing _ 0 m)

-- ---- the batch of a read

pub record Opened (d mid : State) : Type 0 where
  pub none : levels d.editor.words ≡ 0
  pub one : levels mid.editor.words ≡ 1
  pub signals : mid.editor.signals ≡ d.editor.signals
  pub image : mid.editor.words.image ≡ d.editor.words.image

pub opens : (d mid : State) → 0 < d.editor.signals → Plays d Begin mid (Ok 0) → Opened d mid
opens d mid pos p =
    let r = serves-at d.editor.signals d mid Begin (Ok 0) pos refl p in
    let zero' = none_open (levels d.editor.words) (λ z. r.0 11 (refl, z)) in
    record { none = zero'; one = ap levels r.1.0 ∙ ap suc zero'; signals = p.called.signals; image = ap (λ a. a.image) r.1.0 }

gives-read : (limit : ℕ) (text : List ℕ) (d d' : State) (t t' : Met) (total : ℕ) (own : List Entry) (mid last end : State) → Ready d t → Due d.editor.signals (levels d.editor.words) limit (netlist_at d) text
    → Plays d Begin mid (Ok 0) → Chain mid own last → Plays last Keep end (Ok 0) → d' ≡ end → FileSaid d.editor.signals t t' (all_rows file_rules text) own total
    → Gives d.editor.signals text t t' (order_of d.editor.signals d.editor.words.image) (board_of d.editor.signals d'.editor.words.image) total
gives-read limit text d d' t t' total own mid last end ready due begin c keep same said =
    let m = d.editor.signals in
    let o = order_of m d.editor.words.image in
    let open' = opens d mid due.some begin in
    let ran = turns m due.some (map (edit_of t'.signals) said.claims) own total None mid last open'.signals open'.one said.made refl c in
    let kept' = serves-at m last end Keep (Ok 0) due.some ran.1 keep in
    let empty = empty_board_of m d.editor.words.image (ready.order.whole open'.none) due.empty in
    let kept-image : end.editor.words.image ≡ last.editor.words.image = ap (λ a. a.image) kept'.1.0 in
    let image : d'.editor.words.image ≡ last.editor.words.image = ap (λ x. x.editor.words.image) same ∙ kept-image in
    let start : board_of m mid.editor.words.image ≡ record { netlist = empty_netlist m; order = o } = ap (board_of m) open'.image ∙ ap (λ n. record { netlist = n; order = o }) empty in
    let turn : InTurn m (map (edit_of t'.signals) said.claims) (record { netlist = empty_netlist m; order = o }) (board_of m last.editor.words.image) total =
    subst (λ b. InTurn m (map (edit_of t'.signals) said.claims) b (board_of m last.editor.words.image) total) start ran.0 in
    let in_order : Ordered (netlist_of m last.editor.words.image) (order_of m last.editor.words.image) =
    subst (λ ws. Ordered (netlist_of m ws) (order_of m ws)) kept-image (subst (λ k. Ordered (netlist_of k end.editor.words.image) (order_of k end.editor.words.image)) (keep.called.signals ∙ ran.1) keep.called.order.ordered) in
    let apart : Apart t'.signals = subst Apart (sym said.met) (entered_apart t.signals (all_mentioned said.statements) ready.apart) in
    let outcome : Stated t'.signals said.claims (netlist_of m last.editor.words.image) =
    stated m t'.signals said.claims o (board_of m last.editor.words.image) total said.numbered turn apart (λ s z. kept'.0 24 (inr (inr (refl, (s, z)))))
    (λ xs loop. order-excludes-loops (netlist_of m last.editor.words.image) (order_of m last.editor.words.image) xs in_order loop) in
    record {
      claims = said.claims;
      says = record {
        lines = said.lines;
        statements = said.statements;
        rows = said.are;
        file = said.file;
        claims = said.claimed;
        met = said.met;
        few = said.few;
        once = driven_once m t'.signals said.claims o (board_of m last.editor.words.image) total said.numbered turn;
      };
      stated = subst (λ ws. Stated t'.signals said.claims (netlist_of m ws)) (sym image) outcome;
      in_turn = subst (λ ws. InTurn m (map (edit_of t'.signals) said.claims) (record { netlist = empty_netlist m; order = o }) (board_of m ws) total) (sym image) turn;
    }

gives-by : (limit : ℕ) (text : List ℕ) (d d' : State) (t t' : Met) (r : Result ℕ FileFault) (opening closing : List Entry) (last : State) → Ready d t → Chain d opening last → Chain last closing d'
    → Reads d.editor.signals (levels d.editor.words) limit (netlist_at d) text t (netlist_of d.editor.signals last.editor.words.image) opening closing t' r → GivesDescribed text d t d' t' r
gives-by limit text d d' t t' r opening closing last ready c c' (barred f h) = tt
gives-by limit text d d' t t' r opening closing last ready c c' (faulty total f due lines) = tt
gives-by limit text d d' t t' r opening closing last ready c c' (unkept total s due lines missing least) = tt
gives-by limit text d d' t t' r opening closing last ready c c' (read {own = own} {total = total} due lines) =
    gives-read limit text d d' t t' total own c.0 last c'.0 ready due c.1 c.2 c'.1 c'.2 (accepted-said d.editor.signals t t' (all_rows file_rules text) own total None lines refl)

pub reads_give : ReadsGive
reads_give limit text d d' t t' r ready h = gives-by limit text d d' t t' r h.0 h.1 h.2 ready h.3 h.4 h.5
