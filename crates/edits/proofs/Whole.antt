-- From the change of the netlist and the puts to what an edit promises.
use Rattle.std.proofs.Common.{◌≡◌, ℕ, ◌<◌, ◌≤◌, List, [], ◌∷◌, length, drop, Ok, Err, Result, sym, refl, ap, ◌∙◌, subst, arith}
use Rattle.words.specs.Meaning.{Meaning, levels, newest, opened, kept, dropped, Opens, Keeps, Drops}
use Rattle.words.specs.declared.store.StoreRefusal.{StoreRefusal}
use Rattle.reach.specs.Listed.{along}
use Rattle.reach.specs.declared.path.Path.{Path}
use Rattle.netlist.specs.declared.edit.Edit.{Edit}
use Rattle.netlist.specs.declared.edit.Edit.TheVariants.{Input, Output, Gate, Latch, Delete, Move}
use Rattle.netlist.specs.declared.edit.Refusal.TheVariants.{Looped as LoopAsked}
use Rattle.netlist.specs.Netlist.{Netlist, driver_of, Feeds, Loop}
use Rattle.netlist.specs.Places.{place, Arranges, Ordered, OrderedBut, PutsAll}
use Rattle.netlist.specs.Edits.{Applies, no_batch, no_signal, out_of_range, driven, wrong_kind, no_pin, in_use, looped, asked, puts_of, signal_of}
use Rattle.netlist.proofs.Loops.{order-excludes-loops}
use Rattle.board.specs.Board.{signal_at, netlist_of, order_of, board_of}
use Rattle.board.specs.Standing.{Fitting, Stands, Inside}
use Rattle.board.proofs.Listing.{length-listing}
use Rattle.edits.specs.Checks.{Unrefused, Passes, Plain}
use Rattle.edits.specs.Entered.{Entered}
use Rattle.edits.specs.Puts.{ReadyAll, PlacedAll, PutsPins}
use Rattle.edits.specs.Makes.{Workable, Makes, Placing}
use Rattle.board.proofs.Signals.{driver-at}
use Rattle.edits.proofs.Smallest.{signal-below}
use Rattle.edits.proofs.Asked.{puts_feed, puts_below, asked-others, asked_ordered}
use Rattle.edits.proofs.Putting.{placed-none}

-- ---- the puts of an edit

module _ (m : ℕ) (ws : List ℕ) (e : Edit) (ws₁ : List ℕ) (few : m ≤ 1024) (stands : Stands m ws) (p : Passes m (netlist_of m ws) e) (en : Entered m ws e ws₁) where
  below : signal_of e < m
  below = signal-below m e p.signals

  known : signal_of e < length (netlist_of m ws)
  known = omega (arith, below, length-listing (signal_at m ws) 0 m)

  pub ready : ReadyAll m ws₁ (signal_of e) (puts_of (netlist_of m ws) e)
  ready = record {
    few = few;
    sound = en.sound;
    permutes = subst (Arranges m) (sym en.order) stands.permutes;
    gate = below;
    nets = λ a h. puts_below m (netlist_of m ws) e a p.signals h;
    feeds = λ a h. subst (λ n. Feeds n a (signal_of e)) (sym en.netlist) (puts_feed (netlist_of m ws) e a known p.pins h);
    others = subst (λ n. OrderedBut (signal_of e) n (order_of m ws₁)) (sym en.netlist)
        (subst (λ o. OrderedBut (signal_of e) (asked (netlist_of m ws) e) o) (sym en.order) (asked-others (netlist_of m ws) (order_of m ws) e stands.ordered));
  }

  pub all_placed : (ws₂ : List ℕ) (total : ℕ) → PlacedAll m ws₁ (signal_of e) (puts_of (netlist_of m ws) e) ws₂ total → Placing m ws e ws₂ (Ok total)
  all_placed ws₂ total h = (
    record {
      sound = h.sound;
      permutes = h.permutes;
      ordered = subst (λ n. Ordered n (order_of m ws₂)) (sym (h.netlist ∙ en.netlist))
          (asked_ordered (netlist_of m ws) (order_of m ws) (order_of m ws₂) e known stands.ordered
          (subst (λ n. OrderedBut (signal_of e) n (order_of m ws₂)) en.netlist h.others)
          (λ x lt. h.stays x (subst (λ o. place o x < place o (signal_of e)) (sym en.order) lt)) h.before);
      fits = λ x lt. subst Fitting (sym (driver-at m ws₁ x lt) ∙ ap (λ n. driver_of n x) (sym h.netlist) ∙ driver-at m ws₂ x lt) (en.fits x lt);
    },
    h.netlist ∙ en.netlist,
    subst (λ n. PutsAll n (order_of m ws) (signal_of e) (puts_of (netlist_of m ws) e) (order_of m ws₂) total) en.netlist
        (subst (λ o. PutsAll (netlist_of m ws₁) o (signal_of e) (puts_of (netlist_of m ws) e) (order_of m ws₂) total) en.order h.puts),
  )

pub placing : (m : ℕ) (ws : List ℕ) (e : Edit) (a₁ a₂ : Meaning) (s : ℕ) (on : List ℕ) (r : Result ℕ Path) → m ≤ 1024 → Stands m ws → Passes m (netlist_of m ws) e
    → Entered m ws e a₁.image → s ≡ signal_of e → on ≡ puts_of (netlist_of m ws) e → (ReadyAll m a₁.image s on → PutsPins m a₁ s on a₂ r) → Placing m ws e a₂.image r
placing m ws e a₁ a₂ s on r few stands p en es eo put =
    let all : PutsPins m a₁ (signal_of e) (puts_of (netlist_of m ws) e) a₂ r =
    (let same : PutsPins m a₁ s on a₂ r ≡ PutsPins m a₁ (signal_of e) (puts_of (netlist_of m ws) e) a₂ r = λ i. PutsPins m a₁ (es i) (eo i) a₂ r in
    let was : ReadyAll m a₁.image (signal_of e) (puts_of (netlist_of m ws) e) ≡ ReadyAll m a₁.image s on = λ i. ReadyAll m a₁.image (sym es i) (sym eo i) in
    subst (λ x. x) same (put (subst (λ x. x) was (ready m ws e a₁.image few stands p en)))) in
    finish r all where
      finish : (r : Result ℕ Path) → PutsPins m a₁ (signal_of e) (puts_of (netlist_of m ws) e) a₂ r → Placing m ws e a₂.image r
      finish (Ok total) h = all_placed m ws e a₁.image few stands p en a₂.image total h
      finish (Err path) loop = subst (λ n. Loop n (along path)) en.netlist loop

plain-none : (n : Netlist) (e : Edit) → Plain e → puts_of n e ≡ []
plain-none n (Input s) h = refl
plain-none n (Output s v) h = refl
plain-none n (Gate s k on t) h = absurd h
plain-none n (Latch s a v) h = refl
plain-none n (Delete s) h = refl
plain-none n (Move s i a) h = absurd h

pub plain_placing : (m : ℕ) (ws : List ℕ) (e : Edit) (ws₁ : List ℕ) → Plain e → m ≤ 1024 → Stands m ws → Passes m (netlist_of m ws) e → Entered m ws e ws₁ → Placing m ws e ws₁ (Ok 0)
plain_placing m ws e ws₁ plain few stands p en =
    all_placed m ws e ws₁ few stands p en ws₁ 0
    (subst (λ on. PlacedAll m ws₁ (signal_of e) on ws₁ 0) (sym (plain-none (netlist_of m ws) e plain)) (placed-none m ws₁ (signal_of e) (puts_of (netlist_of m ws) e) (ready m ws e ws₁ few stands p en)))

-- ---- refusals

pub passes : (m l : ℕ) (n : Netlist) (e : Edit) → Unrefused m l n e → Passes m n e
passes m l n e h = record {
  signals = λ x. h 12 (omega arith) (no_signal x);
  ranged = λ x. h 13 (omega arith) (out_of_range x);
  undriven = λ x. h 14 (omega arith) (driven x);
  kinds = λ x. h 15 (omega arith) (wrong_kind x);
  pins = λ x. h 16 (omega arith) (no_pin x);
  unused = λ x. h 19 (omega arith) (in_use x);
}

none_applies : (m l : ℕ) (n : Netlist) (e : Edit) → Unrefused m l n e → ((xs : List ℕ) → Loop (asked n e) xs → ⊥) → (k : ℕ) → Applies m l n e k → ⊥
none_applies m l n e h no_loop k (no_batch x) = h 10 (omega arith) (no_batch x)
none_applies m l n e h no_loop k (no_signal x) = h 12 (omega arith) (no_signal x)
none_applies m l n e h no_loop k (out_of_range x) = h 13 (omega arith) (out_of_range x)
none_applies m l n e h no_loop k (driven x) = h 14 (omega arith) (driven x)
none_applies m l n e h no_loop k (wrong_kind x) = h 15 (omega arith) (wrong_kind x)
none_applies m l n e h no_loop k (no_pin x) = h 16 (omega arith) (no_pin x)
none_applies m l n e h no_loop k (in_use x) = h 19 (omega arith) (in_use x)
none_applies m l n e h no_loop k (looped xs y) = no_loop xs y

-- ---- the edit as a whole

pub made_ok : (m : ℕ) (a a' : Meaning) (e : Edit) (total : ℕ) → Workable m a → Unrefused m (levels a) (netlist_of m a.image) e → Inside a a'
    → Placing m a.image e a'.image (Ok total) → Makes m a e a' (Ok total)
made_ok m a a' e total w checks inside (stands, netlist, puts) = record {
  edits = (
    none_applies m (levels a) (netlist_of m a.image) e checks (λ xs loop. order-excludes-loops (asked (netlist_of m a.image) e) (order_of m a'.image) xs (subst (λ n. Ordered n (order_of m a'.image)) netlist stands.ordered) loop),
    netlist,
    puts,
  );
  stands = stands;
  inside = inside;
  untouched = tt;
}

opens_room : (a b : Meaning) (r : Result (Unit {0}) StoreRefusal) → levels a < a.limit → Opens a b r → b ≡ opened a
opens_room a b (Ok _) lt h = h.1
opens_room a b (Err f) lt h = absurd (omega (arith, h.1))

keeps_some : (a b : Meaning) (r : Result (Unit {0}) StoreRefusal) → 0 < levels a → Keeps a b r → b ≡ kept a
keeps_some a b (Ok _) lt h = h.1
keeps_some a b (Err f) lt h = absurd (omega (arith, h.1))

drops_some : (a b : Meaning) (r : Result (Unit {0}) StoreRefusal) → 0 < levels a → Drops a b r → b ≡ dropped a
drops_some a b (Ok _) lt h = h.1
drops_some a b (Err f) lt h = absurd (omega (arith, h.1))

-- the edit was made on a level of its own
module _ (m : ℕ) (a a₁ a₂ a₃ : Meaning) (e : Edit) (w : Workable m a) (checks : Unrefused m (levels a) (netlist_of m a.image) e) (ro : Result (Unit {0}) StoreRefusal) (open' : Opens a a₁ ro) (inside : Inside a₁ a₂) where
  opened_now : a₁ ≡ opened a
  opened_now = opens_room a a₁ ro w.room open'

  saved_now : a₂.saved ≡ a.image ∷ a.saved
  saved_now = inside.levels ∙ ap (λ x. x.saved) opened_now

  limit_now : a₂.limit ≡ a.limit
  limit_now = inside.limit ∙ ap (λ x. x.limit) opened_now

  some : 0 < levels a₂
  some = omega (arith, ap length saved_now)

  -- what the puts expect
  pub workable : Stands m a₁.image
  workable = subst (λ x. Stands m x.image) (sym opened_now) w.stands

  pub passable : Passes m (netlist_of m a₁.image) e
  passable = subst (λ x. Passes m (netlist_of m x.image) e) (sym opened_now) (passes m (levels a) (netlist_of m a.image) e checks)

  pub made_accepted : (total : ℕ) (rk : Result (Unit {0}) StoreRefusal) → Placing m a₁.image e a₂.image (Ok total) → Keeps a₂ a₃ rk → Makes m a e a₃ (Ok total)
  made_accepted total rk h keeps =
      let k : a₃ ≡ kept a₂ = keeps_some a₂ a₃ rk some keeps in
      made_ok m a a₃ e total w checks
      (record { levels = ap (λ x. x.saved) k ∙ ap (drop 1) saved_now; limit = ap (λ x. x.limit) k ∙ limit_now })
      (subst (λ ws. Placing m a.image e ws (Ok total)) (sym (ap (λ x. x.image) k)) (subst (λ x. Placing m x.image e a₂.image (Ok total)) opened_now h))

  taken_back : (rd : Result (Unit {0}) StoreRefusal) → Drops a₂ a₃ rd → a₃ ≡ a
  taken_back rd drops =
      let d : a₃ ≡ dropped a₂ = drops_some a₂ a₃ rd some drops in
      d ∙ (λ i. record { limit = limit_now i; image = newest (saved_now i); saved = drop 1 (saved_now i) })

  pub made_looped : (path : Path) (rd : Result (Unit {0}) StoreRefusal) → Placing m a₁.image e a₂.image (Err path) → Drops a₂ a₃ rd → Makes m a e a₃ (Err LoopAsked)
  made_looped path rd h drops =
      let back : a₃ ≡ a = taken_back rd drops in
      let loop = subst (λ y. Placing m y.image e a₂.image (Err path)) opened_now h in
      record {
        edits = (looped (along path) loop, λ k lt. checks k lt, ap (λ y. board_of m y.image) back);
        stands = subst (λ y. Stands m y.image) (sym back) w.stands;
        inside = record { levels = ap (λ y. y.saved) back; limit = ap (λ y. y.limit) back };
        untouched = back;
      }

  pub loop-shown : (path : Path) → Placing m a₁.image e a₂.image (Err path) → Loop (asked (netlist_of m a.image) e) (along path)
  loop-shown path h = subst (λ y. Placing m y.image e a₂.image (Err path)) opened_now h
