-- The chain of a signal tells the gates that it feeds.
use Rattle.std.proofs.Common.{◌≡◌, ℕ, zero, suc, ◌+◌, ◌*◌, ◌/◌, ◌%◌, ◌<◌, ◌≤◌, Bool, true, false, cond, eqb, ltb, List, [], ◌∷◌, length, sym, refl, ap, ◌∙◌, subst, inl, inr, ⊎_elim, arith}
use Rattle.std.proofs.lemmas.Bool.{cases_lt, cases_order, eqb-true, eqb-false, ltb-false, lt-ltb, le-ltb, eq-eqb, ne_eqb, cond-true, cond-false}
use Rattle.reach.specs.Reach.{Among, Follows}
use Rattle.netlist.specs.Netlist.{pins_of, feeders, Feeds}
use Rattle.netlist.specs.Places.{place}
use Rattle.board.specs.Layout.{kind, value, seat, first, first_told, pin, next}
use Rattle.board.specs.Chain.{Least, Chained}
use Rattle.board.specs.Board.{nets, driven, netlist_of, order_of, pin_word, Sound}
use Rattle.board.specs.Fanout.{nowhere, gate_of_lem, upward, chain, rest_of, fed_by, TellsFed}
use Rattle.board.proofs.Signals.{driver-at, driver_past}
use Rattle.board.proofs.Drivers.{pin_word_within}
use Rattle.board.proofs.Linked.{rows_of}
use Rattle.board.proofs.Rows.{least_bound, least_step}
use Rattle.board.proofs.Upward.{chain-end, chain_goes}

-- ---- pins and drivers

-- each signal that a driver's pins are on has a pin
among_pin : (pins : List ℕ) (a : ℕ) → Among a (nets pins) → (i : ℕ) × (i < length pins) × (pin_word (nets pins) i ≡ suc a)
among_pin [] a h = absurd h
among_pin (zero ∷ pins) a h = absurd h
among_pin (suc x ∷ pins) a h =
    ⊎_elim
    (λ e. (0, omega arith, ap suc (sym e)))
    (λ rest. let found = among_pin pins a rest in (suc found.0, omega (arith, found.1), found.2))
    h

gate-pins : (k v : ℕ) (on : List ℕ) → k ≡ 2 → pins_of (driven k v on) ≡ on
gate-pins k v on e = ap (λ j. pins_of (driven j v on)) e

gate-feeders : (k v : ℕ) (on : List ℕ) → k ≡ 2 → feeders (driven k v on) ≡ on
gate-feeders k v on e = ap (λ j. feeders (driven j v on)) e

only_gates : (k v : ℕ) (on : List ℕ) (a : ℕ) → Among a (feeders (driven k v on)) → (k ≡ 2) × Among a on
only_gates zero v on a h = absurd h
only_gates (suc zero) v on a h = absurd h
only_gates (suc (suc zero)) v on a h = (refl, h)
only_gates (suc (suc (suc k))) v on a h = absurd h

-- ---- the gate of a pin

-- What is told of a pin is below 1,024 only where it is a gate to tell.
pub record Told (m : ℕ) (ws : List ℕ) (upto start q : ℕ) : Type 0 where
  pub gate : kind m ws (q / 4) ≡ 2
  pub other : q / 4 ≡ start → ⊥
  pub near : seat m ws (q / 4) ≤ upto

module _ (m : ℕ) (ws : List ℕ) (upto start q : ℕ) where
  gate_is : Told m ws upto start q → gate_of_lem m ws upto start q ≡ q / 4
  gate_is told =
      cond-true (eqb (kind m ws (q / 4)) 2) _ _ (eq-eqb (kind m ws (q / 4)) 2 told.gate)
      ∙ cond-false (eqb (q / 4) start) _ _ (ne_eqb (q / 4) start told.other)
      ∙ cond-false (ltb upto (seat m ws (q / 4))) _ _ (le-ltb upto (seat m ws (q / 4)) told.near)

  not_told : (b c d : Bool) → cond b (cond c nowhere (cond d nowhere (q / 4))) nowhere < 1024 → (b ≡ true) × (c ≡ false) × (d ≡ false)
  not_told false c d lt = absurd (omega arith)
  not_told true true d lt = absurd (omega arith)
  not_told true false true lt = absurd (omega arith)
  not_told true false false lt = (refl, refl, refl)

  gate-told : gate_of_lem m ws upto start q < 1024 → Told m ws upto start q
  gate-told lt =
      let tests = not_told (eqb (kind m ws (q / 4)) 2) (eqb (q / 4) start) (ltb upto (seat m ws (q / 4))) lt in
      record {
        gate = eqb-true (kind m ws (q / 4)) 2 tests.0;
        other = eqb-false (q / 4) start tests.1;
        near = ltb-false upto (seat m ws (q / 4)) tests.2;
      }

-- ---- a chain lists the pins on its signal

upward_least : (P : ℕ → ℕ) (top v from r : ℕ) → Least P top v from r → upward from r ≡ r
upward_least P top v from zero h = cond-false (ltb from 0) 0 0 (le-ltb from 0 (omega arith))
upward_least P top v from (suc p) h = cond-true (ltb from (suc p)) (suc p) 0 (lt-ltb from (suc p) (omega (arith, h.0)))

-- y is told of some pin on x
pub record FromPin (m : ℕ) (ws : List ℕ) (upto start x y : ℕ) : Type 0 where
  pub pin_number : ℕ
  pub low : pin_number < 4 * m
  pub on : pin m ws pin_number ≡ suc x
  pub is : y ≡ gate_of_lem m ws upto start pin_number

module _ (m : ℕ) (ws : List ℕ) (upto start : ℕ) (chained : Chained m ws) (x : ℕ) (x-low : x < m) where
  abbrev after : ℕ → ℕ
  after q = upward (suc q) (next m ws q)

  next_least : (q : ℕ) → q < 4 * m → pin m ws q ≡ suc x → Least (pin m ws) (4 * m) (suc x) (suc q) (next m ws q)
  next_least q lt on = (rows_of m ws chained).onward x (suc q) x-low (lt, on)

  after_is : (q : ℕ) → q < 4 * m → pin m ws q ≡ suc x → after q ≡ next m ws q
  after_is q lt on = upward_least (pin m ws) (4 * m) (suc x) (suc q) (next m ws q) (next_least q lt on)

  -- the chain one pin on
  chain_more : (n q : ℕ) → q < 4 * m → pin m ws q ≡ suc x
      → chain m ws upto start (suc n) (suc q) ≡ gate_of_lem m ws upto start q ∷ chain m ws upto start n (next m ws q)
  chain_more n q lt on =
      chain_goes m ws upto start n q lt ∙ ap (λ e. gate_of_lem m ws upto start q ∷ chain m ws upto start n e) (after_is q lt on)

  chain-told : (n from edge y : ℕ) → Least (pin m ws) (4 * m) (suc x) from edge → Among y (chain m ws upto start n edge) → FromPin m ws upto start x y
  unfolding chain
  chain-told zero from edge y h told = absurd told
  chain-told (suc n) from zero y h told = absurd told
  chain-told (suc n) from (suc q) y h told =
      let here : Among y (gate_of_lem m ws upto start q ∷ chain m ws upto start n (next m ws q)) = subst (Among y) (chain_more n q h.1 h.2) told in
      ⊎_elim
      (λ e. record { pin_number = q; low = h.1; on = h.2; is = e })
      (λ rest. chain-told n (suc q) (next m ws q) y (next_least q h.1 h.2) rest)
      here

  chain_lists : (n from edge q : ℕ) → Least (pin m ws) (4 * m) (suc x) from edge → from ≤ q → q < 4 * m → pin m ws q ≡ suc x → 4 * m < n + edge
      → Among (gate_of_lem m ws upto start q) (chain m ws upto start n edge)
  chain_lists n from zero q h le lt on enough = absurd (h q le lt on)
  chain_lists zero from (suc p) q h le lt on enough = absurd (omega (arith, h.1))
  chain_lists (suc n) from (suc p) q h le lt on enough =
      subst (Among (gate_of_lem m ws upto start q)) (sym (chain_more n p h.1 h.2))
      (⊎_elim
      (λ e. inl (ap (gate_of_lem m ws upto start) e))
      (⊎_elim
      (λ under. absurd (h.3 q le under on))
      (λ over.
      let least = next_least p h.1 h.2 in
      let some = (least_bound (pin m ws) (4 * m) (suc x) (suc p) (next m ws p) q least over lt on).0 in
      let up : suc p < next m ws p = least_step (pin m ws) (4 * m) (suc x) (suc p) (next m ws p) least some in
      inr (chain_lists n (suc p) (next m ws p) q least over lt on (omega arith))))
      (cases_order q p))

  -- the chain begins with the first pin on x
  begins : first_told m ws x ≡ first m ws x
  begins = cond-true (ltb x m) _ _ (lt-ltb x m x-low)

  pub fed_told : (y : ℕ) → Among y (fed_by m ws upto start x) → FromPin m ws upto start x y
  fed_told y told = chain-told (4 * m) 0 (first m ws x) y (chained.firsts x x-low) (subst (λ edge. Among y (rest_of m ws upto start edge)) begins told)

  pub fed_lists : (q : ℕ) → q < 4 * m → pin m ws q ≡ suc x → Among (gate_of_lem m ws upto start q) (fed_by m ws upto start x)
  fed_lists q lt on =
      let least = chained.firsts x x-low in
      let some = (least_bound (pin m ws) (4 * m) (suc x) 0 (first m ws x) q least (omega arith) lt on).0 in
      subst (λ edge. Among (gate_of_lem m ws upto start q) (rest_of m ws upto start edge)) (sym begins)
      (chain_lists (4 * m) 0 (first m ws x) q least (omega arith) lt on (omega arith))

-- ---- what the netlist says

abbrev nets_at : ℕ → List ℕ → ℕ → List ℕ
nets_at m ws s = nets (pin m ws (4 * s) ∷ pin m ws (4 * s + 1) ∷ pin m ws (4 * s + 2) ∷ pin m ws (4 * s + 3) ∷ [])

-- pin i of gate s is on a
pub record GatePin (m : ℕ) (ws : List ℕ) (a s : ℕ) : Type 0 where
  pub low : s < m
  pub gate : kind m ws s ≡ 2
  pub i : ℕ
  pub few : i < 4
  pub on : pin m ws (4 * s + i) ≡ suc a

module _ (m : ℕ) (ws : List ℕ) where
  feeds_low : (a s : ℕ) → Feeds (netlist_of m ws) a s → s < m
  feeds_low a s feeds =
      ⊎_elim
      (λ lt. lt)
      (λ past. absurd (subst (λ t. Among a (feeders t)) (driver_past m ws s past) feeds))
      (cases_lt s m)

  -- a pin of a gate that is on a
  pub pin-feeds : Sound m ws → (a s i : ℕ) → s < m → i < 4 → kind m ws s ≡ 2 → pin m ws (4 * s + i) ≡ suc a → Feeds (netlist_of m ws) a s
  pin-feeds sound a s i low few gate on =
      let spelled : pin m ws (4 * s + i) ≡ pin_word (nets_at m ws s) i =
      sound.spelled s i low few ∙ ap (λ t. pin_word t i) (gate-pins (kind m ws s) (value m ws s) (nets_at m ws s) gate) in
      subst (Among a) (sym (ap feeders (driver-at m ws s low) ∙ gate-feeders (kind m ws s) (value m ws s) (nets_at m ws s) gate))
      (pin_word_within (nets_at m ws s) i a (sym spelled ∙ on))

  pub feeds-pin : Sound m ws → (a s : ℕ) → Feeds (netlist_of m ws) a s → GatePin m ws a s
  feeds-pin sound a s feeds =
      let low : s < m = feeds_low a s feeds in
      let own = only_gates (kind m ws s) (value m ws s) (nets_at m ws s) a (subst (λ t. Among a (feeders t)) (driver-at m ws s low) feeds) in
      let found = among_pin (pin m ws (4 * s) ∷ pin m ws (4 * s + 1) ∷ pin m ws (4 * s + 2) ∷ pin m ws (4 * s + 3) ∷ []) a own.1 in
      record {
        low = low;
        gate = own.0;
        i = found.0;
        few = found.1;
        on =
            sound.spelled s found.0 low found.1
            ∙ ap (λ t. pin_word t found.0) (gate-pins (kind m ws s) (value m ws s) (nets_at m ws s) own.0)
            ∙ found.2;
      }

-- ---- the gates told are those fed

-- a gate that is told, with its pin
pub record Fed (m : ℕ) (ws : List ℕ) (upto start x y : ℕ) : Type 0 where
  pub pin_number : ℕ
  pub low : pin_number < 4 * m
  pub on : pin m ws pin_number ≡ suc x
  pub owner : y ≡ pin_number / 4
  pub told : Told m ws upto start pin_number

module _ (m : ℕ) (ws : List ℕ) (upto start : ℕ) (few : m ≤ 1024) (sound : Sound m ws) (x : ℕ) (x-low : x < m) where
  fed_of : (y : ℕ) → Follows (fed_by m ws upto start) x y → Fed m ws upto start x y
  fed_of y follows =
      let from = fed_told m ws upto start sound.chained x x-low y follows.1 in
      let told = gate-told m ws upto start from.pin_number (subst (λ k. k < 1024) from.is follows.0) in
      record {
        pin_number = from.pin_number;
        low = from.low;
        on = from.on;
        owner = from.is ∙ gate_is m ws upto start from.pin_number told;
        told = told;
      }

  fed_feeds : (y : ℕ) → Fed m ws upto start x y → Feeds (netlist_of m ws) x y
  fed_feeds y fed =
      let q = fed.pin_number in
      let parts : q ≡ 4 * (q / 4) + q % 4 = omega arith in
      subst (Feeds (netlist_of m ws) x) (sym fed.owner)
      (pin-feeds m ws sound x (q / 4) (q % 4) (omega (arith, fed.low)) (omega arith) fed.told.gate (ap (pin m ws) (sym parts) ∙ fed.on))

  fed_near : (y : ℕ) → Fed m ws upto start x y → place (order_of m ws) y ≤ upto
  fed_near y fed =
      subst (λ s. place (order_of m ws) s ≤ upto) (sym fed.owner)
      (subst (λ p. p ≤ upto) (sound.seated (fed.pin_number / 4) (omega (arith, fed.low))) fed.told.near)

  feeds-told : (y : ℕ) → Feeds (netlist_of m ws) x y → place (order_of m ws) y ≤ upto → (y ≡ start → ⊥) → Follows (fed_by m ws upto start) x y
  feeds-told y feeds near other =
      let found = feeds-pin m ws sound x y feeds in
      let q = 4 * y + found.i in
      let owner : q / 4 ≡ y = omega (arith, found.few) in
      let told : Told m ws upto start q =
      record {
        gate = subst (λ s. kind m ws s ≡ 2) (sym owner) found.gate;
        other = λ e. other (sym owner ∙ e);
        near = subst (λ s. seat m ws s ≤ upto) (sym owner) (subst (λ p. p ≤ upto) (sym (sound.seated y found.low)) near);
      } in (
        omega (arith, found.low),
        subst (λ s. Among s (fed_by m ws upto start x)) (gate_is m ws upto start q told ∙ owner)
            (fed_lists m ws upto start sound.chained x x-low q (omega (arith, found.low, found.few)) found.on),
      )

pub fanout_tells : (m : ℕ) (ws : List ℕ) (upto start : ℕ) → m ≤ 1024 → Sound m ws → TellsFed m ws upto start (fed_by m ws upto start)
fanout_tells m ws upto start few sound =
    record {
      none = λ x past. ap (rest_of m ws upto start) (cond-false (ltb x m) (first m ws x) 0 (le-ltb x m past)) ∙ chain-end m ws upto start (4 * m);
      feeds = λ x y low follows. fed_feeds m ws upto start few sound x low y (fed_of m ws upto start few sound x low y follows);
      near = λ x y low follows. fed_near m ws upto start few sound x low y (fed_of m ws upto start few sound x low y follows);
      other = λ x y low follows e.
          let fed = fed_of m ws upto start few sound x low y follows in fed.told.other (sym fed.owner ∙ e);
      signal = λ x y low follows. let fed = fed_of m ws upto start few sound x low y follows in omega (arith, fed.owner, fed.low);
      all = λ x y low feeds near other. feeds-told m ws upto start few sound x low y feeds near other;
    }
