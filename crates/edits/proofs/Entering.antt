-- Each edit, from the change of its cell to the netlist that it asks for.
use Rattle.std.proofs.Common.{◌≡◌, ℕ, zero, suc, ◌+◌, ◌*◌, ◌^◌, ◌<◌, ◌≤◌, min, Bool, cond, eqb, ltb, List, [], ◌∷◌, length, get_or, take, set, sym, refl, ap, ◌∙◌, subst, inl, inr, ⊎_elim, arith}
use Rattle.std.proofs.lemmas.Bool.{cases_eq, cases_lt, eq-eqb, ne_eqb, lt-ltb, le-ltb, cond-true, cond-false}
use Rattle.std.proofs.lemmas.List.{length-take, length-set, get_or-take}
use Rattle.netlist.specs.declared.edit.Edit.{Edit}
use Rattle.netlist.specs.declared.edit.Edit.TheVariants.{Input, Output, Gate, Latch, Delete, Move}
use Rattle.netlist.specs.Netlist.{Driver, absent, input, gate, latch, driver_of, output_of, pins_of}
use Rattle.netlist.specs.Edits.{asked, repinned, Pinned}
use Rattle.board.specs.Layout.{kind, value, output, pin}
use Rattle.board.specs.Board.{driven, driver_at, netlist_of, pin_word}
use Rattle.board.specs.Standing.{Fitting, Stands}
use Rattle.edits.specs.Cells.{Cell, cell_at, Changed, Site, Wirable, on_nets, as_input, as_output, as_driven, as_absent, as_moved}
use Rattle.edits.specs.Checks.{Passes}
use Rattle.edits.specs.Entered.{Entered}
use Rattle.board.proofs.Signals.{driver-at, output_at}
use Rattle.edits.proofs.Boards.{changed_netlist, changed-order, changed_sound, new_driver, old_driver}
use Rattle.board.proofs.Drivers.{pins_few, pin_word_past}
use Rattle.edits.proofs.Smallest.{signal-below}
use Rattle.edits.proofs.Netted.{net-beyond}

-- ---- words of pins

pin_word_at : (on : List ℕ) (i : ℕ) → i < length on → pin_word on i ≡ suc (get_or on i 0)
pin_word_at [] i lt = absurd (omega arith)
pin_word_at (a ∷ on) zero lt = refl
pin_word_at (a ∷ on) (suc i) lt = pin_word_at on i (omega arith)

on_words : (k : ℕ) (on : List ℕ) (was : ℕ → ℕ) (i : ℕ) → k ≤ length on → was i ≡ 0 → on_nets k on was i ≡ pin_word (take k on) i
on_words k on was i le none =
    ⊎_elim
    (λ lt. cond-true (ltb i k) _ _ (lt-ltb i k lt) ∙ ap suc (sym (get_or-take k on i 0 lt)) ∙ sym (pin_word_at (take k on) i (omega (arith, length-take k on))))
    (λ ge. cond-false (ltb i k) _ _ (le-ltb i k ge) ∙ none ∙ sym (pin_word_past (take k on) i (omega (arith, length-take k on))))
    (cases_lt i k)

set_words : (on : List ℕ) (j a i : ℕ) → j < length on → cond (eqb j i) (suc a) (pin_word on i) ≡ pin_word (set on j a) i
set_words [] j a i lt = absurd (omega arith)
set_words (b ∷ on) zero a zero lt = refl
set_words (b ∷ on) zero a (suc i) lt = cond-false (eqb 0 (suc i)) _ _ (ne_eqb 0 (suc i) (λ e. omega arith))
set_words (b ∷ on) (suc j) a zero lt = cond-false (eqb (suc j) 0) _ _ (ne_eqb (suc j) 0 (λ e. omega arith))
set_words (b ∷ on) (suc j) a (suc i) lt =
    ⊎_elim
    (λ e. cond-true (eqb (suc j) (suc i)) _ _ (eq-eqb (suc j) (suc i) (ap suc e)) ∙ sym (cond-true (eqb j i) _ _ (eq-eqb j i e)))
    (λ ne. cond-false (eqb (suc j) (suc i)) _ _ (ne_eqb (suc j) (suc i) (λ e. ne (omega arith))) ∙ sym (cond-false (eqb j i) _ _ (ne_eqb j i ne)))
    (cases_eq j i) ∙ set_words on j a i (omega arith)

-- ---- drivers

redriven : (k v : ℕ) (on : List ℕ) → driven k v (pins_of (driven k v on)) ≡ driven k v on
redriven zero v on = refl
redriven (suc zero) v on = refl
redriven (suc (suc zero)) v on = refl
redriven (suc (suc (suc k))) v on = refl

-- a driver by its words has as many pins as it is told
own_pins : (k v : ℕ) (on : List ℕ) → pins_of (driven k v (pins_of (driven k v on))) ≡ pins_of (driven k v on)
own_pins k v on = ap pins_of (redriven k v on)

re_pinned : (k v : ℕ) (on : List ℕ) (i a : ℕ) → Pinned (driven k v on) → i < length (pins_of (driven k v on))
    → driven k v (set (pins_of (driven k v on)) i a) ≡ repinned (driven k v on) i a
re_pinned zero v on i a p lt = absurd p
re_pinned (suc zero) v on i a p lt = absurd p
re_pinned (suc (suc zero)) v on i a p lt = refl
re_pinned (suc (suc (suc k))) v on zero a p lt = refl
re_pinned (suc (suc (suc k))) v on (suc i) a p lt = absurd (omega arith)

re_own : (k v : ℕ) (on : List ℕ) (i a : ℕ) → Pinned (driven k v on) → i < length (pins_of (driven k v on))
    → pins_of (driven k v (set (pins_of (driven k v on)) i a)) ≡ set (pins_of (driven k v on)) i a
re_own zero v on i a p lt = absurd p
re_own (suc zero) v on i a p lt = absurd p
re_own (suc (suc zero)) v on i a p lt = refl
re_own (suc (suc (suc k))) v on zero a p lt = refl
re_own (suc (suc (suc k))) v on (suc i) a p lt = absurd (omega arith)

re_fits : (d : Driver) (i a : ℕ) → Fitting d → Fitting (repinned d i a)
re_fits absent i a h = tt
re_fits input i a h = tt
re_fits (gate t on) i a h = let e : length (set on i a) ≡ length on = length-set on i a in (omega (arith, h.0), subst (λ l. t < 2 ^ (2 ^ l)) (sym e) h.1)
re_fits (latch v b) i a h = h

abbrev tag : Driver → ℕ
tag absent = 0
tag input = 1
tag (gate t on) = 1
tag (latch v a) = 1

really_absent : (d : Driver) → ((d ≡ absent → ⊥) → ⊥) → d ≡ absent
really_absent absent h = refl
really_absent input h = absurd (h (λ e. let z : ◌≡◌ {A = ℕ} 1 0 = ap tag e in omega arith))
really_absent (gate t on) h = absurd (h (λ e. let z : ◌≡◌ {A = ℕ} 1 0 = ap tag e in omega arith))
really_absent (latch v a) h = absurd (h (λ e. let z : ◌≡◌ {A = ℕ} 1 0 = ap tag e in omega arith))

-- ---- one lemma for every edit

entered_by : (m : ℕ) (ws : List ℕ) (s : ℕ) (cell : Cell) (ws' : List ℕ) (on : List ℕ) (d : Driver) (out : Bool) (e : Edit) → s < m → Stands m ws → Changed m ws s cell ws'
    → length on ≤ 4 → ((i : ℕ) → i < 4 → cell.pins i ≡ pin_word on i) → pins_of (driven cell.kind cell.value on) ≡ on → driven cell.kind cell.value on ≡ d
    → eqb cell.output 1 ≡ out → Fitting d → asked (netlist_of m ws) e ≡ set (netlist_of m ws) s (record { driver = d; output = out }) → Entered m ws e ws'
entered_by m ws s cell ws' on d out e below stands h few words own is outs fit asks = record {
  netlist = changed_netlist m ws s cell ws' on below h few words ∙ (λ i. set (netlist_of m ws) s (record { driver = is i; output = outs i })) ∙ sym asks;
  order = changed-order m ws s cell ws' on below h few words;
  sound = changed_sound m ws s cell ws' on below h few words stands.sound own;
  fits = λ x lt.
      ⊎_elim
      (λ same. subst (λ y. Fitting (driver_at m ws' y)) (sym same) (subst Fitting (sym (new_driver m ws s cell ws' on below h few words ∙ is)) fit))
      (λ ne. subst Fitting (sym (old_driver m ws s cell ws' on below h few words x lt ne)) (stands.fits x lt))
      (cases_eq x s);
}

module _ (m : ℕ) (ws : List ℕ) (high : m ≤ 1024) (stands : Stands m ws) where
  site : (s : ℕ) → s < m → Site m ws s
  site s lt = record { few = high; chained = stands.sound.chained; below = lt }

  free : (s : ℕ) → s < m → driver_of (netlist_of m ws) s ≡ absent → (i : ℕ) → i < 4 → pin m ws (4 * s + i) ≡ 0
  free s lt gone i four = stands.sound.spelled s i lt four ∙ ap (λ d. pin_word (pins_of d) i) (sym (driver-at m ws s lt) ∙ gone)

  same-output : (s : ℕ) → s < m → eqb (output m ws s) 1 ≡ output_of (netlist_of m ws) s
  same-output s lt = sym (output_at m ws s lt)

  pub entered-input : (s : ℕ) (ws' : List ℕ) → Passes m (netlist_of m ws) (Input s) → (Site m ws s → Changed m ws s (as_input (cell_at m ws s)) ws') → Entered m ws (Input s) ws'
  entered-input s ws' p h =
      let lt : s < m = signal-below m (Input s) p.signals in
      entered_by m ws s (as_input (cell_at m ws s)) ws' [] input (output_of (netlist_of m ws) s) (Input s) lt stands (h (site s lt)) (omega arith)
      (free s lt (really_absent (driver_of (netlist_of m ws) s) p.undriven)) refl refl (same-output s lt) tt refl

  pub entered-output : (s v : ℕ) (ws' : List ℕ) → Passes m (netlist_of m ws) (Output s v) → (Site m ws s → Changed m ws s (as_output (cell_at m ws s) v) ws') → Entered m ws (Output s v) ws'
  entered-output s v ws' p h =
      let lt : s < m = signal-below m (Output s v) p.signals in
      let d : driver_of (netlist_of m ws) s ≡ driver_at m ws s = driver-at m ws s lt in
      entered_by m ws s (as_output (cell_at m ws s) v) ws' (pins_of (driver_at m ws s)) (driver_of (netlist_of m ws) s) (eqb v 1) (Output s v) lt stands (h (site s lt)) (pins_few m ws s)
      (λ i four. stands.sound.spelled s i lt four) (own_pins (kind m ws s) (value m ws s) _) (redriven (kind m ws s) (value m ws s) _ ∙ sym d) refl
      (subst Fitting (sym d) (stands.fits s lt)) refl

  pub entered-gate : (s k : ℕ) (on : List ℕ) (table : ℕ) (ws' : List ℕ) → length on ≡ 4 → Passes m (netlist_of m ws) (Gate s k on table)
      → (Wirable m ws s k on → Changed m ws s (as_driven (cell_at m ws s) 2 table k on) ws') → Entered m ws (Gate s k on table) ws'
  entered-gate s k on table ws' four p h =
      let lt : s < m = signal-below m (Gate s k on table) p.signals in
      let most : k ≤ 4 = ⊎_elim (λ gt. absurd (p.ranged (inl gt))) (λ le. omega arith) (cases_lt 4 k) in
      let fit : table < 2 ^ (2 ^ k) = ⊎_elim (λ l. l) (λ le. absurd (p.ranged (inr le))) (cases_lt table (2 ^ (2 ^ k))) in
      let gone = really_absent (driver_of (netlist_of m ws) s) p.undriven in
      let long : length (take k on) ≡ k = length-take k on ∙ (let e : min k (length on) ≡ k = omega arith in e) in
      let w : Wirable m ws s k on = record {
        site = site s lt;
        most = most;
        free = free s lt gone;
        nets = λ i less. ⊎_elim (λ l. l) (λ le. absurd (p.signals (inr (net-beyond m k on i four (omega arith) le)))) (cases_lt (get_or on i 0) m);
      } in
      entered_by m ws s (as_driven (cell_at m ws s) 2 table k on) ws' (take k on) (gate table (take k on)) (output_of (netlist_of m ws) s) (Gate s k on table) lt stands (h w) (omega (arith, long))
      (λ i less. on_words k on (cell_at m ws s).pins i (omega arith) (free s lt gone i less)) refl refl (same-output s lt)
      (omega (arith, long), subst (λ l. table < 2 ^ (2 ^ l)) (sym long) fit) refl

  pub entered-latch : (s net start : ℕ) (on : List ℕ) (ws' : List ℕ) → on ≡ net ∷ net ∷ net ∷ net ∷ [] → Passes m (netlist_of m ws) (Latch s net start)
      → (Wirable m ws s 1 on → Changed m ws s (as_driven (cell_at m ws s) 3 start 1 on) ws') → Entered m ws (Latch s net start) ws'
  entered-latch s net start on ws' e p h =
      let lt : s < m = signal-below m (Latch s net start) p.signals in
      let low : start ≤ 3 = ⊎_elim (λ gt. absurd (p.ranged gt)) (λ le. le) (cases_lt 3 start) in
      let net-low : net < m = ⊎_elim (λ l. l) (λ le. absurd (p.signals (inr (inl le)))) (cases_lt net m) in
      let gone = really_absent (driver_of (netlist_of m ws) s) p.undriven in
      let first : get_or on 0 0 ≡ net = ap (λ xs. get_or xs 0 0) e in
      let w : Wirable m ws s 1 on = record {
        site = site s lt;
        most = omega arith;
        free = free s lt gone;
        nets = λ i less. let z : i ≡ 0 = omega arith in subst (λ j. get_or on j 0 < m) (sym z) (subst (λ y. y < m) (sym first) net-low);
      } in
      let one : take 1 on ≡ net ∷ [] = ap (take 1) e in
      entered_by m ws s (as_driven (cell_at m ws s) 3 start 1 on) ws' (net ∷ []) (latch start net) (output_of (netlist_of m ws) s) (Latch s net start) lt stands (h w) (omega arith)
      (λ i less. on_words 1 on (cell_at m ws s).pins i (omega (arith, ap length e)) (free s lt gone i less) ∙ ap (λ xs. pin_word xs i) one) refl refl (same-output s lt) low refl

  pub entered-delete : (s : ℕ) (ws' : List ℕ) → Passes m (netlist_of m ws) (Delete s) → (Site m ws s → Changed m ws s (as_absent (cell_at m ws s)) ws') → Entered m ws (Delete s) ws'
  entered-delete s ws' p h =
      let lt : s < m = signal-below m (Delete s) p.signals in
      entered_by m ws s (as_absent (cell_at m ws s)) ws' [] absent (output_of (netlist_of m ws) s) (Delete s) lt stands (h (site s lt)) (omega arith)
      (λ i four. refl) refl refl (same-output s lt) tt refl

  pub entered_move : (s i a : ℕ) (ws' : List ℕ) → Passes m (netlist_of m ws) (Move s i a)
      → (Site m ws s → a < m → Changed m ws s (as_moved (cell_at m ws s) i a) ws') → Entered m ws (Move s i a) ws'
  entered_move s i a ws' p h =
      let lt : s < m = signal-below m (Move s i a) p.signals in
      let net-low : a < m = ⊎_elim (λ l. l) (λ le. absurd (p.signals (inr (inl le)))) (cases_lt a m) in
      let d : driver_of (netlist_of m ws) s ≡ driver_at m ws s = driver-at m ws s lt in
      let has : i < length (pins_of (driver_at m ws s)) =
      subst (λ x. i < length (pins_of x)) d (⊎_elim (λ l. l) (λ le. absurd (p.pins le)) (cases_lt i (length (pins_of (driver_of (netlist_of m ws) s))))) in
      let pinned : Pinned (driver_at m ws s) = subst Pinned d (really_pinned (driver_of (netlist_of m ws) s) p.kinds) in
      let on = set (pins_of (driver_at m ws s)) i a in
      entered_by m ws s (as_moved (cell_at m ws s) i a) ws' on (repinned (driver_of (netlist_of m ws) s) i a) (output_of (netlist_of m ws) s) (Move s i a) lt stands (h (site s lt) net-low)
      (omega (arith, length-set (pins_of (driver_at m ws s)) i a, pins_few m ws s))
      (λ j less. ap (λ w. cond (eqb i j) (suc a) w) (stands.sound.spelled s j lt less) ∙ set_words (pins_of (driver_at m ws s)) i a j has)
      (re_own (kind m ws s) (value m ws s) _ i a pinned has)
      (re_pinned (kind m ws s) (value m ws s) _ i a pinned has ∙ ap (λ x. repinned x i a) (sym d)) (same-output s lt)
      (re_fits (driver_of (netlist_of m ws) s) i a (subst Fitting (sym d) (stands.fits s lt))) refl where
        really_pinned : (d : Driver) → ((Pinned d → ⊥) → ⊥) → Pinned d
        really_pinned absent h = absurd (h (λ x. x))
        really_pinned input h = absurd (h (λ x. x))
        really_pinned (gate t on) h = tt
        really_pinned (latch v b) h = tt
