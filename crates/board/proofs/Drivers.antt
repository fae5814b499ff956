-- What the words of a signal say of its driver and of the pins on it.
use Rattle.std.proofs.Common.{◌≡◌, ℕ, zero, suc, ◌+◌, ◌*◌, ◌/◌, ◌%◌, ◌<◌, ◌≤◌, not, eqb, ltb, List, [], ◌∷◌, length, Decides, sym, refl, ap, ◌∙◌, subst, inl, inr, ⊎_elim, arith}
use Rattle.std.proofs.lemmas.Bool.{cases_lt, eq-eqb, ne_eqb, eqb-true, not_from_false, lt-ltb, le-ltb, cond-true, cond-false}
use Rattle.reach.specs.Reach.{Among}
use Rattle.netlist.specs.Netlist.{driver_of, pins_of, Used}
use Rattle.board.specs.Layout.{kind, value, first, first_told, pin}
use Rattle.board.specs.Chain.{Least}
use Rattle.board.specs.Board.{nets, driven, driver_at, netlist_of, pin_word, Sound}
use Rattle.board.proofs.Signals.{driver-at, driver_past}

-- ---- pins

pub pin_word_within : (on : List ℕ) (i a : ℕ) → pin_word on i ≡ suc a → Among a on
pin_word_within [] i a e = absurd (omega arith)
pin_word_within (b ∷ on) zero a e = inl (omega arith)
pin_word_within (b ∷ on) (suc i) a e = inr (pin_word_within on i a e)

among_pin_word : (on : List ℕ) (a : ℕ) → Among a on → (i : ℕ) × (i < length on) × (pin_word on i ≡ suc a)
among_pin_word [] a h = absurd h
among_pin_word (b ∷ on) a (inl e) = (0, omega arith, ap suc (sym e))
among_pin_word (b ∷ on) a (inr h) = let (i, lt, e) = among_pin_word on a h in (suc i, omega arith, e)

pub pin_word-none : (on : List ℕ) (i : ℕ) → pin_word on i ≡ 0 → length on ≤ i
pin_word-none [] i e = omega arith
pin_word-none (b ∷ on) zero e = absurd (omega arith)
pin_word-none (b ∷ on) (suc i) e = let h = pin_word-none on i e in omega arith

pub pin_word_past : (on : List ℕ) (i : ℕ) → length on ≤ i → pin_word on i ≡ 0
pin_word_past [] i le = refl
pin_word_past (b ∷ on) zero le = absurd (omega arith)
pin_word_past (b ∷ on) (suc i) le = pin_word_past on i (omega arith)

nets_few : (a b c d : ℕ) → length (nets (a ∷ b ∷ c ∷ d ∷ [])) ≤ 4
nets_few zero b c d = omega arith
nets_few (suc a) zero c d = omega arith
nets_few (suc a) (suc b) zero d = omega arith
nets_few (suc a) (suc b) (suc c) zero = omega arith
nets_few (suc a) (suc b) (suc c) (suc d) = omega arith

pins_few_of : (k v : ℕ) (on : List ℕ) → length on ≤ 4 → length (pins_of (driven k v on)) ≤ 4
pins_few_of zero v on h = omega arith
pins_few_of (suc zero) v on h = omega arith
pins_few_of (suc (suc zero)) v on h = h
pins_few_of (suc (suc (suc k))) v on h = omega arith

pub pins_few : (m : ℕ) (ws : List ℕ) (s : ℕ) → length (pins_of (driver_at m ws s)) ≤ 4
pins_few m ws s = pins_few_of (kind m ws s) (value m ws s) _ (nets_few (pin m ws (4 * s)) (pin m ws (4 * s + 1)) (pin m ws (4 * s + 2)) (pin m ws (4 * s + 3)))

-- a signal is used exactly where some pin's word says so
module _ (m : ℕ) (ws : List ℕ) (sound : Sound m ws) where
  used-pin : (a : ℕ) → Used (netlist_of m ws) a → (q : ℕ) × (q < 4 * m) × (pin m ws q ≡ suc a)
  used-pin a (t, h) =
      ⊎_elim
      (λ lt.
      let (i, few, e) = among_pin_word (pins_of (driver_at m ws t)) a (subst (λ d. Among a (pins_of d)) (driver-at m ws t lt) h) in
      let four : i < 4 = omega (arith, pins_few m ws t) in (4 * t + i, omega arith, sound.spelled t i lt four ∙ e))
      (λ le. absurd (subst (λ d. Among a (pins_of d)) (driver_past m ws t le) h))
      (cases_lt t m)

  -- pins are on signals that there are
  pub used_below : (a : ℕ) → Used (netlist_of m ws) a → a < m
  used_below a u = let (q, lt, e) = used-pin a u in omega (arith, sound.chained.within q lt, e)

  pin_used : (a q : ℕ) → q < 4 * m → pin m ws q ≡ suc a → Used (netlist_of m ws) a
  pin_used a q lt e =
      let lt4 : q / 4 < m = omega arith in
      let split : 4 * (q / 4) + q % 4 ≡ q = omega arith in
      let word : pin_word (pins_of (driver_at m ws (q / 4))) (q % 4) ≡ suc a = sym (sound.spelled (q / 4) (q % 4) lt4 (omega arith)) ∙ ap (pin m ws) split ∙ e in
      (q / 4, subst (λ d. Among a (pins_of d)) (sym (driver-at m ws (q / 4) lt4)) (pin_word_within (pins_of (driver_at m ws (q / 4))) (q % 4) a word))

  first_used : (a r : ℕ) → Least (pin m ws) (4 * m) (suc a) 0 r → Decides (not (eqb r 0)) (Used (netlist_of m ws) a)
  first_used a zero h = (λ e. absurd (let z : ◌≡◌ {A = ℕ} 0 1 = cc in omega arith), λ u. let (q, lt, e) = used-pin a u in absurd (h q (omega arith) lt e))
  first_used a (suc p) h = (λ e. pin_used a p h.1 h.2, λ u. not_from_false (eqb (suc p) 0) (ne_eqb (suc p) 0 (λ e. omega arith)))

  used-told : (a : ℕ) → Decides (not (eqb (first_told m ws a) 0)) (Used (netlist_of m ws) a)
  used-told a =
      ⊎_elim
      (λ lt.
      subst (λ x. Decides (not (eqb x 0)) (Used (netlist_of m ws) a)) (sym (cond-true (ltb a m) _ _ (lt-ltb a m lt)))
      (first_used a (first m ws a) (sound.chained.firsts a lt)))
      (λ le.
      subst (λ x. Decides (not (eqb x 0)) (Used (netlist_of m ws) a)) (sym (cond-false (ltb a m) _ _ (le-ltb a m le)))
      (λ e. absurd (let z : ◌≡◌ {A = ℕ} 0 1 = cc in omega arith), λ u. absurd (let lt = used_below a u in omega arith)))
      (cases_lt a m)

  pub tells_used : (a w : ℕ) → w ≡ first_told m ws a → Decides (not (eqb w 0)) (Used (netlist_of m ws) a)
  tells_used a w told = subst (λ x. Decides (not (eqb x 0)) (Used (netlist_of m ws) a)) (sym told) (used-told a)

  pub tells_pin : (s i w : ℕ) → s < m → i < 4 → w ≡ pin m ws (4 * s + i) → Decides (eqb w 0) (length (pins_of (driver_of (netlist_of m ws) s)) ≤ i)
  tells_pin s i w lt four told =
      let k : w ≡ pin_word (pins_of (driver_at m ws s)) i = told ∙ sound.spelled s i lt four in
      let d : length (pins_of (driver_of (netlist_of m ws) s)) ≡ length (pins_of (driver_at m ws s)) = ap (λ x. length (pins_of x)) (driver-at m ws s lt) in (
        λ yes. omega (arith, d, pin_word-none (pins_of (driver_at m ws s)) i (sym k ∙ eqb-true w 0 yes)),
        λ le. eq-eqb w 0 (k ∙ pin_word_past (pins_of (driver_at m ws s)) i (omega (arith, d))),
      )

  pub few_pins : (s i : ℕ) → s < m → 3 < i → length (pins_of (driver_of (netlist_of m ws) s)) ≤ i
  few_pins s i lt gt = omega (arith, pins_few m ws s, ap (λ x. length (pins_of x)) (driver-at m ws s lt))
