-- The board after a change of one cell.
use Rattle.std.proofs.Common.{◌≡◌, ℕ, ◌+◌, ◌*◌, ◌<◌, ◌≤◌, cond, eqb, List, [], ◌∷◌, length, set, sym, refl, ap, ◌∙◌, subst, ⊎_elim, arith}
use Rattle.std.proofs.lemmas.Bool.{cases_eq, eq-eqb, ne_eqb, cond-true, cond-false}
use Rattle.netlist.specs.Netlist.{pins_of}
use Rattle.netlist.specs.Places.{place}
use Rattle.board.specs.Layout.{kind, output, value, holder, pin}
use Rattle.board.specs.Board.{nets, driven, driver_at, signal_at, netlist_of, order_of, pin_word, Sound}
use Rattle.board.proofs.Listing.{listing-same, listing-set}
use Rattle.edits.specs.Cells.{Cell, Changed}

-- four words of pins tell the signals that they are on
nets-of : (on : List ℕ) → length on ≤ 4 → nets (pin_word on 0 ∷ pin_word on 1 ∷ pin_word on 2 ∷ pin_word on 3 ∷ []) ≡ on
nets-of [] few = refl
nets-of (a ∷ []) few = refl
nets-of (a ∷ (b ∷ [])) few = refl
nets-of (a ∷ (b ∷ (c ∷ []))) few = refl
nets-of (a ∷ (b ∷ (c ∷ (d ∷ [])))) few = refl
nets-of (a ∷ (b ∷ (c ∷ (d ∷ (e ∷ on))))) few = absurd (omega arith)

-- a driver, from its words
pub driver_from : (m : ℕ) (ws : List ℕ) (s k v : ℕ) (on : List ℕ) → length on ≤ 4 → kind m ws s ≡ k → value m ws s ≡ v
    → ((i : ℕ) → i < 4 → pin m ws (4 * s + i) ≡ pin_word on i) → driver_at m ws s ≡ driven k v on
driver_from m ws s k v on few ks vs ps =
    let zero-th : pin m ws (4 * s) ≡ pin_word on 0 = (let e : 4 * s ≡ 4 * s + 0 = omega arith in ap (pin m ws) e ∙ ps 0 (omega arith)) in
    let read : nets (pin m ws (4 * s) ∷ pin m ws (4 * s + 1) ∷ pin m ws (4 * s + 2) ∷ pin m ws (4 * s + 3) ∷ []) ≡ on =
    (λ i. nets (zero-th i ∷ ps 1 (omega arith) i ∷ ps 2 (omega arith) i ∷ ps 3 (omega arith) i ∷ [])) ∙ nets-of on few in
    λ i. driven (ks i) (vs i) (read i)

module _ (m : ℕ) (ws : List ℕ) (s : ℕ) (cell : Cell) (ws' : List ℕ) (on : List ℕ) (below : s < m) (h : Changed m ws s cell ws')
    (few : length on ≤ 4) (words : (i : ℕ) → i < 4 → cell.pins i ≡ pin_word on i) where
  at_s : (f g : ℕ → ℕ) (v : ℕ) → f s ≡ cond (eqb s s) v (g s) → f s ≡ v
  at_s f g v e = e ∙ cond-true (eqb s s) v (g s) (eq-eqb s s refl)

  off_s : (x a v b : ℕ) → (x ≡ s → ⊥) → a ≡ cond (eqb s x) v b → a ≡ b
  off_s x a v b ne e = e ∙ cond-false (eqb s x) v b (ne_eqb s x (λ q. ne (sym q)))

  pub new_driver : driver_at m ws' s ≡ driven cell.kind cell.value on
  new_driver =
      driver_from m ws' s cell.kind cell.value on few
      (at_s (kind m ws') (kind m ws) cell.kind (h.kinds s below))
      (at_s (value m ws') (value m ws) cell.value (h.values s below))
      (λ i four. at_s (λ x. pin m ws' (4 * x + i)) (λ x. pin m ws (4 * x + i)) (cell.pins i) (h.pins s i below four) ∙ words i four)

  pin_off : (x i : ℕ) → x < m → (x ≡ s → ⊥) → i < 4 → pin m ws' (4 * x + i) ≡ pin m ws (4 * x + i)
  pin_off x i lt ne four = off_s x (pin m ws' (4 * x + i)) (cell.pins i) (pin m ws (4 * x + i)) ne (h.pins x i lt four)

  pub old_driver : (x : ℕ) → x < m → (x ≡ s → ⊥) → driver_at m ws' x ≡ driver_at m ws x
  old_driver x lt ne =
      let ks : kind m ws' x ≡ kind m ws x = off_s x (kind m ws' x) cell.kind (kind m ws x) ne (h.kinds x lt) in
      let vs : value m ws' x ≡ value m ws x = off_s x (value m ws' x) cell.value (value m ws x) ne (h.values x lt) in
      let e : 4 * x ≡ 4 * x + 0 = omega arith in
      let p : pin m ws' (4 * x) ≡ pin m ws (4 * x) = ap (pin m ws') e ∙ pin_off x 0 lt ne (omega arith) ∙ ap (pin m ws) (sym e) in
      λ i. driven (ks i) (vs i) (nets (p i ∷ pin_off x 1 lt ne (omega arith) i ∷ pin_off x 2 lt ne (omega arith) i ∷ pin_off x 3 lt ne (omega arith) i ∷ []))

  pub changed_netlist : netlist_of m ws' ≡ set (netlist_of m ws) s (record { driver = driven cell.kind cell.value on; output = eqb cell.output 1 })
  changed_netlist =
      listing-set (signal_at m ws) (signal_at m ws') m s _ below
      (λ i. record { driver = new_driver i; output = eqb (at_s (output m ws') (output m ws) cell.output (h.outputs s below) i) 1 })
      (λ k lt ne. λ i. record { driver = old_driver k lt ne i; output = eqb (off_s k (output m ws' k) cell.output (output m ws k) ne (h.outputs k lt) i) 1 })

  pub changed-order : order_of m ws' ≡ order_of m ws
  changed-order = listing-same (holder m ws') (holder m ws) 0 m (λ k lo hi. h.holders k (omega arith))

  pub changed_sound : Sound m ws → pins_of (driven cell.kind cell.value on) ≡ on → Sound m ws'
  changed_sound sound own = record {
    chained = h.chained;
    spelled = λ x i lt four.
        ⊎_elim
        (λ same. subst (λ y. pin m ws' (4 * y + i) ≡ pin_word (pins_of (driver_at m ws' y)) i) (sym same)
        (at_s (λ y. pin m ws' (4 * y + i)) (λ y. pin m ws (4 * y + i)) (cell.pins i) (h.pins s i below four) ∙ words i four
        ∙ ap (λ xs. pin_word xs i) (sym (ap pins_of new_driver ∙ own))))
        (λ ne. pin_off x i lt ne four ∙ sound.spelled x i lt four ∙ ap (λ d. pin_word (pins_of d) i) (sym (old_driver x lt ne)))
        (cases_eq x s);
    seated = λ x lt. h.seats x lt ∙ sound.seated x lt ∙ ap (λ o. place o x) (sym changed-order);
  }
