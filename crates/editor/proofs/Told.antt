-- What the words of a signal tell.
use Rattle.std.proofs.Common.{◌≡◌, ℕ, zero, suc, ◌+◌, ◌*◌, ◌<◌, cond, List, [], ◌∷◌, length, get_or, Some, None, Option, sym, refl, ap, ◌∙◌, subst, ⊎_elim, arith, MatchOption}
use Rattle.std.proofs.lemmas.Bool.{cases_lt, lt-ltb}
use Rattle.netlist.specs.Netlist.{Driver, absent, input, gate, latch, driver_of, pins_of}
use Rattle.board.specs.Layout.{kind, value, holder, pin}
use Rattle.board.specs.Board.{nets, driven, netlist_of, order_of}
use Rattle.board.specs.Standing.{Fitting, Stands}
use Rattle.board.proofs.Listing.{listing-first}
use Rattle.table.specs.declared.shape.Table.{Table}
use Rattle.table.specs.Table.{IsTable}
use Rattle.board.specs.declared.kind.Kind.{Kind}
use Rattle.board.specs.declared.kind.Kind.TheVariants.{Gate, Latch}
use Rattle.board.specs.Kinds.{kind_of}
use Rattle.board.proofs.Driving.{kind_past}
use Rattle.editor.specs.declared.questions.Pins.{Pins}
use Rattle.editor.specs.Questions.{pin_words_lem, AreOn, HasTable, start_of}
use Rattle.board.proofs.Signals.{driver-at}

-- ---- kinds

-- a driver by its kind
gate-driven : (k v : ℕ) (on : List ℕ) → Gate ≡ kind_of (driven k v on) → driven k v on ≡ gate v on
gate-driven zero v on e = absurd (let z : ◌≡◌ {A = ℕ} 0 1 = cc in omega arith)
gate-driven (suc zero) v on e = absurd (let z : ◌≡◌ {A = ℕ} 0 1 = cc in omega arith)
gate-driven (suc (suc zero)) v on e = refl
gate-driven (suc (suc (suc k))) v on e = absurd (let z : ◌≡◌ {A = ℕ} 0 1 = cc in omega arith)

latch-driven : (k v : ℕ) (on : List ℕ) → Latch ≡ kind_of (driven k v on) → driven k v on ≡ latch v (get_or on 0 0)
latch-driven zero v on e = absurd (let z : ◌≡◌ {A = ℕ} 0 1 = cc in omega arith)
latch-driven (suc zero) v on e = absurd (let z : ◌≡◌ {A = ℕ} 0 1 = cc in omega arith)
latch-driven (suc (suc zero)) v on e = absurd (let z : ◌≡◌ {A = ℕ} 0 1 = cc in omega arith)
latch-driven (suc (suc (suc k))) v on e = refl

module _ (m : ℕ) (ws : List ℕ) (s : ℕ) where
  abbrev the_driver : Driver
  the_driver = driver_of (netlist_of m ws) s

  -- only a signal that there is has a gate or a latch
  gate-below : Gate ≡ kind_of the_driver → s < m
  gate-below e = ⊎_elim (λ lt. lt) (λ le. absurd (let p = kind_past m ws s le in let z : ◌≡◌ {A = ℕ} 0 1 = cc in omega arith)) (cases_lt s m)

  latch-below : Latch ≡ kind_of the_driver → s < m
  latch-below e = ⊎_elim (λ lt. lt) (λ le. absurd (let p = kind_past m ws s le in let z : ◌≡◌ {A = ℕ} 0 1 = cc in omega arith)) (cases_lt s m)

  -- the words of four pins are told of a signal that there is
  abbrev the_pins : List ℕ
  the_pins = pin m ws (4 * s) ∷ pin m ws (4 * s + 1) ∷ pin m ws (4 * s + 2) ∷ pin m ws (4 * s + 3) ∷ []

  words-told : s < m → the_pins ≡ pin_words_lem m ws s
  words-told lt =
      let first : 4 * s ≡ 4 * s + 0 = omega arith in
      ap (λ q. pin m ws q ∷ pin m ws (4 * s + 1) ∷ pin m ws (4 * s + 2) ∷ pin m ws (4 * s + 3) ∷ []) first
      ∙ ap
      (λ b. cond b (pin m ws (4 * s + 0)) 0 ∷ cond b (pin m ws (4 * s + 1)) 0 ∷ cond b (pin m ws (4 * s + 2)) 0 ∷ cond b (pin m ws (4 * s + 3)) 0 ∷ [])
      (sym (lt-ltb s m lt))

  gate_is : Gate ≡ kind_of the_driver → the_driver ≡ gate (value m ws s) (nets (pin_words_lem m ws s))
  gate_is e =
      let d = driver-at m ws s (gate-below e) in
      d ∙ gate-driven (kind m ws s) (value m ws s) (nets the_pins) (e ∙ ap kind_of d) ∙ ap (λ l. gate (value m ws s) (nets l)) (words-told (gate-below e))

  latch_is : Latch ≡ kind_of the_driver → the_driver ≡ latch (value m ws s) (get_or (nets (pin_words_lem m ws s)) 0 0)
  latch_is e =
      let d = driver-at m ws s (latch-below e) in
      d
      ∙ latch-driven (kind m ws s) (value m ws s) (nets the_pins) (e ∙ ap kind_of d)
      ∙ ap (λ l. latch (value m ws s) (get_or (nets l) 0 0)) (words-told (latch-below e))

  -- ---- tables and starts

  pub start-told : (w : ℕ) → w ≡ value m ws s → Latch ≡ kind_of the_driver → Some w ≡ start_of the_driver
  start-told w told e = ap Some told ∙ ap start_of (sym (latch_is e))

  pub table-told : (r : Option Table) → Gate ≡ kind_of the_driver
      → MatchOption r (IsTable (length (nets (pin_words_lem m ws s))) (value m ws s) → ⊥) (λ t. (t.bits ≡ value m ws s) × (t.pins ≡ length (nets (pin_words_lem m ws s))))
      → Stands m ws → HasTable the_driver r
  table-told None e h stands =
      absurd (h (subst Fitting (sym (driver-at m ws s (gate-below e)) ∙ gate_is e) (stands.fits s (gate-below e))))
  table-told (Some t) e h stands = subst (λ d. HasTable d (Some t)) (sym (gate_is e)) h

  pub signal-told : (w : ℕ) → s < m → w ≡ holder m ws s → w ≡ get_or (order_of m ws) s 0
  signal-told w lt told = told ∙ sym (listing-first (holder m ws) m s 0 lt)

  -- ---- pins

  pub gate-pins : (p : Pins) (words : List ℕ) → words ≡ pin_words_lem m ws s → AreOn p (nets words) → Gate ≡ kind_of the_driver → AreOn p (pins_of the_driver)
  gate-pins p words is h e = subst (AreOn p) (ap nets is ∙ sym (ap pins_of (gate_is e))) h

  pub latch-pins : (p : Pins) (words : List ℕ) → words ≡ pin_words_lem m ws s → AreOn p (get_or (nets words) 0 0 ∷ []) → Latch ≡ kind_of the_driver
      → AreOn p (pins_of the_driver)
  latch-pins p words is h e = subst (AreOn p) (ap (λ l. get_or (nets l) 0 0 ∷ []) is ∙ sym (ap pins_of (latch_is e))) h

pub no_start : (d : Driver) (k : Kind) → k ≡ kind_of d → (k ≡ Latch → ⊥) → None ≡ start_of d
no_start absent k e other = refl
no_start input k e other = refl
no_start (gate t on) k e other = refl
no_start (latch v a) k e other = absurd (other e)

pub no_table : (d : Driver) (k : Kind) → k ≡ kind_of d → (k ≡ Gate → ⊥) → HasTable d None
no_table absent k e other = refl
no_table input k e other = refl
no_table (gate t on) k e other = absurd (other e)
no_table (latch v a) k e other = refl
