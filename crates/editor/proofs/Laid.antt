-- Words that hold the empty netlist.
use Rattle.std.proofs.Common.{◌≡◌, ℕ, zero, suc, ◌+◌, ◌*◌, ◌<◌, ◌≤◌, false, eqb, ◌⊎◌, List, ◌∷◌, length, get_or, replicate, sym, refl, ap, ◌∙◌, subst, inl, inr, ⊎_elim, arith}
use Rattle.std.proofs.lemmas.List.{get_or_past, get_or-replicate, length-replicate}
use Rattle.std.proofs.lemmas.Bool.{true≢false, cases_lt, eq-eqb, ne_eqb, cond-true, cond-false}
use Rattle.reach.specs.Reach.{Among}
use Rattle.netlist.specs.Netlist.{absent, unused, driver_of, output_of, feeders, pins_of, Whole, empty_netlist}
use Rattle.netlist.specs.Places.{Order, place, counted, first_order, Arranges, Ordered}
use Rattle.netlist.specs.Edits.{empty_board}
use Rattle.board.specs.Layout.{word, kind, output, seat, holder, pin}
use Rattle.board.specs.Chain.{Least, Chained}
use Rattle.board.specs.Board.{listing, driven, driver_at, signal_at, netlist_of, order_of, board_of, pin_word, Sound}
use Rattle.board.specs.Standing.{Fitting, Stands}
use Rattle.board.proofs.Listing.{listing-same}

-- ---- the first order

length-counted : (from m : ℕ) → length (counted from m) ≡ m
length-counted from zero = refl
length-counted from (suc m) = ap suc (length-counted (suc from) m)

counted_at : (from m p : ℕ) → p < m → get_or (counted from m) p 0 ≡ from + p
counted_at from zero p lt = absurd (omega arith)
counted_at from (suc m) zero lt = omega arith
counted_at from (suc m) (suc p) lt = counted_at (suc from) m p (omega arith) ∙ omega arith

place-counted : (from m p : ℕ) → p < m → place (counted from m) (from + p) ≡ p
place-counted from zero p lt = absurd (omega arith)
place-counted from (suc m) zero lt = let e : from ≡ from + 0 = omega arith in cond-true (eqb from (from + 0)) 0 _ (eq-eqb from (from + 0) e)
place-counted from (suc m) (suc p) lt =
    cond-false (eqb from (from + suc p)) 0 _ (ne_eqb from (from + suc p) (λ e. omega arith))
    ∙ ap suc (let e : from + suc p ≡ suc from + p = omega arith in ap (place (counted (suc from) m)) e ∙ place-counted (suc from) m p (omega arith))

pub first_at : (m p : ℕ) → p < m → get_or (first_order m) p 0 ≡ p
first_at m p lt = counted_at 0 m p lt ∙ omega arith

pub place-first : (m s : ℕ) → s < m → place (first_order m) s ≡ s
place-first m s lt = let e : s ≡ 0 + s = omega arith in ap (place (first_order m)) e ∙ place-counted 0 m s lt

first_permutes : (m : ℕ) → Arranges m (first_order m)
first_permutes m = record {
  long = length-counted 0 m;
  each = λ s lt. omega (arith, place-first m s lt);
  below = λ p lt. omega (arith, first_at m p lt);
  once = λ p lt. ap (place (first_order m)) (first_at m p lt) ∙ place-first m p lt;
}

listing-counted : (from m : ℕ) → listing (λ (p : ℕ). p) from m ≡ counted from m
listing-counted from zero = refl
listing-counted from (suc m) = ap (λ l. from ∷ l) (listing-counted (suc from) m)

-- ---- the empty netlist

listing_one : {A : Type 0} (x : A) (from m : ℕ) → listing (λ (p : ℕ). x) from m ≡ replicate m x
listing_one x from zero = refl
listing_one x from (suc m) = ap (λ l. x ∷ l) (listing_one x (suc from) m)

none-driven : (m s : ℕ) → driver_of (empty_netlist m) s ≡ absent
none-driven m s =
    ap (λ x. x.driver)
    (⊎_elim (λ lt. get_or-replicate m s unused unused lt) (λ le. get_or_past (empty_netlist m) s unused (omega (arith, length-replicate m unused))) (cases_lt s m))

none-marked : (m s : ℕ) → output_of (empty_netlist m) s ≡ false
none-marked m s =
    ap (λ x. x.output)
    (⊎_elim (λ lt. get_or-replicate m s unused unused lt) (λ le. get_or_past (empty_netlist m) s unused (omega (arith, length-replicate m unused))) (cases_lt s m))

pub empty_whole : (m : ℕ) → Whole (empty_netlist m)
empty_whole m s gone = (λ out. true≢false (sym out ∙ none-marked m s), λ used. subst (λ d. Among s (pins_of d)) (none-driven m used.0) used.1)

empty_ordered : (m : ℕ) (o : Order) → Ordered (empty_netlist m) o
empty_ordered m o a s h = absurd (subst (λ d. Among a (feeders d)) (none-driven m s) h)

-- ---- from the words

zero_absent : (k v : ℕ) (on : List ℕ) → k ≡ 0 → driven k v on ≡ absent
zero_absent k v on e = ap (λ x. driven x v on) e

module _ (m : ℕ) (ws : List ℕ) (long : 18 * m ≤ length ws) (zeros : (at : ℕ) → (at < 3 * m) ⊎ (5 * m ≤ at) → word ws at ≡ 0)
    (seats : (s : ℕ) → s < m → seat m ws s ≡ s) (holders : (p : ℕ) → p < m → holder m ws p ≡ p) where
  laid_driver : (s : ℕ) → s < m → driver_at m ws s ≡ absent
  laid_driver s lt = zero_absent (kind m ws s) _ _ (zeros s (inl (omega arith)))

  laid_output : (s : ℕ) → s < m → eqb (output m ws s) 1 ≡ false
  laid_output s lt = let z : output m ws s ≡ 0 = zeros (m + s) (inl (omega arith)) in ne_eqb (output m ws s) 1 (λ e. omega arith)

  laid_netlist : netlist_of m ws ≡ empty_netlist m
  laid_netlist =
      listing-same (signal_at m ws) (λ s. unused) 0 m
      (λ s le lt. let d = laid_driver s (omega arith) in let o = laid_output s (omega arith) in λ i. record { driver = d i; output = o i })
      ∙ listing_one unused 0 m

  laid_order : order_of m ws ≡ first_order m
  laid_order = listing-same (holder m ws) (λ p. p) 0 m (λ p le lt. holders p (omega arith)) ∙ listing-counted 0 m

  pub laid_board : board_of m ws ≡ empty_board m
  laid_board = λ i. record { netlist = laid_netlist i; order = laid_order i }

  no_pin : (q : ℕ) → pin m ws q ≡ 0
  no_pin q = zeros (6 * m + q) (inr (omega arith))

  laid_chained : Chained m ws
  laid_chained = record {
    long = long;
    within = λ q lt. omega (arith, no_pin q);
    firsts = λ a lt.
        subst (Least (pin m ws) (4 * m) (suc a) 0) (sym (zeros (5 * m + a) (inr (omega arith)))) (λ q le below e. omega (arith, no_pin q));
    nexts = λ q lt some. absurd (omega (arith, no_pin q));
    backs = λ q lt some. absurd (omega (arith, no_pin q));
  }

  laid_sound : Sound m ws
  laid_sound = record {
    chained = laid_chained;
    spelled = λ s i lt few. no_pin (4 * s + i) ∙ sym (ap (λ d. pin_word (pins_of d) i) (laid_driver s lt));
    seated = λ s lt. seats s lt ∙ sym (ap (λ o. place o s) laid_order ∙ place-first m s lt);
  }

  pub laid_stands : Stands m ws
  laid_stands = record {
    sound = laid_sound;
    permutes = subst (Arranges m) (sym laid_order) (first_permutes m);
    ordered = subst (λ n. Ordered n (order_of m ws)) (sym laid_netlist) (empty_ordered m (order_of m ws));
    fits = λ s lt. subst Fitting (sym (laid_driver s lt)) tt;
  }
