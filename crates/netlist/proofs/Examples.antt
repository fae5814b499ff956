-- The worked cases hold of the rules.
use Rattle.std.proofs.Common.{◌≡◌, ℕ, zero, suc, ◌<◌, ◌≤◌, Bool, ◌||◌, eqb, ◌⊎◌, List, [], ◌∷◌, sym, refl, ap, subst, inl, inr, ⊎_elim, arith}
use Rattle.std.proofs.lemmas.Bool.{or_cases, or_left, or_right, eqb-true, eq-eqb}
use Rattle.reach.specs.Reach.{Among}
use Rattle.netlist.specs.declared.edit.Edit.TheVariants.{Input, Move}
use Rattle.netlist.specs.Netlist.{Netlist, absent, input, driver_of, Feeds, Leads, here, onward, Loop, SmallestFirst}
use Rattle.netlist.specs.Places.{Order, place, Ordered, Moves}
use Rattle.netlist.specs.Edits.{Board, Applies, no_batch, no_signal, out_of_range, driven, wrong_kind, no_pin, in_use, looped, empty_board, asked}
use Rattle.netlist.specs.Laws.{Worked, follower}
use Rattle.netlist.proofs.Loops.{order-excludes-loops}

abbrev before : Order
before = 0 ∷ 1 ∷ 2 ∷ 3 ∷ 4 ∷ []

abbrev after : Order
after = 0 ∷ 3 ∷ 4 ∷ 1 ∷ 2 ∷ []

abbrev board₁ : Board
board₁ = record { netlist = asked (empty_board 5).netlist (Input 0); order = before }

abbrev board₂ : Board
board₂ = record { netlist = asked board₁.netlist (follower 4 0); order = before }

abbrev board₃ : Board
board₃ = record { netlist = asked board₂.netlist (follower 2 1); order = before }

abbrev board₄ : Board
board₄ = record { netlist = asked board₃.netlist (follower 1 4); order = after }

-- ---- each board stands in its order, so it has no loop

ordered₁ : Ordered board₁.netlist before
ordered₁ a zero h = absurd h
ordered₁ a (suc zero) h = absurd h
ordered₁ a (suc (suc zero)) h = absurd h
ordered₁ a (suc (suc (suc zero))) h = absurd h
ordered₁ a (suc (suc (suc (suc zero)))) h = absurd h
ordered₁ a (suc (suc (suc (suc (suc s))))) h = absurd h

ordered₂ : Ordered board₂.netlist before
ordered₂ a zero h = absurd h
ordered₂ a (suc zero) h = absurd h
ordered₂ a (suc (suc zero)) h = absurd h
ordered₂ a (suc (suc (suc zero))) h = absurd h
ordered₂ a (suc (suc (suc (suc zero)))) (inl is) = subst (λ x. place before x < place before 4) (sym is) (omega arith)
ordered₂ a (suc (suc (suc (suc zero)))) (inr none) = absurd none
ordered₂ a (suc (suc (suc (suc (suc s))))) h = absurd h

ordered₃ : Ordered board₃.netlist before
ordered₃ a zero h = absurd h
ordered₃ a (suc zero) h = absurd h
ordered₃ a (suc (suc zero)) (inl is) = subst (λ x. place before x < place before 2) (sym is) (omega arith)
ordered₃ a (suc (suc zero)) (inr none) = absurd none
ordered₃ a (suc (suc (suc zero))) h = absurd h
ordered₃ a (suc (suc (suc (suc zero)))) (inl is) = subst (λ x. place before x < place before 4) (sym is) (omega arith)
ordered₃ a (suc (suc (suc (suc zero)))) (inr none) = absurd none
ordered₃ a (suc (suc (suc (suc (suc s))))) h = absurd h

ordered₄ : Ordered board₄.netlist after
ordered₄ a zero h = absurd h
ordered₄ a (suc zero) (inl is) = subst (λ x. place after x < place after 1) (sym is) (omega arith)
ordered₄ a (suc zero) (inr none) = absurd none
ordered₄ a (suc (suc zero)) (inl is) = subst (λ x. place after x < place after 2) (sym is) (omega arith)
ordered₄ a (suc (suc zero)) (inr none) = absurd none
ordered₄ a (suc (suc (suc zero))) h = absurd h
ordered₄ a (suc (suc (suc (suc zero)))) (inl is) = subst (λ x. place after x < place after 4) (sym is) (omega arith)
ordered₄ a (suc (suc (suc (suc zero)))) (inr none) = absurd none
ordered₄ a (suc (suc (suc (suc (suc s))))) h = absurd h

-- ---- what is reached from 1

onward_from : (b c : ℕ) → (b ≡ 1) ⊎ (b ≡ 2) → Feeds board₄.netlist b c → (c ≡ 1) ⊎ (c ≡ 2)
onward_from b zero from h = absurd h
onward_from b (suc zero) from (inl is) = absurd (⊎_elim (λ one. omega arith) (λ two. omega arith) from)
onward_from b (suc zero) from (inr none) = absurd none
onward_from b (suc (suc zero)) from h = inr refl
onward_from b (suc (suc (suc zero))) from h = absurd h
onward_from b (suc (suc (suc (suc zero)))) from (inl is) = absurd (⊎_elim (λ one. omega arith) (λ two. omega arith) from)
onward_from b (suc (suc (suc (suc zero)))) from (inr none) = absurd none
onward_from b (suc (suc (suc (suc (suc c))))) from h = absurd h

reached : (x : ℕ) → Leads board₄.netlist 1 x → (x ≡ 1) ⊎ (x ≡ 2)
reached x here = inl refl
reached x (onward {b} {c} way feeds) = onward_from b c (reached b way) feeds

abbrev moved : ℕ → Bool
moved x = eqb x 1 || eqb x 2

moves : Moves board₄.netlist before 1 4 after 2
moves =
    record {
      moving = moved;
      reached = λ x e.
          ⊎_elim
          (λ one. subst (λ y. Leads board₄.netlist 1 y × (place before y ≤ place before 4)) (sym (eqb-true x 1 one)) (here, omega arith))
          (λ two. subst (λ y. Leads board₄.netlist 1 y × (place before y ≤ place before 4)) (sym (eqb-true x 2 two)) (onward here (inl refl), omega arith))
          (or_cases (eqb x 1) (eqb x 2) e);
      all = λ x way _. ⊎_elim (λ one. or_left (eqb x 1) (eqb x 2) (eq-eqb x 1 one)) (λ two. or_right (eqb x 1) (eqb x 2) (eq-eqb x 2 two)) (reached x way);
      filled = refl;
      counts = refl;
    }

-- ---- no refusal

never : ◌≡◌ {A = ℕ} 1 0 → ⊥
never e = omega arith

pub allowed-input : (k : ℕ) → Applies 5 1 (empty_board 5).netlist (Input 0) k → ⊥
allowed-input k (no_batch e) = never e
allowed-input k (no_signal (inl h)) = omega arith
allowed-input k (no_signal (inr h)) = h
allowed-input k (out_of_range h) = h
allowed-input k (driven h) = h refl
allowed-input k (wrong_kind h) = h
allowed-input k (no_pin h) = h
allowed-input k (in_use h) = h
allowed-input k (looped xs loop) = order-excludes-loops board₁.netlist before xs ordered₁ loop

-- a gate of one pin may come where nothing drives, if an order of what it asks for has it behind what feeds it
allowed_follower :
    (n : Netlist) (s a : ℕ) (o : Order) → s < 5 → a < 5 → driver_of n s ≡ absent → Ordered (asked n (follower s a)) o
    → (k : ℕ) → Applies 5 1 n (follower s a) k → ⊥
allowed_follower n s a o s_in a_in free ordered k (no_batch e) = never e
allowed_follower n s a o s_in a_in free ordered k (no_signal (inl h)) = omega arith
allowed_follower n s a o s_in a_in free ordered k (no_signal (inr (inl h))) = omega arith
allowed_follower n s a o s_in a_in free ordered k (no_signal (inr (inr h))) = h
allowed_follower n s a o s_in a_in free ordered k (out_of_range (inl h)) = omega arith
allowed_follower n s a o s_in a_in free ordered k (out_of_range (inr h)) = omega arith
allowed_follower n s a o s_in a_in free ordered k (driven h) = h free
allowed_follower n s a o s_in a_in free ordered k (wrong_kind h) = h
allowed_follower n s a o s_in a_in free ordered k (no_pin h) = h
allowed_follower n s a o s_in a_in free ordered k (in_use h) = h
allowed_follower n s a o s_in a_in free ordered k (looped xs loop) = order-excludes-loops (asked n (follower s a)) o xs ordered loop

-- ---- refusals

-- what can be refused before a loop of a moved pin of signal 4 to a, which is below 5
before_loop : (a : ℕ) → a < 5 → (k : ℕ) → k < 25 → Applies 5 1 board₄.netlist (Move 4 0 a) k → ⊥
before_loop a below k less (no_batch e) = never e
before_loop a below k less (no_signal (inl h)) = omega arith
before_loop a below k less (no_signal (inr (inl h))) = omega arith
before_loop a below k less (no_signal (inr (inr h))) = h
before_loop a below k less (out_of_range h) = h
before_loop a below k less (driven h) = h
before_loop a below k less (wrong_kind h) = h tt
before_loop a below k less (no_pin h) = omega arith
before_loop a below k less (in_use h) = h
before_loop a below k less (looped xs loop) = omega arith

different : (x y : ℕ) → (x ≡ y → ⊥) → Among x (y ∷ []) → ⊥
different x y ne (inl e) = ne e
different x y ne (inr none) = none

loop_three : Loop (asked board₄.netlist (Move 4 0 2)) (1 ∷ 2 ∷ 4 ∷ [])
loop_three = (
  ((λ h. ⊎_elim (λ e. omega arith) (λ h'. different 1 4 (λ e. omega arith) h') h), ((λ h. different 2 4 (λ e. omega arith) h), ((λ none. none), tt))),
  (inl refl, (inl refl, inl refl)),
)

loop_one : Loop (asked board₄.netlist (Move 4 0 4)) (4 ∷ [])
loop_one = (((λ none. none), tt), inl refl)

-- ---- no other loop

-- what feeds what once the pin of 4 is moved to 2
three-feeds : (a c : ℕ) → Feeds (asked board₄.netlist (Move 4 0 2)) a c → ((a ≡ 4) × (c ≡ 1)) ⊎ (((a ≡ 1) × (c ≡ 2)) ⊎ ((a ≡ 2) × (c ≡ 4)))
three-feeds a zero h = absurd h
three-feeds a (suc zero) (inl is) = inl (is, refl)
three-feeds a (suc zero) (inr none) = absurd none
three-feeds a (suc (suc zero)) (inl is) = inr (inl (is, refl))
three-feeds a (suc (suc zero)) (inr none) = absurd none
three-feeds a (suc (suc (suc zero))) h = absurd h
three-feeds a (suc (suc (suc (suc zero)))) (inl is) = inr (inr (is, refl))
three-feeds a (suc (suc (suc (suc zero)))) (inr none) = absurd none
three-feeds a (suc (suc (suc (suc (suc c))))) h = absurd h

no-other-of-three : (xs : List ℕ) → Loop (asked board₄.netlist (Move 4 0 2)) xs → SmallestFirst xs → xs ≡ 1 ∷ 2 ∷ 4 ∷ []
no-other-of-three [] loop small = absurd loop
no-other-of-three (x ∷ []) loop small = let one = three-feeds x x loop.1 in absurd (grind arith)
no-other-of-three (x ∷ (y ∷ [])) loop small =
    let one = three-feeds x y loop.1.0 in
    let two = three-feeds y x loop.1.1 in
    absurd (grind arith)
no-other-of-three (x ∷ (y ∷ (z ∷ []))) loop small =
    let one = three-feeds x y loop.1.0 in
    let two = three-feeds y z loop.1.1.0 in
    let three = three-feeds z x loop.1.1.1 in
    let least : x ≤ y = small y (inl refl) in
    let least' : x ≤ z = small z (inr (inl refl)) in
    let a : x ≡ 1 = grind arith in
    let b : y ≡ 2 = grind arith in
    let c : z ≡ 4 = grind arith in
    λ i. a i ∷ b i ∷ c i ∷ []
no-other-of-three (x ∷ (y ∷ (z ∷ (w ∷ ws)))) loop small =
    let one = three-feeds x y loop.1.0 in
    let two = three-feeds y z loop.1.1.0 in
    let three = three-feeds z w loop.1.1.1.0 in
    let again : x ≡ w = grind arith in
    absurd (loop.0.0 (inr (inr (inl again))))

-- what feeds what once it is moved to itself
one-feeds : (a c : ℕ) → Feeds (asked board₄.netlist (Move 4 0 4)) a c → ((a ≡ 4) × (c ≡ 1)) ⊎ (((a ≡ 1) × (c ≡ 2)) ⊎ ((a ≡ 4) × (c ≡ 4)))
one-feeds a zero h = absurd h
one-feeds a (suc zero) (inl is) = inl (is, refl)
one-feeds a (suc zero) (inr none) = absurd none
one-feeds a (suc (suc zero)) (inl is) = inr (inl (is, refl))
one-feeds a (suc (suc zero)) (inr none) = absurd none
one-feeds a (suc (suc (suc zero))) h = absurd h
one-feeds a (suc (suc (suc (suc zero)))) (inl is) = inr (inr (is, refl))
one-feeds a (suc (suc (suc (suc zero)))) (inr none) = absurd none
one-feeds a (suc (suc (suc (suc (suc c))))) h = absurd h

no-other-of-one : (xs : List ℕ) → Loop (asked board₄.netlist (Move 4 0 4)) xs → xs ≡ 4 ∷ []
no-other-of-one [] loop = absurd loop
no-other-of-one (x ∷ []) loop =
    let one = one-feeds x x loop.1 in
    let is : x ≡ 4 = grind arith in
    ap (λ y. y ∷ []) is
no-other-of-one (x ∷ (y ∷ [])) loop =
    let one = one-feeds x y loop.1.0 in
    let two = one-feeds y x loop.1.1 in
    let again : x ≡ y = grind arith in
    absurd (loop.0.0 (inl again))
no-other-of-one (x ∷ (y ∷ (z ∷ []))) loop =
    let one = one-feeds x y loop.1.0 in
    let two = one-feeds y z loop.1.1.0 in
    let three = one-feeds z x loop.1.1.1 in
    let again : x ≡ y = grind arith in
    absurd (loop.0.0 (inl again))
no-other-of-one (x ∷ (y ∷ (z ∷ (w ∷ ws)))) loop =
    let one = one-feeds x y loop.1.0 in
    let two = one-feeds y z loop.1.1.0 in
    let three = one-feeds z w loop.1.1.1.0 in
    let again : x ≡ y = grind arith in
    absurd (loop.0.0 (inl again))

driven_now : input ≡ absent → ⊥
driven_now e = let z : ◌≡◌ {A = ℕ} 0 1 = cc in omega arith

before-driven : (k : ℕ) → k < 14 → Applies 5 1 board₁.netlist (Input 0) k → ⊥
before-driven k less (no_batch e) = never e
before-driven k less (no_signal (inl h)) = omega arith
before-driven k less (no_signal (inr h)) = h
before-driven k less (out_of_range h) = h
before-driven k less (driven h) = omega arith
before-driven k less (wrong_kind h) = h
before-driven k less (no_pin h) = h
before-driven k less (in_use h) = h
before-driven k less (looped xs loop) = omega arith

pub worked : Worked
worked =
    record {
      first = board₁;
      second = board₂;
      third = board₃;
      fourth = board₄;
      input_zero = (allowed-input, refl, (refl, refl));
      four_on_zero = (allowed_follower board₁.netlist 4 0 before (omega arith) (omega arith) refl ordered₂, refl, (before, 0, 0, ((λ _. (refl, refl)), (λ h. absurd (omega arith))), (refl, refl), refl));
      two_on_one = (allowed_follower board₂.netlist 2 1 before (omega arith) (omega arith) refl ordered₃, refl, (before, 0, 0, ((λ _. (refl, refl)), (λ h. absurd (omega arith))), (refl, refl), refl));
      one_on_four = (allowed_follower board₃.netlist 1 4 after (omega arith) (omega arith) refl ordered₄, refl, (after, 2, 0, ((λ h. absurd (omega arith)), (λ _. moves)), (refl, refl), refl));
      order_then = refl;
      four_to_two = (looped (1 ∷ 2 ∷ 4 ∷ []) loop_three, before_loop 2 (omega arith), refl);
      loop_of_three = loop_three;
      no_other_of_three = no-other-of-three;
      four_to_itself = (looped (4 ∷ []) loop_one, before_loop 4 (omega arith), refl);
      loop_of_one = loop_one;
      no_other_of_one = no-other-of-one;
      input_again = (driven driven_now, before-driven, refl);
    }
