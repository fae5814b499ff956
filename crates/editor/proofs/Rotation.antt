-- A loop that is turned is a loop.
use Rattle.std.proofs.Common.{◌≡◌, ℕ, suc, ◌+◌, ◌<◌, ◌≤◌, ◌⊎◌, List, [], ◌∷◌, ◌++◌, length, get_or, take, drop, sym, refl, ap, ◌∙◌, subst, inl, inr, ⊎_elim, arith}
use Rattle.std.proofs.lemmas.List.{append-nil, take_all, take-append-drop, drop_all, drop_more}
use Rattle.std.specs.List.{refill}
use Rattle.reach.specs.Reach.{Among}
use Rattle.netlist.specs.Netlist.{Netlist, Different, Feeding, Loop, SmallestFirst}

-- ---- numbers among a list

among_parts : (y : ℕ) (xs ys : List ℕ) → Among y (xs ++ ys) → Among y xs ⊎ Among y ys
among_parts y [] ys h = inr h
among_parts y (x ∷ xs) ys (inl e) = inl (inl e)
among_parts y (x ∷ xs) ys (inr h) = ⊎_elim (λ a. inl (inr a)) (λ b. inr b) (among_parts y xs ys h)

among_left : (y : ℕ) (xs ys : List ℕ) → Among y xs → Among y (xs ++ ys)
among_left y [] ys h = absurd h
among_left y (x ∷ xs) ys (inl e) = inl e
among_left y (x ∷ xs) ys (inr h) = inr (among_left y xs ys h)

among_right : (y : ℕ) (xs ys : List ℕ) → Among y ys → Among y (xs ++ ys)
among_right y [] ys h = h
among_right y (x ∷ xs) ys h = inr (among_right y xs ys h)

among_swap : (y : ℕ) (xs ys : List ℕ) → Among y (ys ++ xs) → Among y (xs ++ ys)
among_swap y xs ys h = ⊎_elim (λ b. among_right y xs ys b) (λ a. among_left y xs ys a) (among_parts y ys xs h)

among_at : (y : ℕ) (xs : List ℕ) → Among y xs → (k : ℕ) × (k < length xs) × (get_or xs k 0 ≡ y)
among_at y [] h = absurd h
among_at y (x ∷ xs) (inl e) = (0, omega arith, sym e)
among_at y (x ∷ xs) (inr h) = let (k, lt, e) = among_at y xs h in (suc k, omega arith, e)

-- ---- different numbers

different_left : (xs ys : List ℕ) → Different (xs ++ ys) → Different xs
different_left [] ys h = tt
different_left (x ∷ xs) ys h = (λ a. h.0 (among_left x xs ys a), different_left xs ys h.1)

different_right : (xs ys : List ℕ) → Different (xs ++ ys) → Different ys
different_right [] ys h = h
different_right (x ∷ xs) ys h = different_right xs ys h.1

different_apart : (xs ys : List ℕ) → Different (xs ++ ys) → (z : ℕ) → Among z xs → Among z ys → ⊥
different_apart [] ys h z a b = a
different_apart (x ∷ xs) ys h z (inl e) b = h.0 (subst (λ w. Among w (xs ++ ys)) e (among_right z xs ys b))
different_apart (x ∷ xs) ys h z (inr a) b = different_apart xs ys h.1 z a b

different_join : (xs ys : List ℕ) → Different xs → Different ys → ((z : ℕ) → Among z xs → Among z ys → ⊥) → Different (xs ++ ys)
different_join [] ys a b apart = b
different_join (x ∷ xs) ys a b apart = (
  λ h. ⊎_elim (λ l. a.0 l) (λ r. apart x (inl refl) r) (among_parts x xs ys h),
  different_join xs ys a.1 b (λ z l r. apart z (inr l) r),
)

different_swap : (xs ys : List ℕ) → Different (xs ++ ys) → Different (ys ++ xs)
different_swap xs ys h = different_join ys xs (different_right xs ys h) (different_left xs ys h) (λ z b a. different_apart xs ys h z a b)

-- ---- each feeds the next

module _ (n : Netlist) (y : ℕ) (ys : List ℕ) (end : ℕ) where
  feeding_parts : (x : ℕ) (xs : List ℕ) → Feeding n (x ∷ (xs ++ y ∷ ys)) end → Feeding n (x ∷ xs) y × Feeding n (y ∷ ys) end
  feeding_parts x [] h = h
  feeding_parts x (z ∷ xs) h = let (a, b) = feeding_parts z xs h.1 in ((h.0, a), b)

  feeding_join : (x : ℕ) (xs : List ℕ) → Feeding n (x ∷ xs) y → Feeding n (y ∷ ys) end → Feeding n (x ∷ (xs ++ y ∷ ys)) end
  feeding_join x [] a b = (a, b)
  feeding_join x (z ∷ xs) a b = (a.0, feeding_join z xs a.1 b)

loop_swap : (n : Netlist) (xs : List ℕ) (y : ℕ) (ys : List ℕ) → Loop n (xs ++ y ∷ ys) → Loop n ((y ∷ ys) ++ xs)
loop_swap n [] y ys h = subst (Loop n) (sym (append-nil (y ∷ ys))) h
loop_swap n (x ∷ xs) y ys h =
    let (a, b) = feeding_parts n y ys x x xs h.1 in
    (different_swap (x ∷ xs) (y ∷ ys) h.0, feeding_join n x xs y y ys b a)

-- ---- a list turned so that the number at a place comes first

abbrev pub turned : ℕ → List ℕ → List ℕ
turned k xs = drop k xs ++ take k xs

loop_some : (n : Netlist) (xs : List ℕ) → Loop n xs → 0 < length xs
loop_some n [] h = absurd h
loop_some n (x ∷ xs) h = omega arith

turned_is : (k : ℕ) (xs : List ℕ) → k < length xs → turned k xs ≡ get_or xs k 0 ∷ (drop (k + 1) xs ++ take k xs)
turned_is k xs lt = ap (λ l. l ++ take k xs) (drop_more xs k 0 lt)

loop_turned : (n : Netlist) (k : ℕ) (xs : List ℕ) → k < length xs → Loop n xs → Loop n (turned k xs)
loop_turned n k xs lt h =
    subst (Loop n) (sym (turned_is k xs lt))
    (loop_swap n (take k xs) (get_or xs k 0) (drop (k + 1) xs)
    (subst (λ l. Loop n (take k xs ++ l)) (drop_more xs k 0 lt) (subst (Loop n) (sym (take-append-drop k xs)) h)))

smallest_turned : (k : ℕ) (xs : List ℕ) → k < length xs → ((j : ℕ) → j < length xs → get_or xs k 0 ≤ get_or xs j 0) → SmallestFirst (turned k xs)
smallest_turned k xs lt least =
    subst SmallestFirst (sym (turned_is k xs lt))
    (λ y h.
    let back : Among y (take k xs ++ drop k xs) = among_swap y (take k xs) (drop k xs) (subst (Among y) (sym (turned_is k xs lt)) (inr h)) in
    let (j, below, e) = among_at y xs (subst (Among y) (take-append-drop k xs) back) in
    omega (arith, least j below, e))

pub shows_loop : (n : Netlist) (k : ℕ) (xs shown : List ℕ) → (0 < length xs → k < length xs) → ((j : ℕ) → j < length xs → get_or xs k 0 ≤ get_or xs j 0)
    → shown ≡ turned k xs → Loop n xs → Loop n shown × SmallestFirst shown
shows_loop n k xs shown one least e h =
    let lt : k < length xs = one (loop_some n xs h) in (
      subst (Loop n) (sym e) (loop_turned n k xs lt h),
      subst SmallestFirst (sym e) (smallest_turned k xs lt least),
    )

-- what is written back over as many numbers is all that is left
pub refilled_whole : (xs ys : List ℕ) → length ys ≡ length xs → refill (length xs) xs ys ≡ ys
refilled_whole xs ys e =
    ap (λ l. take (length xs) (ys ++ l)) (drop_all (length ys) xs (omega (arith, e))) ∙ ap (take (length xs)) (append-nil ys) ∙ take_all (length xs) ys (omega (arith, e))
