-- Where a number stands in a list, in its parts and in what a test leaves of it.
use Rattle.std.proofs.Common.{◌≡◌, ℕ, zero, suc, ◌+◌, ◌<◌, ◌≤◌, Bool, true, false, cond, not, eqb, ◌⊎◌, List, [], ◌∷◌, ◌++◌, length, get_or, sym, refl, ap, ◌∙◌, subst, inl, inr, ⊎_elim, arith}
use Rattle.std.proofs.lemmas.Bool.{cases_lt, both_ways, eqb-true, eqb-false, eq-eqb, ne_eqb, cond-true, cond-false}
use Rattle.reach.specs.Reach.{Among}
use Rattle.netlist.specs.Netlist.{Different}
use Rattle.netlist.specs.Places.{place, those}

-- ---- being among the numbers of a list

pub among_left : (s : ℕ) (xs ys : List ℕ) → Among s xs → Among s (xs ++ ys)
among_left s [] ys a = absurd a
among_left s (x ∷ xs) ys (inl e) = inl e
among_left s (x ∷ xs) ys (inr a) = inr (among_left s xs ys a)

pub among_right : (s : ℕ) (xs ys : List ℕ) → Among s ys → Among s (xs ++ ys)
among_right s [] ys a = a
among_right s (x ∷ xs) ys a = inr (among_right s xs ys a)

pub among_parts : (s : ℕ) (xs ys : List ℕ) → Among s (xs ++ ys) → Among s xs ⊎ Among s ys
among_parts s [] ys a = inr a
among_parts s (x ∷ xs) ys (inl e) = inl (inl e)
among_parts s (x ∷ xs) ys (inr a) = ⊎_elim (λ b. inl (inr b)) (λ b. inr b) (among_parts s xs ys a)

pub among_at : (xs : List ℕ) (k : ℕ) → k < length xs → Among (get_or xs k 0) xs
among_at [] k h = absurd (omega arith)
among_at (x ∷ xs) zero h = inl refl
among_at (x ∷ xs) (suc k) h = inr (among_at xs k (omega arith))

pub among_those : (f : ℕ → Bool) (s : ℕ) (xs : List ℕ) → f s ≡ true → Among s xs → Among s (those f xs)
among_those f s [] e a = absurd a
among_those f s (x ∷ xs) e a = go (f x) refl (among_those f s xs e) a
  where
    go : (b : Bool) → f x ≡ b → (Among s xs → Among s (those f xs)) → (s ≡ x) ⊎ Among s xs → Among s (cond b (x ∷ those f xs) (those f xs))
    go true t rest (inl p) = inl p
    go true t rest (inr p) = inr (rest p)
    go false t rest (inl p) = absurd (both_ways (f x) t (subst (λ z. f z ≡ true) p e))
    go false t rest (inr p) = rest p

pub those_among : (f : ℕ → Bool) (s : ℕ) (xs : List ℕ) → Among s (those f xs) → (f s ≡ true) × Among s xs
those_among f s [] a = absurd a
those_among f s (x ∷ xs) a = go (f x) refl (λ p. let rest = those_among f s xs p in (rest.0, inr rest.1)) a
  where
    go : (b : Bool) → f x ≡ b → (Among s (those f xs) → (f s ≡ true) × Among s (x ∷ xs)) → Among s (cond b (x ∷ those f xs) (those f xs)) →
        (f s ≡ true) × Among s (x ∷ xs)
    go true t later (inl p) = (subst (λ z. f z ≡ true) (sym p) t, inl p)
    go true t later (inr p) = later p
    go false t later p = later p

pub length-those : (f : ℕ → Bool) (xs : List ℕ) → length (those (λ x. not (f x)) xs) + length (those f xs) ≡ length xs
length-those f [] = refl
length-those f (x ∷ xs) = go (f x) (length-those f xs)
  where
    go : (b : Bool) → length (those (λ x. not (f x)) xs) + length (those f xs) ≡ length xs →
        length (cond (not b) (x ∷ those (λ x. not (f x)) xs) (those (λ x. not (f x)) xs)) + length (cond b (x ∷ those f xs) (those f xs)) ≡ suc (length xs)
    go true h = omega arith
    go false h = omega arith

-- ---- places

pub place-le : (xs : List ℕ) (s : ℕ) → place xs s ≤ length xs
place-le [] s = omega arith
place-le (x ∷ xs) s = go (eqb x s) (place-le xs s)
  where
    go : (b : Bool) → place xs s ≤ length xs → cond b 0 (suc (place xs s)) ≤ suc (length xs)
    go true h = omega arith
    go false h = omega arith

pub place_in : (xs : List ℕ) (s : ℕ) → Among s xs → place xs s < length xs
place_in [] s a = absurd a
place_in (x ∷ xs) s a = go (eqb x s) refl (place_in xs s) a
  where
    go : (b : Bool) → eqb x s ≡ b → (Among s xs → place xs s < length xs) → (s ≡ x) ⊎ Among s xs → cond b 0 (suc (place xs s)) < suc (length xs)
    go true e rest h = omega arith
    go false e rest (inl p) = absurd (eqb-false x s e (sym p))
    go false e rest (inr p) = omega (arith, rest p)

pub in_place : (xs : List ℕ) (s : ℕ) → place xs s < length xs → Among s xs
in_place [] s h = absurd (omega arith)
in_place (x ∷ xs) s h = go (eqb x s) refl (in_place xs s) h
  where
    go : (b : Bool) → eqb x s ≡ b → (place xs s < length xs → Among s xs) → cond b 0 (suc (place xs s)) < suc (length xs) → Among s (x ∷ xs)
    go true e rest h = inl (sym (eqb-true x s e))
    go false e rest h = inr (rest (omega arith))

pub at_place : (xs : List ℕ) (s : ℕ) → Among s xs → get_or xs (place xs s) 0 ≡ s
at_place [] s a = absurd a
at_place (x ∷ xs) s a = go (eqb x s) refl (at_place xs s) a
  where
    go : (b : Bool) → eqb x s ≡ b → (Among s xs → get_or xs (place xs s) 0 ≡ s) → (s ≡ x) ⊎ Among s xs →
        get_or (x ∷ xs) (cond b 0 (suc (place xs s))) 0 ≡ s
    go true e rest h = eqb-true x s e
    go false e rest (inl p) = absurd (eqb-false x s e (sym p))
    go false e rest (inr p) = rest p

-- of different numbers each stands at its own place only
pub place_at : (xs : List ℕ) → Different xs → (k : ℕ) → k < length xs → place xs (get_or xs k 0) ≡ k
place_at [] d k h = absurd (omega arith)
place_at (x ∷ xs) d zero h = cond-true (eqb x x) _ _ (eq-eqb x x refl)
place_at (x ∷ xs) d (suc k) h =
    let inside : k < length xs = omega arith in
    cond-false (eqb x (get_or xs k 0)) _ _ (ne_eqb x (get_or xs k 0) (λ e. d.0 (subst (λ z. Among z xs) (sym e) (among_at xs k inside))))
    ∙ ap suc (place_at xs d.1 k inside)

-- numbers of which each stands at its own place are different
pub different_at : (xs : List ℕ) → ((k : ℕ) → k < length xs → place xs (get_or xs k 0) ≡ k) → Different xs
different_at [] once = tt
different_at (x ∷ xs) once = (
  λ a.
      let inside = place_in xs x a in
      let here : place (x ∷ xs) (get_or xs (place xs x) 0) ≡ suc (place xs x) = once (suc (place xs x)) (omega arith) in
      let first : place (x ∷ xs) x ≡ 0 = cond-true (eqb x x) _ _ (eq-eqb x x refl) in
      omega (arith, here, first, ap (place (x ∷ xs)) (at_place xs x a)),
  different_at xs (λ k h.
      let same : place (x ∷ xs) (get_or xs k 0) ≡ suc k = once (suc k) (omega arith) in
      go (eqb x (get_or xs k 0)) k same),
)
  where
    go : (b : Bool) (k : ℕ) → cond b 0 (suc (place xs (get_or xs k 0))) ≡ suc k → place xs (get_or xs k 0) ≡ k
    go true k e = absurd (omega arith)
    go false k e = omega arith

-- ---- places in two lists, one behind the other

pub place-left : (xs ys : List ℕ) (s : ℕ) → Among s xs → place (xs ++ ys) s ≡ place xs s
place-left [] ys s a = absurd a
place-left (x ∷ xs) ys s a = go (eqb x s) refl (place-left xs ys s) a
  where
    go : (b : Bool) → eqb x s ≡ b → (Among s xs → place (xs ++ ys) s ≡ place xs s) → (s ≡ x) ⊎ Among s xs →
        cond b 0 (suc (place (xs ++ ys) s)) ≡ cond b 0 (suc (place xs s))
    go true e rest h = refl
    go false e rest (inl p) = absurd (eqb-false x s e (sym p))
    go false e rest (inr p) = ap suc (rest p)

pub place_right : (xs ys : List ℕ) (s : ℕ) → (Among s xs → ⊥) → place (xs ++ ys) s ≡ length xs + place ys s
place_right [] ys s out = omega arith
place_right (x ∷ xs) ys s out =
    cond-false (eqb x s) _ _ (ne_eqb x s (λ e. out (inl (sym e)))) ∙ ap suc (place_right xs ys s (λ a. out (inr a))) ∙ omega arith

pub cases_among : (s : ℕ) (xs : List ℕ) → Among s xs ⊎ (Among s xs → ⊥)
cases_among s xs = ⊎_elim (λ h. inl (in_place xs s h)) (λ h. inr (λ a. let p = place_in xs s a in omega arith)) (cases_lt (place xs s) (length xs))

-- ---- different numbers

pub different_left : (xs ys : List ℕ) → Different (xs ++ ys) → Different xs
different_left [] ys d = tt
different_left (x ∷ xs) ys d = (λ a. d.0 (among_left x xs ys a), different_left xs ys d.1)

pub different_right : (xs ys : List ℕ) → Different (xs ++ ys) → Different ys
different_right [] ys d = d
different_right (x ∷ xs) ys d = different_right xs ys d.1

pub apart : (xs ys : List ℕ) → Different (xs ++ ys) → (s : ℕ) → Among s xs → Among s ys → ⊥
apart [] ys d s a b = a
apart (x ∷ xs) ys d s (inl e) b = d.0 (subst (λ z. Among z (xs ++ ys)) e (among_right s xs ys b))
apart (x ∷ xs) ys d s (inr a) b = apart xs ys d.1 s a b

pub different_both : (xs ys : List ℕ) → Different xs → Different ys → ((s : ℕ) → Among s xs → Among s ys → ⊥) → Different (xs ++ ys)
different_both [] ys d e out = e
different_both (x ∷ xs) ys d e out = (
  λ a. ⊎_elim d.0 (out x (inl refl)) (among_parts x xs ys a),
  different_both xs ys d.1 e (λ s a b. out s (inr a) b),
)

pub different_those : (f : ℕ → Bool) (xs : List ℕ) → Different xs → Different (those f xs)
different_those f [] d = tt
different_those f (x ∷ xs) d = go (f x) (different_those f xs d.1)
  where
    go : (b : Bool) → Different (those f xs) → Different (cond b (x ∷ those f xs) (those f xs))
    go true h = (λ a. d.0 (those_among f x xs a).1, h)
    go false h = h

-- ---- what stands before what

-- a test keeps the order of two that pass it
pub those-before : (f : ℕ → Bool) (xs : List ℕ) (x y : ℕ) → f x ≡ true → f y ≡ true → place xs x < place xs y → place (those f xs) x < place (those f xs) y
those-before f [] x y fx fy h = h
those-before f (z ∷ xs) x y fx fy h = go (f z) (eqb z x) (eqb z y) refl refl refl (those-before f xs x y fx fy) h
  where
    go : (b p q : Bool) → f z ≡ b → eqb z x ≡ p → eqb z y ≡ q → (place xs x < place xs y → place (those f xs) x < place (those f xs) y) →
        cond p 0 (suc (place xs x)) < cond q 0 (suc (place xs y)) → place (cond b (z ∷ those f xs) (those f xs)) x < place (cond b (z ∷ those f xs) (those f xs)) y
    go b true true t e g rest h = absurd (omega arith)
    go b false true t e g rest h = absurd (omega arith)
    go true true false t e g rest h = omega (arith, cond-true (eqb z x) 0 (suc (place (those f xs) x)) e, cond-false (eqb z y) 0 (suc (place (those f xs) y)) g)
    go true false false t e g rest h =
        omega (arith, rest (omega arith), cond-false (eqb z x) 0 (suc (place (those f xs) x)) e, cond-false (eqb z y) 0 (suc (place (those f xs) y)) g)
    go false true false t e g rest h = absurd (both_ways (f z) t (subst (λ w. f w ≡ true) (sym (eqb-true z x e)) fx))
    go false false false t e g rest h = rest (omega arith)
