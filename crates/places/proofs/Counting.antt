-- How many numbers are flagged.
use Rattle.std.proofs.Common.{◌≡◌, ℕ, zero, suc, ◌+◌, ◌<◌, Bool, true, false, cond, not, eqb, ltb, List, [], ◌∷◌, length, get_or, set, MatchBool, sym, refl, ap, ◌∙◌, subst, inl, inr, ⊎_elim, arith}
use Rattle.std.proofs.lemmas.List.{get_or_past, get_or-set_other, get_or-set_same, set_past}
use Rattle.std.proofs.lemmas.Bool.{cases_lt, cases_eq, eq-eqb, ne_eqb, cond-true, cond-false, lt-ltb, le-ltb, both_ways}
use Rattle.reach.specs.Reach.{Among}
use Rattle.reach.specs.Flags.{marked}
use Rattle.netlist.specs.Netlist.{Different}
use Rattle.netlist.specs.Places.{those}
use Rattle.places.specs.Refill.{flagged}

-- a flag is set
abbrev up : List ℕ → ℕ → Bool
up flags x = not (eqb (get_or flags x 0) 0)

none-marked : (flags : List ℕ) → ((k : ℕ) → get_or flags k 0 ≡ 0) → marked flags ≡ 0
none-marked [] none = refl
none-marked (b ∷ bs) none = cond-true (eqb b 0) _ _ (eq-eqb b 0 (none 0)) ∙ none-marked bs (λ k. none (suc k))

-- one flag taken down
marked_less : (flags : List ℕ) (x : ℕ) → marked flags ≡ cond (up flags x) 1 0 + marked (set flags x 0)
marked_less [] x = refl
marked_less (b ∷ bs) zero = go (eqb b 0)
  where
    go : (t : Bool) → cond t (marked bs) (suc (marked bs)) ≡ cond (not t) 1 0 + marked bs
    go true = omega arith
    go false = omega arith
marked_less (b ∷ bs) (suc x) = go (eqb b 0) (marked_less bs x)
  where
    go : (t : Bool) → marked bs ≡ cond (up bs x) 1 0 + marked (set bs x 0) →
        cond t (marked bs) (suc (marked bs)) ≡ cond (up bs x) 1 0 + cond t (marked (set bs x 0)) (suc (marked (set bs x 0)))
    go true e = e
    go false e = omega arith

pub those_alike : (f g : ℕ → Bool) (xs : List ℕ) → ((x : ℕ) → Among x xs → f x ≡ g x) → those f xs ≡ those g xs
those_alike f g [] same = refl
those_alike f g (x ∷ xs) same = λ i. cond (same x (inl refl) i) (x ∷ those_alike f g xs (λ y a. same y (inr a)) i) (those_alike f g xs (λ y a. same y (inr a)) i)

-- the flag taken down is down
down_same : (flags : List ℕ) (x : ℕ) → get_or (set flags x 0) x 0 ≡ 0
down_same flags x =
    ⊎_elim (λ lt. get_or-set_same flags x 0 0 lt) (λ le. ap (λ l. get_or l x 0) (set_past flags x 0 le) ∙ get_or_past flags x 0 le) (cases_lt x (length flags))

-- Different numbers among which is every one that is flagged: as many of them are flagged as flags are set.
pub marked-those : (xs flags : List ℕ) → Different xs → ((x : ℕ) → (get_or flags x 0 ≡ 0 → ⊥) → Among x xs) → marked flags ≡ length (those (up flags) xs)
marked-those [] flags d all = none-marked flags (λ k. ⊎_elim (λ e. e) (λ e. absurd (all k e)) (cases_eq (get_or flags k 0) 0))
marked-those (x ∷ xs) flags d all =
    marked_less flags x
    ∙ ap (λ n. cond (up flags x) 1 0 + n) (marked-those xs (set flags x 0) d.1 left ∙ ap length same)
    ∙ go (up flags x)
  where
    left : (y : ℕ) → (get_or (set flags x 0) y 0 ≡ 0 → ⊥) → Among y xs
    left y lit =
        ⊎_elim
        (λ e. absurd (lit (ap (λ z. get_or (set flags x 0) z 0) e ∙ down_same flags x)))
        (λ ne. ⊎_elim (λ e. absurd (ne e)) (λ a. a) (all y (λ e. lit (get_or-set_other flags x y 0 0 ne ∙ e))))
        (cases_eq y x)

    same : those (up (set flags x 0)) xs ≡ those (up flags) xs
    same =
        those_alike (up (set flags x 0)) (up flags) xs
        (λ y a. ap (λ b. not (eqb b 0)) (get_or-set_other flags x y 0 0 (λ e. d.0 (subst (λ z. Among z xs) e a))))

    go : (t : Bool) → cond t 1 0 + length (those (up flags) xs) ≡ length (cond t (x ∷ those (up flags) xs) (those (up flags) xs))
    go true = omega arith
    go false = omega arith

-- ---- the test that the search answers

pub flagged-up : (flags : List ℕ) → length flags ≡ 1024 → (x : ℕ) → flagged flags x ≡ up flags x
flagged-up flags long x =
    ⊎_elim
    (λ lt. cond-true (ltb x 1024) _ _ (lt-ltb x 1024 lt))
    (λ le. cond-false (ltb x 1024) _ _ (le-ltb x 1024 le) ∙ sym (ap (λ b. not (eqb b 0)) (get_or_past flags x 0 (omega arith))))
    (cases_lt x 1024)

-- a flag that is set, by the test
pub flagged-set : (flags : List ℕ) (x : ℕ) → x < 1024 → (get_or flags x 0 ≡ 0 → ⊥) → flagged flags x ≡ true
flagged-set flags x lt set = cond-true (ltb x 1024) _ _ (lt-ltb x 1024 lt) ∙ ap not (ne_eqb (get_or flags x 0) 0 set)

pub set-flagged : (flags : List ℕ) (x : ℕ) → flagged flags x ≡ true → (x < 1024) × (get_or flags x 0 ≡ 0 → ⊥)
set-flagged flags x e =
    ⊎_elim
    (λ lt. (lt, λ zero. both_ways (flagged flags x) (cond-true (ltb x 1024) _ _ (lt-ltb x 1024 lt) ∙ ap not (eq-eqb (get_or flags x 0) 0 zero)) e))
    (λ le. absurd (both_ways (flagged flags x) (cond-false (ltb x 1024) _ _ (le-ltb x 1024 le)) e))
    (cases_lt x 1024)

-- what the search answers of a number
abbrev pub Told : List ℕ → ℕ → Bool → Type 0
Told flags x r = MatchBool r ((x < 1024) × (get_or flags x 0 ≡ 0 → ⊥)) (x < 1024 → get_or flags x 0 ≡ 0)

pub told-flagged : (flags : List ℕ) (x : ℕ) (r : Bool) → Told flags x r → flagged flags x ≡ r
told-flagged flags x true h = flagged-set flags x h.0 h.1
told-flagged flags x false h =
    ⊎_elim
    (λ lt. cond-true (ltb x 1024) _ _ (lt-ltb x 1024 lt) ∙ ap not (eq-eqb (get_or flags x 0) 0 (h lt)))
    (λ le. cond-false (ltb x 1024) _ _ (le-ltb x 1024 le))
    (cases_lt x 1024)
