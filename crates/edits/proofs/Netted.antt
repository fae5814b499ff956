-- Nets that are not below M.
use Rattle.std.proofs.Common.{Decides, leb, ◌||◌, ap, ◌∙◌, ◌≡◌, ℕ, zero, suc, ◌<◌, ◌≤◌, min, List, [], ◌∷◌, length, get_or, take, sym, subst, inl, inr, ⊎_elim, arith}
use Rattle.std.proofs.lemmas.List.{length-take, get_or-take, take_all}
use Rattle.std.specs.List.{list_any}
use Rattle.std.proofs.lemmas.Bool.{cases_lt, cases_Bool, leb-true, le-leb, false≢true}
use Rattle.netlist.specs.Edits.{Beyond}

beyond_at : (m : ℕ) (xs : List ℕ) (i : ℕ) → i < length xs → m ≤ get_or xs i 0 → Beyond m xs
beyond_at m [] i lt h = absurd (omega arith)
beyond_at m (x ∷ xs) zero lt h = inl h
beyond_at m (x ∷ xs) (suc i) lt h = inr (beyond_at m xs i (omega arith) h)

pub beyond_which : (m : ℕ) (xs : List ℕ) → Beyond m xs → (i : ℕ) × (i < length xs) × (m ≤ get_or xs i 0)
beyond_which m [] h = absurd h
beyond_which m (x ∷ xs) (inl h) = (0, omega arith, h)
beyond_which m (x ∷ xs) (inr h) = let (i, lt, le) = beyond_which m xs h in (suc i, omega arith, le)

pub net-beyond : (m k : ℕ) (nets : List ℕ) (i : ℕ) → length nets ≡ 4 → i < min k 4 → m ≤ get_or nets i 0 → Beyond m (take k nets)
net-beyond m k nets i four lt h =
    beyond_at m (take k nets) i (omega (arith, length-take k nets, four)) (subst (λ x. m ≤ x) (sym (get_or-take k nets i 0 (omega arith))) h)

-- the test that one of some nets is not below M
pub any-beyond : (m : ℕ) (xs : List ℕ) → Decides (list_any (λ x. leb m x) xs) (Beyond m xs)
any-beyond m [] = (λ e. absurd (false≢true e), λ b. absurd b)
any-beyond m (x ∷ xs) =
    let (there, here) = any-beyond m xs in
    ⊎_elim
    (λ yes. (λ _. inl (leb-true m x yes), λ _. ap (λ t. t || list_any (λ y. leb m y) xs) yes))
    (λ no. (
      λ e. inr (there (sym (ap (λ t. t || list_any (λ y. leb m y) xs) no) ∙ e)),
      λ b. ap (λ t. t || list_any (λ y. leb m y) xs) no ∙ here (⊎_elim (λ le. absurd (false≢true (sym no ∙ le-leb m x le))) (λ r. r) b),
    ))
    (cases_Bool (leb m x))

-- the first so many of four
pub take_four : (k : ℕ) (xs : List ℕ) → length xs ≡ 4 → take (min k 4) xs ≡ take k xs
take_four k xs four =
    ⊎_elim
    (λ lt. let q : min k 4 ≡ k = omega arith in ap (λ n. take n xs) q)
    (λ le. take_all (min k 4) xs (omega arith) ∙ sym (take_all k xs (omega arith)))
    (cases_lt k 4)
