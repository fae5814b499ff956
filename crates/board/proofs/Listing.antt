-- A listing of a function: its length, what stands at each number, and when two listings are equal.
use Rattle.std.proofs.Common.{◌≡◌, ℕ, zero, suc, ◌+◌, ◌<◌, ◌≤◌, ◌∷◌, length, get_or, set, sym, refl, ap, ◌∙◌, ⊎_elim, arith}
use Rattle.std.proofs.lemmas.List.{get_or_past, get_or-set_same, get_or-set_other, length-set, same_lists}
use Rattle.std.proofs.lemmas.Bool.{cases_eq}
use Rattle.board.specs.Board.{listing}

module _ {A : Type 0} where
  pub length-listing : (f : ℕ → A) (from n : ℕ) → length (listing f from n) ≡ n
  length-listing f from zero = refl
  length-listing f from (suc n) = ap suc (length-listing f (suc from) n)

  pub listing_at : (f : ℕ → A) (from n k : ℕ) (d : A) → k < n → get_or (listing f from n) k d ≡ f (from + k)
  listing_at f from zero k d lt = absurd (omega arith)
  listing_at f from (suc n) zero d lt = let e : from ≡ from + 0 = omega arith in ap f e
  listing_at f from (suc n) (suc k) d lt =
      let e : suc from + k ≡ from + suc k = omega arith in listing_at f (suc from) n k d (omega arith) ∙ ap f e

  -- a listing from 0 on
  pub listing-first : (f : ℕ → A) (n k : ℕ) (d : A) → k < n → get_or (listing f 0 n) k d ≡ f k
  listing-first f n k d lt = let e : 0 + k ≡ k = omega arith in listing_at f 0 n k d lt ∙ ap f e

  pub listing_past : (f : ℕ → A) (from n k : ℕ) (d : A) → n ≤ k → get_or (listing f from n) k d ≡ d
  listing_past f from n k d le = get_or_past (listing f from n) k d (omega (arith, length-listing f from n))

  pub listing-same : (f g : ℕ → A) (from n : ℕ) → ((k : ℕ) → from ≤ k → k < from + n → f k ≡ g k) → listing f from n ≡ listing g from n
  listing-same f g from zero same = refl
  listing-same f g from (suc n) same =
      let here : f from ≡ g from = same from (omega arith) (omega arith) in
      let rest : listing f (suc from) n ≡ listing g (suc from) n = listing-same f g (suc from) n (λ k a b. same k (omega arith) (omega arith)) in
      λ i. here i ∷ rest i

  -- one value more changed
  pub listing-set : (f g : ℕ → A) (n s : ℕ) (x : A) → s < n → g s ≡ x → ((k : ℕ) → k < n → (k ≡ s → ⊥) → g k ≡ f k)
      → listing g 0 n ≡ set (listing f 0 n) s x
  listing-set f g n s x lt here others =
      same_lists (listing g 0 n) (set (listing f 0 n) s x)
      (length-listing g 0 n ∙ sym (length-listing f 0 n) ∙ sym (length-set (listing f 0 n) s x))
      (λ k d h.
      let below : k < n = omega (arith, length-listing g 0 n) in
      listing-first g n k d below
      ∙ ⊎_elim
      (λ e. ap g e ∙ here ∙ sym (get_or-set_same (listing f 0 n) s x d (omega (arith, length-listing f 0 n))) ∙ ap (λ j. get_or (set (listing f 0 n) s x) j d) (sym e))
      (λ ne. others k below ne ∙ sym (listing-first f n k d below) ∙ sym (get_or-set_other (listing f 0 n) s k x d ne))
      (cases_eq k s))
