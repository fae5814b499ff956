-- A chain that runs upward ends, so that it does not matter how many links it may have.
use Rattle.std.proofs.Common.{◌≡◌, ℕ, zero, suc, ◌+◌, ◌<◌, ◌≤◌, min, ltb, List, [], ◌∷◌, length, sym, refl, ap, ◌∙◌, ⊎_elim, arith}
use Rattle.std.proofs.lemmas.Bool.{cases_lt, cases_Bool, lt-ltb, le-ltb, cond-true, cond-false, ltb-true}
use Rattle.reach_cases.specs.declared.link.Link.{Link}
use Rattle.reach_cases.specs.Chain.{behind, link_at, chain, rest_of, end}

behind-up : (edge next : ℕ) → edge < end → edge < behind edge next
behind-up edge next lt = ⊎_elim (λ e. rw e (ltb-true edge next e)) (λ e. rw e lt) (cases_Bool (ltb edge next))

module _ (links : List Link) where
  limit : ℕ
  limit = min (length links) end

  chain_past : (n edge : ℕ) → min (length links) end ≤ edge → chain links n edge ≡ []
  unfolding chain
  chain_past zero edge le = refl
  chain_past (suc n) edge le = cond-false _ _ _ (le-ltb edge (min (length links) end) le)

  chain_goes : (n edge : ℕ) → edge < min (length links) end →
      chain links (suc n) edge ≡ (link_at links edge).to ∷ chain links n (behind edge (link_at links edge).next)
  unfolding chain
  chain_goes n edge lt = cond-true _ _ _ (lt-ltb edge (min (length links) end) lt)

  chain_same : (n m edge : ℕ) → min (length links) end ≤ n + edge → min (length links) end ≤ m + edge → chain links n edge ≡ chain links m edge
  chain_same zero m edge a b = chain_past zero edge (omega arith) ∙ sym (chain_past m edge (omega arith))
  chain_same (suc n) zero edge a b = chain_past (suc n) edge (omega arith) ∙ sym (chain_past zero edge (omega arith))
  chain_same (suc n) (suc m) edge a b =
      ⊎_elim
      (λ lt.
      let up : edge < behind edge (link_at links edge).next = behind-up edge (link_at links edge).next (omega arith) in
      chain_goes n edge lt
      ∙ ap (λ t. (link_at links edge).to ∷ t) (chain_same n m (behind edge (link_at links edge).next) (omega (arith, up)) (omega (arith, up)))
      ∙ sym (chain_goes m edge lt))
      (λ le. chain_past (suc n) edge le ∙ sym (chain_past (suc m) edge le))
      (cases_lt edge (min (length links) end))

  pub rest-none : (edge : ℕ) → min (length links) end ≤ edge → rest_of links edge ≡ []
  rest-none edge le = chain_past (min (length links) end) edge le

  rest_some : (edge : ℕ) → edge < min (length links) end →
      rest_of links edge ≡ (link_at links edge).to ∷ rest_of links (behind edge (link_at links edge).next)
  rest_some edge lt =
      chain_same (min (length links) end) (suc (min (length links) end)) edge (omega arith) (omega arith) ∙ chain_goes (min (length links) end) edge lt

  pub rest_behind : (edge next : ℕ) (link : Link) → edge < min (length links) end → link_at links edge ≡ link → behind edge link.next ≡ next
      → rest_of links edge ≡ link.to ∷ rest_of links next
  rest_behind edge next link lt item is =
      rest_some edge lt ∙ ap (λ l. l.to ∷ rest_of links (behind edge l.next)) item ∙ ap (λ e. link.to ∷ rest_of links e) is
