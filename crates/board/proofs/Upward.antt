-- A chain that runs upward ends, so that it does not matter how many links it may have.
use Rattle.std.proofs.Common.{◌≡◌, ℕ, zero, suc, ◌+◌, ◌-◌, ◌*◌, ◌<◌, ◌≤◌, true, false, ltb, ◌⊎◌, List, [], ◌∷◌, sym, refl, ap, ◌∙◌, subst, inl, inr, ⊎_elim, arith}
use Rattle.std.proofs.lemmas.Bool.{cases_lt, lt-ltb, le-ltb, cond-true, cond-false, ltb-true, ltb-false}
use Rattle.board.specs.Layout.{word, next}
use Rattle.board.specs.Fanout.{gate_of_lem, upward, chain, rest_of}

pub upward_cases : (edge link : ℕ) → (upward edge link ≡ 0) ⊎ (edge < upward edge link)
upward_cases edge link =
    ⊎_elim
    (λ lt. inr (rw (cond-true (ltb edge link) link 0 (lt-ltb edge link lt)) lt))
    (λ le. inl (cond-false (ltb edge link) link 0 (le-ltb edge link le)))
    (cases_lt edge link)

module _ (m : ℕ) (ws : List ℕ) (upto start : ℕ) where
  pub chain-end : (n : ℕ) → chain m ws upto start n 0 ≡ []
  unfolding chain
  chain-end zero = refl
  chain-end (suc n) = refl

  chain_past : (n q : ℕ) → 4 * m ≤ q → chain m ws upto start n (suc q) ≡ []
  unfolding chain
  chain_past zero q le = refl
  chain_past (suc n) q le = cond-false _ _ _ (le-ltb q (4 * m) le)

  pub chain_goes : (n q : ℕ) → q < 4 * m
      → chain m ws upto start (suc n) (suc q) ≡ gate_of_lem m ws upto start q ∷ chain m ws upto start n (upward (suc q) (next m ws q))
  unfolding chain
  chain_goes n q lt = cond-true _ _ _ (lt-ltb q (4 * m) lt)

  chain_same : (n k edge : ℕ) → (0 < edge → 4 * m < n + edge) → (0 < edge → 4 * m < k + edge) → chain m ws upto start n edge ≡ chain m ws upto start k edge
  chain_same zero k zero a b = chain-end zero ∙ sym (chain-end k)
  chain_same (suc n) k zero a b = chain-end (suc n) ∙ sym (chain-end k)
  chain_same zero k (suc q) a b =
      let past : 4 * m ≤ q = omega (arith, a (omega arith)) in chain_past zero q past ∙ sym (chain_past k q past)
  chain_same (suc n) zero (suc q) a b =
      let past : 4 * m ≤ q = omega (arith, b (omega arith)) in chain_past (suc n) q past ∙ sym (chain_past zero q past)
  chain_same (suc n) (suc k) (suc q) a b =
      ⊎_elim
      (λ lt.
      let edge = upward (suc q) (next m ws q) in
      let more : (i : ℕ) → 4 * m < suc i + suc q → 0 < edge → 4 * m < i + edge = λ i enough some.
      ⊎_elim (λ e. absurd (omega arith)) (λ up. omega arith) (upward_cases (suc q) (next m ws q)) in
      chain_goes n q lt
      ∙ ap (λ t. gate_of_lem m ws upto start q ∷ t) (chain_same n k edge (more n (a (omega arith))) (more k (b (omega arith))))
      ∙ sym (chain_goes k q lt))
      (λ past. chain_past (suc n) q past ∙ sym (chain_past (suc k) q past))
      (cases_lt q (4 * m))

  pub rest-none : (edge : ℕ) → (edge ≡ 0) ⊎ (4 * m ≤ edge - 1) → rest_of m ws upto start edge ≡ []
  rest-none zero h = chain-end (4 * m)
  rest-none (suc q) h = chain_past (4 * m) q (⊎_elim (λ e. absurd (omega arith)) (λ le. omega arith) h)

  pub rest_some : (edge : ℕ) → 0 < edge → edge - 1 < 4 * m
      → rest_of m ws upto start edge ≡ gate_of_lem m ws upto start (edge - 1) ∷ rest_of m ws upto start (upward edge (word ws (10 * m + (edge - 1))))
  rest_some zero some lt = absurd (omega arith)
  rest_some (suc q) some lt =
      let is : q ≡ suc q - 1 = omega arith in
      chain_same (4 * m) (suc (4 * m)) (suc q) (λ _. omega arith) (λ _. omega arith)
      ∙ subst (λ p. chain m ws upto start (suc (4 * m)) (suc q) ≡ gate_of_lem m ws upto start p ∷ rest_of m ws upto start (upward (suc q) (next m ws p))) is
      (chain_goes (4 * m) q (omega arith))

  -- what one step tells, from what the code reads
  pub step_some : (edge pin link number onward : ℕ) → 1 ≤ edge → pin ≡ edge - 1 → true ≡ ltb pin (4 * m) → link ≡ next m ws pin
      → number ≡ gate_of_lem m ws upto start pin → onward ≡ upward edge link
      → rest_of m ws upto start edge ≡ number ∷ rest_of m ws upto start onward
  step_some edge pin link number onward some pin-is low link-is number_is onward-is =
      let there : onward ≡ upward edge (next m ws (edge - 1)) = onward-is ∙ ap (upward edge) (link-is ∙ ap (next m ws) pin-is) in
      let lt : edge - 1 < 4 * m = subst (λ p. p < 4 * m) pin-is (ltb-true pin (4 * m) (sym low)) in
      rest_some edge (omega (arith, some)) lt ∙ (λ i. sym (number_is ∙ ap (gate_of_lem m ws upto start) pin-is) i ∷ rest_of m ws upto start (sym there i))

  pub step-none : (edge pin : ℕ) → pin ≡ edge - 1 → false ≡ ltb pin (4 * m) → rest_of m ws upto start edge ≡ []
  step-none edge pin pin-is past = rest-none edge (inr (subst (λ p. 4 * m ≤ p) pin-is (ltb-false pin (4 * m) (sym past))))
