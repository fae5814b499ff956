-- Every trail that is found is, turned round, a way from the start; and the way that is shown is one of them.
use Rattle.std.proofs.Common.{◌≡◌, ℕ, zero, suc, ◌<◌, Bool, true, false, cond, eqb, ltb, ◌⊎◌, List, [], ◌∷◌, ◌++◌, reverse, length, sym, refl, ap, ◌∙◌, subst, inl, inr, ⊎_elim, arith}
use mathlib.Core.List.{reverse-cons}
use Rattle.std.specs.List.{AllByRecursion}
use Rattle.std.proofs.lemmas.List.{get_or_past}
use Rattle.std.proofs.ByRecursion.{All-push, All-get_or}
use Rattle.std.proofs.lemmas.Bool.{eqb-true, lt-ltb, cases_Bool, both_ways, cases_lt}
use Rattle.reach.specs.Reach.{Among, Follows, Reach, Way}
use Rattle.reach.specs.Reach.Reach.{here, onward}
use Rattle.reach.specs.Order.{is_new, hear, tell, rounds, trail_at, More}
use Rattle.reach.proofs.Finds.{new_small}

module _ (next : ℕ → List ℕ) where
  pub way_push : (a b c : ℕ) (xs : List ℕ) → Way next a b xs → Follows next b c → Way next a c (xs ++ c ∷ [])
  way_push a b c [] w f = absurd w
  way_push a b c (x ∷ []) w f = (w.0, subst (λ z. Follows next z c) (sym w.1) f, (refl, refl))
  way_push a b c (x ∷ (y ∷ ys)) w f = (w.0, w.1, way_push y b c (y ∷ ys) w.2 f)

  -- a trail that leads back from a number to the start
  abbrev pub Leads : ℕ → List ℕ → Type 0
  Leads start [] = ⊥
  Leads start (x ∷ t) = Reach next start x × Way next start x (reverse (x ∷ t))

  pub leads_on : (start x y : ℕ) (t : List ℕ) → Leads start (x ∷ t) → Follows next x y → Leads start (y ∷ (x ∷ t))
  leads_on start x y t l f =
      (onward l.0 f, subst (Way next start y) (sym (reverse-cons y (x ∷ t))) (way_push start x y (reverse (x ∷ t)) l.1 f))

  module _ (start : ℕ) where
    one_leads : (t : List ℕ) (y : ℕ) (found : List (List ℕ)) (b : Bool) → is_new y found ≡ b → (y < 1024 → Leads start (y ∷ t)) →
        AllByRecursion (Leads start) found → AllByRecursion (Leads start) (cond b (found ++ (y ∷ t) ∷ []) found)
    one_leads t y found true e l all = All-push (Leads start) found (y ∷ t) all (l (new_small y found e))
    one_leads t y found false e l all = all

    hear-leads : (t ys : List ℕ) (found : List (List ℕ)) → ((y : ℕ) → y < 1024 → Among y ys → Leads start (y ∷ t)) →
        AllByRecursion (Leads start) found → AllByRecursion (Leads start) (hear t ys found)
    unfolding hear
    hear-leads t [] found l all = all
    hear-leads t (y ∷ ys) found l all =
        hear-leads t ys _ (λ z lt a. l z lt (inr a)) (one_leads t y found (is_new y found) refl (λ lt. l y lt (inl refl)) all)

    tell-leads : (t : List ℕ) (found : List (List ℕ)) → (t ≡ []) ⊎ Leads start t → AllByRecursion (Leads start) found → AllByRecursion (Leads start) (tell next t found)
    unfolding tell
    tell-leads [] found c all = all
    tell-leads (x ∷ t) found (inl e) all = let z : ◌≡◌ {A = ℕ} 0 1 = cc in absurd (omega arith)
    tell-leads (x ∷ t) found (inr l) all = hear-leads (x ∷ t) (next x) found (λ y lt a. leads_on start x y t l (lt, a)) all

    -- Soundness: every trail leads back to the start
    pub rounds_lead : (n : ℕ) → AllByRecursion (Leads start) (rounds next start n)
    unfolding rounds
    rounds_lead zero = hear-leads [] (start ∷ []) [] (λ y lt a. ⊎_elim (λ e. from y lt e) (λ z. absurd z) a) tt
      where
        from : (y : ℕ) → y < 1024 → y ≡ start → Leads start (y ∷ [])
        from y lt e = subst (λ z. Leads start (z ∷ [])) (sym e) (here (subst (λ z. z < 1024) e lt), (refl, refl))
    rounds_lead (suc n) =
        tell-leads _ _
        (⊎_elim
        (λ inside. inr (All-get_or (Leads start) (rounds next start n) n [] inside (rounds_lead n)))
        (λ outside. inl (get_or_past (rounds next start n) n [] outside))
        (cases_lt n (length (rounds next start n))))
        (rounds_lead n)

    -- the trail at a number that is found leads back from it
    pub at_leads : (y : ℕ) (found : List (List ℕ)) → y < 1024 → is_new y found ≡ false → AllByRecursion (Leads start) found →
        Reach next start y × Way next start y (reverse (trail_at y found))
    unfolding is_new trail_at
    at_leads y [] lt e all = absurd (both_ways (ltb y 1024) e (lt-ltb y 1024 lt))
    at_leads y ([] ∷ found) lt e all = absurd all.0
    at_leads y ((x ∷ t) ∷ found) lt e all =
        ⊎_elim
        (λ same. subst (λ b. Reach next start y × Way next start y (reverse (cond b (x ∷ t) (trail_at y found)))) (sym same)
        (subst (λ z. Reach next start z × Way next start z (reverse (x ∷ t))) (eqb-true x y same) all.0))
        (λ other. subst (λ b. Reach next start y × Way next start y (reverse (cond b (x ∷ t) (trail_at y found)))) (sym other)
        (at_leads y found lt (ap (λ b. cond b false (is_new y found)) (sym other) ∙ e) all.1))
        (cases_Bool (eqb x y))

-- the trail at a number that is found stays as it is
pub at_stays : (y : ℕ) (found more : List (List ℕ)) → y < 1024 → is_new y found ≡ false → trail_at y (found ++ more) ≡ trail_at y found
unfolding is_new trail_at
at_stays y [] more lt e = absurd (both_ways (ltb y 1024) e (lt-ltb y 1024 lt))
at_stays y ([] ∷ found) more lt e = at_stays y found more lt e
at_stays y ((x ∷ t) ∷ found) more lt e = go (eqb x y) e (at_stays y found more lt)
  where
    go : (b : Bool) → cond b false (is_new y found) ≡ false → (is_new y found ≡ false → trail_at y (found ++ more) ≡ trail_at y found) →
        cond b (x ∷ t) (trail_at y (found ++ more)) ≡ cond b (x ∷ t) (trail_at y found)
    go true h rest = refl
    go false h rest = rest h

pub at_in_more : (y : ℕ) (found all : List (List ℕ)) → More found all → y < 1024 → is_new y found ≡ false → trail_at y all ≡ trail_at y found
at_in_more y found all m lt e = ap (trail_at y) m.is ∙ at_stays y found m.more lt e

pub at_none : (y : ℕ) → trail_at y [] ≡ []
unfolding trail_at
at_none y = refl

-- behind trails that end elsewhere
pub at_push : (y x : ℕ) (t : List ℕ) (found more : List (List ℕ)) → trail_at y found ≡ [] →
    trail_at y (found ++ (x ∷ t) ∷ more) ≡ cond (eqb x y) (x ∷ t) (trail_at y more)
unfolding trail_at
at_push y x t [] more e = refl
at_push y x t ([] ∷ found) more e = at_push y x t found more e
at_push y x t ((z ∷ u) ∷ found) more e = go (eqb z y) e (at_push y x t found more)
  where
    go : (b : Bool) → cond b (z ∷ u) (trail_at y found) ≡ [] →
        (trail_at y found ≡ [] → trail_at y (found ++ (x ∷ t) ∷ more) ≡ cond (eqb x y) (x ∷ t) (trail_at y more)) →
        cond b (z ∷ u) (trail_at y (found ++ (x ∷ t) ∷ more)) ≡ cond (eqb x y) (x ∷ t) (trail_at y more)
    go true h rest = let z : ◌≡◌ {A = ℕ} 0 1 = cc in absurd (omega arith)
    go false h rest = rest h

-- a number at which no trail ends
pub none_at : (y : ℕ) (found : List (List ℕ)) → trail_at y found ≡ [] → is_new y found ≡ ltb y 1024
unfolding trail_at is_new
none_at y [] e = refl
none_at y ([] ∷ found) e = none_at y found e
none_at y ((z ∷ u) ∷ found) e = go (eqb z y) e (none_at y found)
  where
    go : (b : Bool) → cond b (z ∷ u) (trail_at y found) ≡ [] → (trail_at y found ≡ [] → is_new y found ≡ ltb y 1024) →
        cond b false (is_new y found) ≡ ltb y 1024
    go true h rest = let z : ◌≡◌ {A = ℕ} 0 1 = cc in absurd (omega arith)
    go false h rest = rest h
