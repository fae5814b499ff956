-- What the trails that are found say of what is reached.
use Rattle.std.proofs.Common.{◌≡◌, ℕ, ◌+◌, ◌-◌, ◌<◌, ◌≤◌, Bool, true, false, cond, eqb, ltb, List, [], ◌∷◌, reverse, length, get_or, IfSome, Some, None, MatchBool, Option, sym, refl, ap, ◌∙◌, subst, ⊎_elim, arith, MatchOption}
use Rattle.std.specs.Prelude.{position}
use Rattle.std.proofs.lemmas.List.{length_push, get_or_push}
use Rattle.std.proofs.ByRecursion.{All-get_or}
use Rattle.std.proofs.lemmas.Bool.{cases_Bool, both_ways, eq-eqb, cond-true, lt-ltb, eqb-true}
use Rattle.reach.specs.Reach.{Reach, Way}
use Rattle.reach.specs.Order.{is_new, rounds, order, trail_at, shown, More}
use Rattle.reach.specs.Flags.{marked}
use Rattle.reach.specs.declared.queue.Found.{Found}
use Rattle.reach.specs.declared.path.Path.{Path}
use Rattle.reach.specs.Listed.{trails, along}
use Rattle.reach.proofs.Listed.{find_place}
use Rattle.reach.specs.Answer.{Flagged, Searched, Shown, Whole}
use Rattle.reach.specs.Steps.{Unmet, Newest, Kept, Round, Arrived}
use Rattle.reach.proofs.Finds.{new-push, new_small, reach_small, complete, old_in_more, order_is}
use Rattle.reach.proofs.Ways.{Leads, rounds_lead, at_leads, at_in_more, at_push, none_at}
use Rattle.reach.proofs.Flagged.{zeros-marked}

-- a number that is new has no trail
new_none : (y : ℕ) (found : List (List ℕ)) → is_new y found ≡ true → trail_at y found ≡ []
unfolding is_new trail_at
new_none y [] e = refl
new_none y ([] ∷ found) e = new_none y found e
new_none y ((x ∷ t) ∷ found) e = go (eqb x y) e (new_none y found)
  where
    go : (b : Bool) → cond b false (is_new y found) ≡ true → (is_new y found ≡ true → trail_at y found ≡ []) → cond b (x ∷ t) (trail_at y found) ≡ []
    go true h rest = absurd (both_ways false refl h)
    go false h rest = rest h

module _ (x : ℕ) (found : List (List ℕ)) (newest : Newest x found) where
  newest_long : length found ≡ length newest.before + 1
  newest_long = ap length newest.is ∙ length_push newest.before (x ∷ newest.trail)

  newest_at : trail_at x found ≡ x ∷ newest.trail
  newest_at =
      ap (trail_at x) newest.is ∙ at_push x x newest.trail newest.before [] (new_none x newest.before newest.new)
      ∙ cond-true (eqb x x) _ _ (eq-eqb x x refl)

  newest_old : is_new x found ≡ false
  newest_old = ap (is_new x) newest.is ∙ new-push x x newest.trail newest.before ∙ cond-true (eqb x x) _ _ (eq-eqb x x refl)

  -- the trail at the last place is the one at the newest number
  pub newest_last : get_or found (length found - 1) [] ≡ trail_at x found
  newest_last =
      ap (λ l. get_or l (length found - 1) []) newest.is
      ∙ get_or_push newest.before (x ∷ newest.trail) [] (length found - 1) (omega (arith, newest_long))
      ∙ sym newest_at

module _ (next : ℕ → List ℕ) (start : ℕ) where
  order-leads : (y : ℕ) → y < 1024 → is_new y (order next start) ≡ false → Reach next start y × Way next start y (reverse (trail_at y (order next start)))
  unfolding order
  order-leads y lt e = at_leads next start y (rounds next start 1024) lt e (rounds_lead next start 1024)

  order_complete : length (order next start) ≤ 1024 → {y : ℕ} → Reach next start y → is_new y (order next start) ≡ false
  unfolding order
  order_complete few r = complete next start 1024 few r

  pub show_found : (y : ℕ) (way : List ℕ) → y < 1024 → is_new y (order next start) ≡ false → way ≡ reverse (trail_at y (order next start)) → Shown next start y way
  unfolding shown
  show_found y way lt e is =
      let l = order-leads y lt e in
      record { reached = l.0; leads = subst (Way next start y) (sym is) l.1; same = is }

  -- the way to the newest, though more is found behind it
  pub show-newest : (x : ℕ) (found : List (List ℕ)) (way : List ℕ) → Newest x found → More found (order next start) → way ≡ reverse (trail_at x found) →
      Shown next start x way
  show-newest x found way newest more is =
      let lt = new_small x newest.before newest.new in
      let old = newest_old x found newest in
      show_found x way lt (old_in_more x found (order next start) more lt old) (is ∙ ap reverse (sym (at_in_more x found (order next start) more lt old)))

  at_own : (y : ℕ) (found : List (List ℕ)) → Leads next start (trail_at y found) → Reach next start y × Way next start y (reverse (trail_at y found))
  unfolding trail_at
  at_own y [] l = absurd l
  at_own y ([] ∷ found) l = at_own y found l
  at_own y ((x ∷ t) ∷ found) l =
      ⊎_elim
      (λ same.
      let own : Leads next start (x ∷ t) = subst (λ b. Leads next start (cond b (x ∷ t) (trail_at y found))) same l in
      subst (λ b. Reach next start y × Way next start y (reverse (cond b (x ∷ t) (trail_at y found)))) (sym same)
      (subst (λ z. Reach next start z × Way next start z (reverse (x ∷ t))) (eqb-true x y same) own))
      (λ other.
      subst (λ b. Reach next start y × Way next start y (reverse (cond b (x ∷ t) (trail_at y found)))) (sym other)
      (at_own y found (subst (λ b. Leads next start (cond b (x ∷ t) (trail_at y found))) other l)))
      (cases_Bool (eqb x y))

  order_at : (k : ℕ) → k < length (order next start) → Leads next start (get_or (order next start) k [])
  unfolding order
  order_at k lt = All-get_or (Leads next start) (rounds next start 1024) k [] lt (rounds_lead next start 1024)

  -- the trail at a place where the search for a number stopped
  pub show_at : (y k : ℕ) (found : List (List ℕ)) (way : List ℕ) → found ≡ order next start → k < length found → get_or found k [] ≡ trail_at y found →
      way ≡ reverse (get_or found k []) → Shown next start y way
  unfolding shown
  show_at y k found way all lt at is =
      let at' : get_or (order next start) k [] ≡ trail_at y (order next start) = subst (λ f. get_or f k [] ≡ trail_at y f) all at in
      let is' : way ≡ reverse (trail_at y (order next start)) = is ∙ ap reverse (ap (λ f. get_or f k []) all ∙ at') in
      let l = at_own y (order next start) (subst (Leads next start) at' (order_at k (omega (arith, ap length all)))) in
      record { reached = l.0; leads = subst (Way next start y) (sym is') l.1; same = is' }

  module _ (flags : List ℕ) (found : List (List ℕ)) (searched : Searched next start flags found) where
    few : length (order next start) ≤ 1024
    few = omega (arith, searched.stand.room, ap length searched.all)

    -- one that is reached is found
    pub reached_old : (y : ℕ) → Reach next start y → is_new y found ≡ false
    reached_old y r = ap (is_new y) searched.all ∙ order_complete few r

    pub absent : (y : ℕ) → is_new y found ≡ ltb y 1024 → Reach next start y → ⊥
    absent y e r = both_ways (ltb y 1024) (sym e ∙ reached_old y r) (lt-ltb y 1024 (reach_small next start r))

    pub no_trail : (y : ℕ) → trail_at y found ≡ [] → Reach next start y → ⊥
    no_trail y e r = absent y (none_at y found e) r

    pub flags_exact : Flagged next start flags
    flags_exact =
        record {
          sound = λ y lt set.
              ⊎_elim
              (λ e. absurd (set (searched.stand.marks y lt ∙ ap (λ b. cond b 0 1) e)))
              (λ e. (order-leads y lt (ap (is_new y) (sym searched.all) ∙ e)).0)
              (cases_Bool (is_new y found));
          whole = λ y r. searched.stand.marks y (reach_small next start r) ∙ ap (λ b. cond b 0 1) (reached_old y r);
        }

    pub counted : length found ≡ marked flags
    counted = omega (arith, searched.stand.long, searched.stand.room, zeros-marked flags)

    -- what a flag answers
    pub flag_answers : (y : ℕ) (r : Bool) → MatchBool r ((y < 1024) × (get_or flags y 0 ≡ 0 → ⊥)) (y < 1024 → get_or flags y 0 ≡ 0) →
        MatchBool r (Reach next start y) (Reach next start y → ⊥)
    flag_answers y true h = flags_exact.sound y h.0 h.1
    flag_answers y false h = λ r. let z : ◌≡◌ {A = ℕ} 0 1 = sym (h (reach_small next start r)) ∙ flags_exact.whole y r in absurd (omega arith)

  -- the path to a number, looked up among the trails
  pub look_up : (y : ℕ) (flags : List ℕ) (found : List Found) (place : Option ℕ) (r : Option Path) → Searched next start flags (trails [] found) →
      place ≡ position (λ f. eqb f.number y) found →
      MatchOption place (r ≡ None) (λ k. (path : Path) × (r ≡ Some path) × (along path ≡ reverse (get_or (trails [] found) k []))) →
      MatchOption r (Reach next start y → ⊥) (λ path. Shown next start y (along path))
  look_up y flags found place r searched e is = go place (rw e (find_place y found)) is
    where
      go : (place : Option ℕ) →
          MatchOption place (trail_at y (trails [] found) ≡ []) (λ k. (k < length (trails [] found)) × (get_or (trails [] found) k [] ≡ trail_at y (trails [] found))) →
          MatchOption place (r ≡ None) (λ k. (path : Path) × (r ≡ Some path) × (along path ≡ reverse (get_or (trails [] found) k []))) →
          MatchOption r (Reach next start y → ⊥) (λ path. Shown next start y (along path))
      go None none e = rw e (no_trail flags (trails [] found) searched y none)
      go (Some k) at e = rw e.1 (show_at y k (trails [] found) (along e.0) searched.all at.0 at.1 e.2)

  pub never_met : (sought : Option ℕ) (flags : List ℕ) (found : List (List ℕ)) → Searched next start flags found → Unmet sought found →
      IfSome sought (λ x. Reach next start x → ⊥)
  never_met None flags found searched u = tt
  never_met (Some x) flags found searched u = absent flags found searched x u

  pub met_shown : (sought : Option ℕ) (found : List (List ℕ)) (way : List ℕ) → Arrived next start sought found →
      way ≡ reverse (get_or found (length found - 1) []) → MatchOption sought ⊥ (λ x. Shown next start x way)
  met_shown None found way a is = a.met
  met_shown (Some x) found way a is = show-newest x found way a.met a.more (is ∙ ap reverse (newest_last x found a.met))

  -- Where all that are found have told, the search is whole.
  pub whole : (sought : Option ℕ) (flags : List ℕ) (found : List (List ℕ)) (n : ℕ) → Kept sought flags found → Round next start n found →
      length found ≤ n → Whole next start sought flags found (length found)
  whole sought flags found n kept round le =
      let searched : Searched next start flags found =
      record { stand = kept.stand; all = round.is ∙ order_is next start n round.few (omega (arith, ap length round.is)) } in
      record {
        searched = searched;
        flagged = flags_exact flags found searched;
        counted = counted flags found searched;
        missed = never_met sought flags found searched kept.unmet;
      }
