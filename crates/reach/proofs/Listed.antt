-- The trails of numbers that were found, one after the other.
use Rattle.std.proofs.Common.{◌≡◌, ℕ, suc, ◌+◌, ◌<◌, ◌≤◌, Bool, true, false, cond, eqb, ltb, List, [], ◌∷◌, ◌++◌, length, get_or, take, drop, Option, Some, None, MatchOption, sym, refl, ap, ◌∙◌, subst, ⊎_elim, append_assoc, zero-add, arith}
use Rattle.std.specs.Prelude.{not, position}
use Rattle.std.specs.Option.{ForSome}
use Rattle.std.specs.List.{position_or_len}
use Rattle.std.proofs.lemmas.List.{get_or_append_left, get_or_push, length_push, length-take, get_or-append-add, take-append-drop, take_more}
use Rattle.std.proofs.lemmas.List.Sums.{fold_push, fold-append}
use Rattle.std.proofs.lemmas.Bool.{cases_lt, ltb-true, ltb-false}
use Rattle.reach.specs.declared.queue.Found.{Found}
use Rattle.reach.specs.Listed.{trails, told_by, with_trail, HeadOf}
use Rattle.reach.specs.Told.{Earlier}
use Rattle.reach.specs.Order.{trail_at, More}
use Rattle.reach.proofs.Finds.{more_none, more_on}
use Rattle.reach.proofs.Ways.{at_push, at_none}

pub trails-none : trails [] [] ≡ []
unfolding trails
trails-none = refl

pub trails-push : (found : List Found) (new : Found) → trails [] (found ++ new ∷ []) ≡ with_trail (trails [] found) new
unfolding trails
trails-push found new = fold_push with_trail [] found new

trails-append : (before : List (List ℕ)) (xs ys : List Found) → trails before (xs ++ ys) ≡ trails (trails before xs) ys
unfolding trails
trails-append before xs ys = fold-append with_trail before xs ys

trails_more : (before : List (List ℕ)) (found : List Found) → More before (trails before found)
unfolding trails
trails_more before [] = more_none before
trails_more before (x ∷ xs) = more_on _ _ _ (record { more = _; is = refl }) (trails_more (with_trail before x) xs)

length-trails_from : (before : List (List ℕ)) (found : List Found) → length (trails before found) ≡ length before + length found
unfolding trails
length-trails_from before [] = omega arith
length-trails_from before (x ∷ xs) =
    omega (arith, length-trails_from (with_trail before x) xs, length_push before (x.number ∷ told_by x.teller before))

pub length-trails : (found : List Found) → length (trails [] found) ≡ length found
length-trails found = omega (arith, length-trails_from [] found)

-- one number more, told by an earlier one
pub earlier_push : (found : List Found) (new : Found) → Earlier found → ForSome new.teller (λ teller. teller < length (trails [] found)) → Earlier (found ++ new ∷ [])
earlier_push found new earlier told k d lt =
    ⊎_elim
    (λ (inside : k < length found).
    subst (λ (f : Found). ForSome f.teller (λ teller. teller < k)) (sym (get_or_append_left found (new ∷ []) d k inside)) (earlier k d inside))
    (λ (past : length found ≤ k).
    let last : k ≡ length found = omega (arith, length_push found new) in
    subst (λ (f : Found). ForSome f.teller (λ teller. teller < k)) (sym (get_or_push found new d k (sym last)))
    (subst (λ n. ForSome new.teller (λ teller. teller < n)) (length-trails found ∙ sym last) told))
    (cases_lt k (length found))

-- What a place holds: a number, and behind it the trail that its teller had then.
module _ (found : List Found) where
  prefix : (n : ℕ) → More (trails [] (take n found)) (trails [] found)
  prefix n =
      subst (More (trails [] (take n found))) (sym (trails-append [] (take n found) (drop n found)) ∙ ap (trails []) (take-append-drop n found))
      (trails_more (trails [] (take n found)) (drop n found))

  module _ (k : ℕ) (d : Found) (lt : k < length found) where
    earlier_long : length (trails [] (take k found)) ≡ k
    earlier_long = omega (arith, length-trails (take k found), length-take k found)

    one_more : trails [] (take (k + 1) found) ≡ with_trail (trails [] (take k found)) (get_or found k d)
    one_more = ap (trails []) (take_more found k d lt) ∙ trails-push (take k found) (get_or found k d)

    trail_is : get_or (trails [] found) k [] ≡ (get_or found k d).number ∷ told_by (get_or found k d).teller (trails [] (take k found))
    trail_is =
        ap (λ l. get_or l k []) (prefix (k + 1)).is
        ∙ get_or_append_left _ (prefix (k + 1)).more [] k (omega (arith, length-trails (take (k + 1) found), length-take (k + 1) found))
        ∙ ap (λ l. get_or l k []) one_more
        ∙ get_or_push (trails [] (take k found)) _ [] k earlier_long

    -- a trail does not change as more are listed behind it
    same : (t : ℕ) → t < k → get_or (trails [] (take k found)) t [] ≡ get_or (trails [] found) t []
    same t before =
        sym (ap (λ l. get_or l t []) (prefix k).is ∙ get_or_append_left (trails [] (take k found)) (prefix k).more [] t (omega (arith, earlier_long)))

    pub head_at : HeadOf (get_or (trails [] found) k []) (get_or found k d).number
    head_at = record { behind = _; is = trail_is }

    -- its teller stands at an earlier place, whose trail is there already
    pub trail_told : ForSome (get_or found k d).teller (λ teller. teller < k) →
        get_or (trails [] found) k [] ≡ (get_or found k d).number ∷ told_by (get_or found k d).teller (trails [] found)
    trail_told earlier = trail_is ∙ ap (λ t. (get_or found k d).number ∷ t) (go (get_or found k d).teller earlier)
      where
        go : (teller : Option ℕ) → ForSome teller (λ t. t < k) → told_by teller (trails [] (take k found)) ≡ told_by teller (trails [] found)
        go None _ = refl
        go (Some t) before = same t (before t refl)

-- the first place of a number, behind trails that end elsewhere
record Spot (y : ℕ) (all : List (List ℕ)) (past place len : ℕ) : Type 0 where
  inside : place < len → get_or all (past + place) [] ≡ trail_at y all
  outside : len ≤ place → trail_at y all ≡ []

spot_from : (y : ℕ) (before : List (List ℕ)) (found : List Found) → trail_at y before ≡ [] →
    Spot y (trails before found) (length before) (position_or_len (λ f. eqb f.number y) found) (length found)
unfolding trails
spot_from y before [] none = record { inside = λ lt. absurd (omega arith); outside = λ _. none }
spot_from y before (x ∷ xs) none = go (eqb x.number y) refl (spot_from y (with_trail before x) xs)
  where
    trail : List ℕ
    trail = x.number ∷ told_by x.teller before

    all : List (List ℕ)
    all = trails (with_trail before x) xs

    rest : ℕ
    rest = position_or_len (λ f. eqb f.number y) xs

    ends : (b : Bool) → eqb x.number y ≡ b → (more : List (List ℕ)) → trail_at y (before ++ trail ∷ more) ≡ cond b trail (trail_at y more)
    ends b e more = at_push y x.number (told_by x.teller before) before more none ∙ ap (λ b. cond b trail (trail_at y more)) e

    grown : More (with_trail before x) all
    grown = trails_more (with_trail before x) xs

    all_is : all ≡ before ++ trail ∷ grown.more
    all_is = grown.is ∙ append_assoc before (trail ∷ []) grown.more

    go : (b : Bool) → eqb x.number y ≡ b → (trail_at y (with_trail before x) ≡ [] → Spot y all (length (with_trail before x)) rest (length xs)) →
        Spot y all (length before) (cond (not b) (1 + rest) 0) (suc (length xs))
    go true e _ =
        record {
          inside = λ lt. ap (λ l. get_or l (length before + 0) []) all_is ∙ get_or-append-add before (trail ∷ grown.more) 0 []
              ∙ sym (ap (trail_at y) all_is ∙ ends true e grown.more);
          outside = λ le. absurd (omega arith);
        }
    go false e spot =
        let s = spot (ends false e [] ∙ at_none y) in
        let long = length_push before trail in
        let at : length (with_trail before x) + rest ≡ length before + (1 + rest) = omega arith in
        record {
          inside = λ lt. ap (λ k. get_or all k []) (sym at) ∙ s.inside (omega arith);
          outside = λ le. s.outside (omega arith);
        }

pub find_place : (y : ℕ) (found : List Found) →
    MatchOption (position (λ f. eqb f.number y) found) (trail_at y (trails [] found) ≡ []) (λ k. (k < length (trails [] found)) × (get_or (trails [] found) k [] ≡ trail_at y (trails [] found)))
find_place y found = go (ltb (position_or_len (λ f. eqb f.number y) found) (length found)) refl
  where
    place : ℕ
    place = position_or_len (λ f. eqb f.number y) found

    spot : Spot y (trails [] found) 0 place (length found)
    spot = spot_from y [] found (at_none y)

    go : (b : Bool) → ltb place (length found) ≡ b →
        MatchOption (cond b (Some place) None) (trail_at y (trails [] found) ≡ []) (λ k. (k < length (trails [] found)) × (get_or (trails [] found) k [] ≡ trail_at y (trails [] found)))
    go true e =
        let lt = ltb-true place (length found) e in
        (omega (arith, length-trails found), ap (λ k. get_or (trails [] found) k []) (sym (zero-add place)) ∙ spot.inside lt)
    go false e = spot.outside (ltb-false place (length found) e)

-- how many places a walk back may still go to
abbrev pub left : Option ℕ → ℕ
left None = 0
left (Some at) = at + 1

-- a walk back comes to its end, since tellers stand at earlier places
pub left_told : (teller : Option ℕ) (at : ℕ) → ForSome teller (λ t. t < at) → left teller ≤ at
left_told None at _ = omega arith
left_told (Some t) at before = omega (arith, before t refl)

pub ruleset listing = (trails-none, trails-push, length-trails, head_at)
