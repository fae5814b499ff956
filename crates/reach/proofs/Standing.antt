-- The flags tell what is found, from the clear table on and with each number that is told.
use Rattle.std.proofs.Common.{◌≡◌, ℕ, ◌+◌, ◌<◌, true, false, cond, eqb, List, [], ◌∷◌, ◌++◌, length, get_or, set, replicate, Some, None, Option, sym, refl, ap, ◌∙◌, subst, ⊎_elim, arith}
use Rattle.std.proofs.lemmas.List.{get_or-set_same, get_or-set_other, length_push, length-set, length-replicate, get_or-replicate, length-append, get_or_append_left}
use Rattle.std.proofs.lemmas.Bool.{cases_Bool, cases_eq, eq-eqb, ne_eqb, lt-ltb, cond-true, cond-false, eqb-false}
use Rattle.std.specs.Option.{option_eq}
use Rattle.reach.specs.Listed.{HeadOf}
use Rattle.reach.specs.Order.{is_new, hear, tell, rounds, order, More}
use Rattle.reach.specs.Steps.{Stand, Met, Unmet, Kept, Round, Telling, Arrived}
use Rattle.reach.proofs.Finds.{new-push, new_small, hear_more, more_on, order_more, rounds-begin, round_told}
use Rattle.reach.proofs.Flagged.{zeros-set, zeros-clear}

-- a number that is not below the limit, or is marked
pub not_new : (flags : List ℕ) (found : List (List ℕ)) → Stand flags found → (y : ℕ) → (y < 1024 → get_or flags y 0 ≡ 0 → ⊥) → is_new y found ≡ false
not_new flags found stand y h =
    ⊎_elim
    (λ e. absurd (h (new_small y found e) (stand.marks y (new_small y found e) ∙ ap (λ b. cond b 0 1) e)))
    (λ e. e)
    (cases_Bool (is_new y found))

pub hear-new : (t : List ℕ) (y : ℕ) (found : List (List ℕ)) → is_new y found ≡ true → found ++ (y ∷ t) ∷ [] ≡ hear t (y ∷ []) found
unfolding hear
hear-new t y found e = sym (cond-true (is_new y found) _ _ e)

pub hear_known : (t : List ℕ) (y : ℕ) (found : List (List ℕ)) → is_new y found ≡ false → found ≡ hear t (y ∷ []) found
unfolding hear
hear_known t y found e = sym (cond-false (is_new y found) _ _ e)

module _ (flags : List ℕ) (found : List (List ℕ)) (stand : Stand flags found) (y : ℕ) (lt : y < 1024) where
  pub flag_new : get_or flags y 0 ≡ 0 → is_new y found ≡ true
  flag_new z = ⊎_elim (λ e. e) (λ e. absurd (omega (arith, stand.marks y lt ∙ ap (λ b. cond b 0 1) e))) (cases_Bool (is_new y found))

  pub has_room : get_or flags y 0 ≡ 0 → length found < 1024
  has_room z = omega (arith, zeros-set flags y (omega (arith, stand.long)) z, stand.room)

  pub stand_push : get_or flags y 0 ≡ 0 → (t : List ℕ) → Stand (set flags y 1) (found ++ (y ∷ t) ∷ [])
  stand_push z t =
      record {
        long = length-set flags y 1 ∙ stand.long;
        marks = λ x small.
            ⊎_elim
            (λ (e : x ≡ y). subst (λ w. get_or (set flags y 1) w 0 ≡ cond (is_new w (found ++ (y ∷ t) ∷ [])) 0 1) (sym e) here_set)
            (λ ne. get_or-set_other flags y x 1 0 ne ∙ stand.marks x small ∙ ap (λ b. cond b 0 1) (sym (new-push x y t found ∙ cond-false _ _ _ (ne_eqb y x (λ e. ne (sym e))))))
            (cases_eq x y);
        room = omega (arith, zeros-set flags y (omega (arith, stand.long)) z, stand.room, length_push found (y ∷ t));
      }
    where
      here_set : get_or (set flags y 1) y 0 ≡ cond (is_new y (found ++ (y ∷ t) ∷ [])) 0 1
      here_set = get_or-set_same flags y 1 0 (omega (arith, stand.long)) ∙ ap (λ b. cond b 0 1) (sym (new-push y y t found ∙ cond-true _ _ _ (eq-eqb y y refl)))

  -- once it is marked and listed, it is heard
  pub noted : get_or flags y 0 ≡ 0 → (t : List ℕ) (flags' : List ℕ) (found' : List (List ℕ)) → flags' ≡ set flags y 1 → found' ≡ found ++ (y ∷ t) ∷ [] →
      Stand flags' found' × (found' ≡ hear t (y ∷ []) found)
  noted z t flags' found' marks lists = (rw (marks, lists) (stand_push z t), lists ∙ hear-new t y found (flag_new z))

new-empty : (y : ℕ) → y < 1024 → is_new y [] ≡ true
unfolding is_new
new-empty y lt = lt-ltb y 1024 lt

pub stand_clear : (n : ℕ) → n ≡ 1024 → Stand (replicate n 0) []
stand_clear n e =
    record {
      long = length-replicate n 0 ∙ e;
      marks = λ y lt. get_or-replicate n y 0 0 (omega arith) ∙ ap (λ b. cond b 0 1) (sym (new-empty y lt));
      room = omega (arith, zeros-clear n);
    }

pub unmet_clear : (sought : Option ℕ) → Unmet sought []
unfolding is_new
unmet_clear (Some x) = refl
unmet_clear None = tt

tell_is : (next : ℕ → List ℕ) (x : ℕ) (t trail : List ℕ) (found : List (List ℕ)) → trail ≡ x ∷ t → hear trail (next x) found ≡ tell next trail found
unfolding tell
tell_is next x t trail found e = ap (λ u. hear u (next x) found) e ∙ sym (ap (λ u. tell next u found) e)

hear-cons : (t : List ℕ) (y : ℕ) (ys : List ℕ) (found : List (List ℕ)) → hear t (y ∷ ys) found ≡ hear t ys (hear t (y ∷ []) found)
unfolding hear
hear-cons t y ys found = refl

pub hear-none : (t : List ℕ) (found : List (List ℕ)) → hear t [] found ≡ found
unfolding hear
hear-none t found = refl

-- a number that is another than the one looked for
pub unmet_push : (sought : Option ℕ) (t : List ℕ) (y : ℕ) (found found' : List (List ℕ)) → found' ≡ found ++ (y ∷ t) ∷ [] → false ≡ option_eq eqb sought (Some y) →
    Unmet sought found → Unmet sought found'
unmet_push None t y found found' is e u = tt
unmet_push (Some x) t y found found' is e u =
    ap (is_new x) is ∙ new-push x y t found ∙ cond-false (eqb y x) _ _ (ne_eqb y x (λ same. eqb-false x y (sym e) (sym same))) ∙ u

-- A number that is found begins to tell.
pub telling_begins : (next : ℕ → List ℕ) (start place x : ℕ) (found : List (List ℕ)) → Round next start place found → place < 1024 →
    place < length found → HeadOf (get_or found place []) x → Telling next start place (next x) found
telling_begins next start place x found round small within head =
    record {
      within = within;
      left = tell_is next x head.behind (get_or found place []) found head.is ∙ round_told next start place found round.is;
      few = small;
    }

module _ (next : ℕ → List ℕ) (start place : ℕ) (rest : List ℕ) (found : List (List ℕ)) (was : Telling next start place rest found) where
  pub telling_ends : rest ≡ [] → found ≡ rounds next start (place + 1)
  telling_ends e = sym (hear-none _ found) ∙ ap (λ ys. hear (get_or found place []) ys found) (sym e) ∙ was.left

  module _ (y : ℕ) (rest' : List ℕ) (heard : List (List ℕ)) (told : rest ≡ y ∷ rest') (is : heard ≡ hear (get_or found place []) (y ∷ []) found) where
    grown : More found heard
    grown = subst (More found) (sym is) (hear_more (get_or found place []) (y ∷ []) found)

    same_trail : get_or heard place [] ≡ get_or found place []
    same_trail = ap (λ l. get_or l place []) grown.is ∙ get_or_append_left found grown.more [] place was.within

    pub telling_goes : Telling next start place rest' heard
    telling_goes =
        record {
          within = omega (arith, was.within, ap length grown.is, length-append found grown.more);
          left =
              ap (λ t. hear t rest' heard) same_trail
              ∙ ap (hear (get_or found place []) rest') is
              ∙ sym (hear-cons (get_or found place []) y rest' found)
              ∙ ap (λ ys. hear (get_or found place []) ys found) (sym told)
              ∙ was.left;
          few = was.few;
        }

    pub telling_more : More heard (order next start)
    telling_more =
        more_on _ _ _ (subst (More heard) telling_goes.left (hear_more (get_or heard place []) rest' heard))
        (order_more next start (place + 1) (omega (arith, was.few)))

pub kept_clear : (sought : Option ℕ) (flags : List ℕ) (found : List (List ℕ)) → flags ≡ replicate 1024 0 → found ≡ [] → Kept sought flags found
kept_clear sought flags found clear none = rw (clear, none) (record { stand = stand_clear 1024 refl; unmet = unmet_clear sought })

-- The start is told by none.
pub begun : (next : ℕ → List ℕ) (start : ℕ) (found heard : List (List ℕ)) → found ≡ [] → heard ≡ hear [] (start ∷ []) found → heard ≡ rounds next start 0
begun next start found heard none is = is ∙ ap (hear [] (start ∷ [])) none ∙ sym (rounds-begin next start)

-- The number looked for is met while the start is told, or while others are.
pub arrived : (next : ℕ → List ℕ) (start : ℕ) (sought : Option ℕ) (flags : List ℕ) (found : List (List ℕ)) → Stand flags found → Met sought found →
    More found (order next start) → Arrived next start sought found
arrived next start sought flags found stand met more = record { met = met; more = more; few = omega (arith, stand.room) }
