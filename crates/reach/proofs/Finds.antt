-- What is found stays found, and grows at its end only.
use Rattle.std.proofs.Common.{◌≡◌, ℕ, zero, suc, ◌+◌, ◌-◌, ◌<◌, ◌≤◌, Bool, true, false, cond, eqb, ltb, List, [], ◌∷◌, ◌++◌, length, get_or, sym, refl, ap, ◌∙◌, subst, inl, inr, ⊎_elim, append_assoc, append-nil, add-zero, add-suc, zero-add, add-one, arith}
use Rattle.std.proofs.lemmas.List.{get_or_past, get_or_append_left}
use Rattle.std.proofs.lemmas.Bool.{eqb-true, ltb-true, lt-ltb, eq-eqb, cases_Bool, both_ways, cases_lt}
use Rattle.reach.specs.Reach.{Among, Follows, Reach}
use Rattle.reach.specs.Reach.Reach.{here, onward}
use Rattle.reach.specs.Order.{is_new, hear, tell, rounds, order, More}

pub more_none : (found : List (List ℕ)) → More found found
more_none found = record { more = []; is = sym (append-nil found) }

pub more_on : (a b c : List (List ℕ)) → More a b → More b c → More a c
more_on a b c m n =
    record { more = m.more ++ n.more; is = n.is ∙ ap (λ x. x ++ n.more) m.is ∙ append_assoc a m.more n.more }

pub new-push : (y x : ℕ) (t : List ℕ) (found : List (List ℕ)) → is_new y (found ++ (x ∷ t) ∷ []) ≡ cond (eqb x y) false (is_new y found)
unfolding is_new
new-push y x t [] = refl
new-push y x t ([] ∷ found) = new-push y x t found
new-push y x t ((z ∷ u) ∷ found) = ap (λ b. cond (eqb z y) false b) (new-push y x t found) ∙ swap (eqb z y) (eqb x y)
  where
    swap : (a b : Bool) → cond a false (cond b false (is_new y found)) ≡ cond b false (cond a false (is_new y found))
    swap true true = refl
    swap true false = refl
    swap false true = refl
    swap false false = refl

-- one that is found is found in all that begins with it
pub old_stays : (y : ℕ) (found more : List (List ℕ)) → y < 1024 → is_new y found ≡ false → is_new y (found ++ more) ≡ false
unfolding is_new
old_stays y [] more lt e = absurd (both_ways (ltb y 1024) e (lt-ltb y 1024 lt))
old_stays y ([] ∷ found) more lt e = old_stays y found more lt e
old_stays y ((x ∷ t) ∷ found) more lt e = go (eqb x y) e (old_stays y found more lt)
  where
    go : (b : Bool) → cond b false (is_new y found) ≡ false → (is_new y found ≡ false → is_new y (found ++ more) ≡ false) → cond b false (is_new y (found ++ more)) ≡ false
    go true h rest = refl
    go false h rest = rest h

pub old_in_more : (y : ℕ) (found all : List (List ℕ)) → More found all → y < 1024 → is_new y found ≡ false → is_new y all ≡ false
old_in_more y found all m lt e = ap (is_new y) m.is ∙ old_stays y found m.more lt e

pub new_small : (y : ℕ) (found : List (List ℕ)) → is_new y found ≡ true → y < 1024
unfolding is_new
new_small y [] e = ltb-true y 1024 e
new_small y ([] ∷ found) e = new_small y found e
new_small y ((x ∷ t) ∷ found) e = go (eqb x y) e (new_small y found)
  where
    go : (b : Bool) → cond b false (is_new y found) ≡ true → (is_new y found ≡ true → y < 1024) → y < 1024
    go true h rest = absurd (both_ways false refl h)
    go false h rest = rest h

-- one that is found has a place
pub record Place (y : ℕ) (found : List (List ℕ)) : Type 0 where
  pub place : ℕ
  pub trail : List ℕ
  pub within : place < length found
  pub is : get_or found place [] ≡ y ∷ trail

pub old_place : (y : ℕ) (found : List (List ℕ)) → y < 1024 → is_new y found ≡ false → Place y found
unfolding is_new
old_place y [] lt e = absurd (both_ways (ltb y 1024) e (lt-ltb y 1024 lt))
old_place y ([] ∷ found) lt e =
    let p = old_place y found lt e in
    record { place = suc p.place; trail = p.trail; within = omega arith; is = p.is }
old_place y ((x ∷ t) ∷ found) lt e =
    ⊎_elim
    (λ same. record { place = 0; trail = t; within = omega arith; is = ap (λ z. z ∷ t) (eqb-true x y same) })
    (λ other. let p = old_place y found lt (ap (λ b. cond b false (is_new y found)) (sym other) ∙ e) in
    record { place = suc p.place; trail = p.trail; within = omega arith; is = p.is })
    (cases_Bool (eqb x y))

one_more : (t : List ℕ) (y : ℕ) (found : List (List ℕ)) → More found (cond (is_new y found) (found ++ (y ∷ t) ∷ []) found)
one_more t y found = go (is_new y found)
  where
    go : (b : Bool) → More found (cond b (found ++ (y ∷ t) ∷ []) found)
    go true = record { more = (y ∷ t) ∷ []; is = refl }
    go false = more_none found

pub hear_more : (t ys : List ℕ) (found : List (List ℕ)) → More found (hear t ys found)
unfolding hear
hear_more t [] found = more_none found
hear_more t (y ∷ ys) found = more_on _ _ _ (one_more t y found) (hear_more t ys _)

-- each that is told and is below 1,024 is found
one_old : (t : List ℕ) (y : ℕ) (found : List (List ℕ)) → is_new y (cond (is_new y found) (found ++ (y ∷ t) ∷ []) found) ≡ false
one_old t y found =
    ⊎_elim
    (λ e. ap (λ b. is_new y (cond b (found ++ (y ∷ t) ∷ []) found)) e ∙ new-push y y t found ∙ ap (λ b. cond b false (is_new y found)) (eq-eqb y y refl))
    (λ e. ap (λ b. is_new y (cond b (found ++ (y ∷ t) ∷ []) found)) e ∙ e)
    (cases_Bool (is_new y found))

pub hear_old : (t ys : List ℕ) (found : List (List ℕ)) (y : ℕ) → y < 1024 → Among y ys → is_new y (hear t ys found) ≡ false
unfolding hear
hear_old t [] found y lt a = absurd a
hear_old t (z ∷ ys) found y lt (inl e) =
    old_in_more y _ _ (hear_more t ys _) lt (subst (λ w. is_new y (cond (is_new w found) (found ++ (w ∷ t) ∷ []) found) ≡ false) e (one_old t y found))
hear_old t (z ∷ ys) found y lt (inr a) = hear_old t ys _ y lt a

tell_more : (next : ℕ → List ℕ) (t : List ℕ) (found : List (List ℕ)) → More found (tell next t found)
unfolding tell
tell_more next [] found = more_none found
tell_more next (x ∷ t) found = hear_more (x ∷ t) (next x) found

module _ (next : ℕ → List ℕ) (start : ℕ) where
  pub rounds-suc : (n : ℕ) → rounds next start (suc n) ≡ tell next (get_or (rounds next start n) n []) (rounds next start n)
  unfolding rounds
  rounds-suc n = refl

  pub round_more : (n : ℕ) → More (rounds next start n) (rounds next start (suc n))
  unfolding rounds
  round_more n = tell_more next (get_or (rounds next start n) n []) (rounds next start n)

  pub rounds_more : (n k : ℕ) → More (rounds next start n) (rounds next start (n + k))
  rounds_more n zero = rw add-zero (more_none (rounds next start n))
  rounds_more n (suc k) = rw add-suc (more_on _ _ _ (rounds_more n k) (round_more (n + k)))

  -- once all that are found have told, nothing more is found
  pub round_still : (n : ℕ) → length (rounds next start n) ≤ n → rounds next start (suc n) ≡ rounds next start n
  unfolding rounds tell
  round_still n le = ap (λ t. tell next t (rounds next start n)) (get_or_past (rounds next start n) n [] le)

  pub rounds_still : (n k : ℕ) → length (rounds next start n) ≤ n → rounds next start (n + k) ≡ rounds next start n
  rounds_still n zero le = ap (rounds next start) (add-zero n)
  rounds_still n (suc k) le =
      let e = rounds_still n k le in
      ap (rounds next start) (add-suc n k) ∙ round_still (n + k) (rw e (omega arith)) ∙ e

  told : (n x y : ℕ) (t : List ℕ) → Follows next x y → get_or (rounds next start n) n [] ≡ x ∷ t → is_new y (rounds next start (suc n)) ≡ false
  unfolding rounds tell
  told n x y t f h = ap (λ u. is_new y (tell next u (rounds next start n))) h ∙ hear_old (x ∷ t) (next x) (rounds next start n) y f.0 f.1

  -- what follows one that has told is found
  pub closed : (n k x y : ℕ) (t : List ℕ) → k < n → get_or (rounds next start n) k [] ≡ x ∷ t → Follows next x y → is_new y (rounds next start n) ≡ false
  closed zero k x y t lt e f = absurd (omega arith)
  closed (suc n) k x y t lt e f =
      ⊎_elim
      (λ inside.
      let was : get_or (rounds next start n) k [] ≡ x ∷ t =
      sym (ap (λ l. get_or l k []) (round_more n).is ∙ get_or_append_left (rounds next start n) (round_more n).more [] k inside) ∙ e in
      ⊎_elim
      (λ before. old_in_more y _ _ (round_more n) f.0 (closed n k x y t before was f))
      (λ last. told n x y t f (subst (λ m. get_or (rounds next start n) m [] ≡ x ∷ t) (omega arith) was))
      (cases_lt k n))
      (λ outside.
      let still = round_still n (omega arith) in
      let none : [] ≡ x ∷ t = sym (get_or_past (rounds next start n) k [] outside) ∙ sym (ap (λ l. get_or l k []) still) ∙ e in
      let z : ◌≡◌ {A = ℕ} 0 1 = cc in absurd (omega arith))
      (cases_lt k (length (rounds next start n)))

  pub reach_small : {y : ℕ} → Reach next start y → y < 1024
  reach_small (here lt) = lt
  reach_small (onward r f) = f.0

  start_old : start < 1024 → is_new start (rounds next start zero) ≡ false
  unfolding rounds
  start_old lt = hear_old [] (start ∷ []) [] start lt (inl refl)

  -- Completeness: where all that are found have told, each that is reached is found
  pub complete : (n : ℕ) → length (rounds next start n) ≤ n → {y : ℕ} → Reach next start y → is_new y (rounds next start n) ≡ false
  complete n le (here lt) = old_in_more start _ _ (rw zero-add at (rounds_more zero n)) lt (start_old lt)
  complete n le (onward r f) =
      let p = old_place _ (rounds next start n) (reach_small r) (complete n le r) in
      closed n p.place _ _ p.trail (omega arith) p.is f

  pub rounds-begin : rounds next start 0 ≡ hear [] (start ∷ []) []
  unfolding rounds
  rounds-begin = refl

  pub order_more : (n : ℕ) → n ≤ 1024 → More (rounds next start n) (order next start)
  unfolding order
  order_more n le =
      let e : n + (1024 - n) ≡ 1024 = omega arith in
      subst (λ m. More (rounds next start n) (rounds next start m)) e (rounds_more n (1024 - n))

  pub order_is : (n : ℕ) → n ≤ 1024 → length (rounds next start n) ≤ n → rounds next start n ≡ order next start
  unfolding order
  order_is n le all =
      let e : n + (1024 - n) ≡ 1024 = omega arith in
      sym (ap (rounds next start) (sym e) ∙ rounds_still n (1024 - n) all)

  pub round_told : (n : ℕ) (found : List (List ℕ)) → found ≡ rounds next start n → tell next (get_or found n []) found ≡ rounds next start (n + 1)
  round_told n found e = ap (λ f. tell next (get_or f n []) f) e ∙ sym (rounds-suc n) ∙ ap (rounds next start) (sym (add-one n))
