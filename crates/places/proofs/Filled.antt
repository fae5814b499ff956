-- The middle of an order is filled anew, first by what a test does not pass, then by what it passes.
use Rattle.std.proofs.Common.{◌≡◌, ℕ, suc, ◌+◌, ◌-◌, ◌<◌, ◌≤◌, Bool, true, false, not, ◌⊎◌, List, ◌++◌, length, get_or, take, drop, sym, refl, ap, ◌∙◌, subst, inl, inr, ⊎_elim, arith}
use Rattle.std.proofs.lemmas.List.{length-append, length-take-le, length-drop, take-append-drop, drop-drop, get_or_append_left, get_or-append_right}
use Rattle.std.proofs.lemmas.Bool.{cases_Bool, both_ways, not-true, not_from_false}
use Rattle.reach.specs.Reach.{Among}
use Rattle.netlist.specs.Netlist.{Different}
use Rattle.netlist.specs.Places.{place, those, segment, Arranges}
use Rattle.places.specs.Refill.{others, filled}
use Rattle.places.proofs.Standing.{among_left, among_right, among_parts, among_at, among_those, those_among, length-those, place_in, in_place, at_place, place_at, different_at, place-left, place_right, cases_among, different_left, different_right, apart, different_both, different_those, those-before}

-- behind the same front
behind_front : (xs ys zs : List ℕ) (x y : ℕ) → place (xs ++ ys) x < place (xs ++ ys) y → (place ys x < place ys y → (Among y xs → ⊥) → place zs x < place zs y) →
    place (xs ++ zs) x < place (xs ++ zs) y
behind_front xs ys zs x y h rest =
    ⊎_elim
    (λ a. ⊎_elim
    (λ b. omega (arith, h, place-left xs ys x a, place-left xs ys y b, place-left xs zs x a, place-left xs zs y b))
    (λ b. omega (arith, place-left xs zs x a, place_right xs zs y b, place_in xs x a))
    (cases_among y xs))
    (λ a. ⊎_elim
    (λ b. absurd (omega (arith, h, place_right xs ys x a, place-left xs ys y b, place_in xs y b)))
    (λ b.
    let inner : place ys x < place ys y = omega (arith, h, place_right xs ys x a, place_right xs ys y b) in
    omega (arith, rest inner b, place_right xs zs x a, place_right xs zs y b))
    (cases_among y xs))
    (cases_among x xs)

module _ (f : ℕ → Bool) (mid rest : List ℕ) where
  not_other : (x : ℕ) → f x ≡ true → Among x (others f mid) → ⊥
  not_other x e a = both_ways (f x) (not-true (f x) (those_among (λ z. not (f z)) x mid a).0) e

  -- what stands behind in the middle, unless it moves, and what stands further on
  split-before : (x y : ℕ) → place (mid ++ rest) x < place (mid ++ rest) y → (f x ≡ true → Among y mid → f y ≡ true) →
      place (others f mid ++ (those f mid ++ rest)) x < place (others f mid ++ (those f mid ++ rest)) y
  split-before x y h keeps =
      ⊎_elim
      (λ a. ⊎_elim (λ e. moves a e) (λ e. stays a e) (cases_Bool (f x)))
      (λ a. ⊎_elim
      (λ b. absurd (omega (arith, h, place_right mid rest x a, place-left mid rest y b, place_in mid y b)))
      (λ b. omega (
        arith,
        h,
        place_right mid rest x a,
        place_right mid rest y b,
        place_right (others f mid) (those f mid ++ rest) x (λ c. a (those_among (λ z. not (f z)) x mid c).1),
        place_right (others f mid) (those f mid ++ rest) y (λ c. b (those_among (λ z. not (f z)) y mid c).1),
        place_right (those f mid) rest x (λ c. a (those_among f x mid c).1),
        place_right (those f mid) rest y (λ c. b (those_among f y mid c).1),
      ))
      (cases_among y mid))
      (cases_among x mid)
    where
      both_in : Among x mid → Among y mid → place mid x < place mid y
      both_in a b = omega (arith, h, place-left mid rest x a, place-left mid rest y b)

      moves : Among x mid → f x ≡ true → place (others f mid ++ (those f mid ++ rest)) x < place (others f mid ++ (those f mid ++ rest)) y
      moves a e =
          let here = among_those f x mid e a in
          let front = place_right (others f mid) (those f mid ++ rest) x (not_other x e) in
          let mine = place-left (those f mid) rest x here in
          ⊎_elim
          (λ b.
          let t = keeps e b in
          omega (
            arith,
            front,
            mine,
            place_right (others f mid) (those f mid ++ rest) y (not_other y t),
            place-left (those f mid) rest y (among_those f y mid t b),
            those-before f mid x y e t (both_in a b),
          ))
          (λ b. omega (
            arith,
            front,
            mine,
            place_in (those f mid) x here,
            place_right (others f mid) (those f mid ++ rest) y (λ c. b (those_among (λ z. not (f z)) y mid c).1),
            place_right (those f mid) rest y (λ c. b (those_among f y mid c).1),
          ))
          (cases_among y mid)

      stays : Among x mid → f x ≡ false → place (others f mid ++ (those f mid ++ rest)) x < place (others f mid ++ (those f mid ++ rest)) y
      stays a e =
          let here = among_those (λ z. not (f z)) x mid (not_from_false (f x) e) a in
          let mine = place-left (others f mid) (those f mid ++ rest) x here in
          ⊎_elim
          (λ b. omega (
            arith,
            mine,
            place-left (others f mid) (those f mid ++ rest) y b,
            those-before (λ z. not (f z)) mid x y (not_from_false (f x) e) (those_among (λ z. not (f z)) y mid b).0 (both_in a (those_among (λ z. not (f z)) y mid b).1),
          ))
          (λ b. omega (arith, mine, place_in (others f mid) x here, place_right (others f mid) (those f mid ++ rest) y b))
          (cases_among y (others f mid))

  split_among : (x : ℕ) → Among x (mid ++ rest) → Among x (others f mid ++ (those f mid ++ rest))
  split_among x a =
      ⊎_elim
      (λ b. ⊎_elim
      (λ e. among_right x (others f mid) _ (among_left x (those f mid) rest (among_those f x mid e b)))
      (λ e. among_left x (others f mid) _ (among_those (λ z. not (f z)) x mid (not_from_false (f x) e) b))
      (cases_Bool (f x)))
      (λ b. among_right x (others f mid) _ (among_right x (those f mid) rest b))
      (among_parts x mid rest a)

  among_split : (x : ℕ) → Among x (others f mid ++ (those f mid ++ rest)) → Among x (mid ++ rest)
  among_split x a =
      ⊎_elim
      (λ b. among_left x mid rest (those_among (λ z. not (f z)) x mid b).1)
      (λ b. ⊎_elim (λ c. among_left x mid rest (those_among f x mid c).1) (λ c. among_right x mid rest c) (among_parts x (those f mid) rest b))
      (among_parts x (others f mid) (those f mid ++ rest) a)

  split_different : Different (mid ++ rest) → Different (others f mid ++ (those f mid ++ rest))
  split_different d =
      let inner = different_left mid rest d in
      different_both (others f mid) (those f mid ++ rest) (different_those (λ z. not (f z)) mid inner)
      (different_both (those f mid) rest (different_those f mid inner) (different_right mid rest d) (λ s a b. apart mid rest d s (those_among f s mid a).1 b))
      (λ s a b.
      ⊎_elim
      (λ c. not_other s (those_among f s mid c).0 a)
      (λ c. apart mid rest d s (those_among (λ z. not (f z)) s mid a).1 c)
      (among_parts s (those f mid) rest b))

  split-length : length (others f mid ++ (those f mid ++ rest)) ≡ length (mid ++ rest)
  split-length =
      omega (arith, length-append (others f mid) (those f mid ++ rest), length-append (those f mid) rest, length-append mid rest, length-those f mid)

-- ---- an order

pub permutes_different : (m : ℕ) (o : List ℕ) → Arranges m o → Different o
permutes_different m o h = different_at o (λ k lt. h.once k (omega (arith, h.long)))

pub permutes_among : (m : ℕ) (o : List ℕ) → Arranges m o → (s : ℕ) → s < m → Among s o
permutes_among m o h s lt = in_place o s (omega (arith, h.long, h.each s lt))

pub permutes_at : (m : ℕ) (o : List ℕ) → Arranges m o → (s : ℕ) → s < m → get_or o (place o s) 0 ≡ s
permutes_at m o h s lt = at_place o s (permutes_among m o h s lt)

pub among_below : (m : ℕ) (o : List ℕ) → Arranges m o → (s : ℕ) → Among s o → s < m
among_below m o h s a = let at = place_in o s a in subst (λ z. z < m) (at_place o s a) (h.below (place o s) (omega (arith, h.long)))

-- the same numbers in another order, each once
permutes_shuffled : (m : ℕ) (o o' : List ℕ) → Arranges m o → length o' ≡ length o → ((s : ℕ) → Among s o → Among s o') → ((s : ℕ) → Among s o' → Among s o) →
    Different o' → Arranges m o'
permutes_shuffled m o o' h long into out diff =
    record {
      long = long ∙ h.long;
      each = λ s lt. omega (arith, long, h.long, place_in o' s (into s (permutes_among m o h s lt)));
      below = λ p lt. among_below m o h (get_or o' p 0) (out (get_or o' p 0) (among_at o' p (omega (arith, long, h.long))));
      once = λ p lt. place_at o' diff p (omega (arith, long, h.long));
    }

module _ (m : ℕ) (o : List ℕ) (p q : ℕ) (perm : Arranges m o) (up : p ≤ q) (within : q < m) where
  front_long : length (take p o) ≡ p
  front_long = length-take-le p o (omega (arith, perm.long))

  mid_long : length (segment o p q) ≡ suc q - p
  mid_long = length-take-le (suc q - p) (drop p o) (omega (arith, perm.long, length-drop p o))

  -- the three parts of the order
  parts : o ≡ take p o ++ (segment o p q ++ drop (suc q) o)
  parts =
      sym (take-append-drop p o)
      ∙ ap (λ t. take p o ++ t)
      (sym (take-append-drop (suc q - p) (drop p o))
      ∙ ap (λ t. segment o p q ++ t) (drop-drop (suc q - p) p o ∙ (let e : p + (suc q - p) ≡ suc q = omega arith in ap (λ k. drop k o) e)))

  seg_place : (x : ℕ) → Among x (segment o p q) → (p ≤ place o x) × (place o x ≤ q)
  seg_place x a =
      let d = subst Different parts (permutes_different m o perm) in
      let out : Among x (take p o) → ⊥ = λ b. apart (take p o) (segment o p q ++ drop (suc q) o) d x b (among_left x (segment o p q) _ a) in
      let is : place o x ≡ p + place (segment o p q) x =
      ap (λ l. place l x) parts ∙ place_right (take p o) (segment o p q ++ drop (suc q) o) x out
      ∙ omega (arith, front_long, place-left (segment o p q) (drop (suc q) o) x a) in
      (omega arith, omega (arith, is, place_in (segment o p q) x a, mid_long))

  place_seg : (x : ℕ) → p ≤ place o x → place o x ≤ q → Among x (segment o p q)
  place_seg x low high =
      let whole : place o x ≡ place (take p o ++ (segment o p q ++ drop (suc q) o)) x = ap (λ l. place l x) parts in
      let out : Among x (take p o) → ⊥ =
      λ b. omega (arith, low, whole, place-left (take p o) (segment o p q ++ drop (suc q) o) x b, place_in (take p o) x b, front_long) in
      let is = place_right (take p o) (segment o p q ++ drop (suc q) o) x out in
      ⊎_elim (λ a. a)
      (λ a. absurd (omega (arith, high, whole, is, front_long, mid_long, up, place_right (segment o p q) (drop (suc q) o) x a)))
      (cases_among x (segment o p q))

  module _ (f : ℕ → Bool) where
    pub filled_permutes : Arranges m (filled f o p q)
    filled_permutes =
        let mid = segment o p q in
        let rest = drop (suc q) o in
        let d = subst Different parts (permutes_different m o perm) in
        permutes_shuffled m o (filled f o p q) perm
        (omega (
          arith,
          length-append (take p o) (others f mid ++ (those f mid ++ rest)),
          length-append (take p o) (mid ++ rest),
          ap length parts,
          split-length f mid rest,
        ))
        (λ s a.
        ⊎_elim (λ b. among_left s (take p o) _ b) (λ b. among_right s (take p o) _ (split_among f mid rest s b))
        (among_parts s (take p o) (mid ++ rest) (subst (Among s) parts a)))
        (λ s a.
        subst (Among s) (sym parts)
        (⊎_elim (λ b. among_left s (take p o) _ b) (λ b. among_right s (take p o) _ (among_split f mid rest s b))
        (among_parts s (take p o) (others f mid ++ (those f mid ++ rest)) a)))
        (different_both (take p o) (others f mid ++ (those f mid ++ rest)) (different_left (take p o) (mid ++ rest) d)
        (split_different f mid rest (different_right (take p o) (mid ++ rest) d)) (λ s a b. apart (take p o) (mid ++ rest) d s a (among_split f mid rest s b)))

    -- what stood before another still does, unless it moves and the other, no further on than the middle, does not
    pub filled-before : (x y : ℕ) → place o x < place o y → (f x ≡ true → place o y ≤ q → f y ≡ true) → place (filled f o p q) x < place (filled f o p q) y
    filled-before x y h keeps =
        let mid = segment o p q in
        let rest = drop (suc q) o in
        behind_front (take p o) (mid ++ rest) (others f mid ++ (those f mid ++ rest)) x y (subst (λ l. place l x < place l y) parts h)
        (λ inner out. split-before f mid rest x y inner (λ e a. keeps e (seg_place y a).1))

    -- in the middle what moves stands behind what does not
    pub filled-behind : (x y : ℕ) → f x ≡ false → f y ≡ true → p ≤ place o x → place o x ≤ q → p ≤ place o y → place o y ≤ q →
        place (filled f o p q) x < place (filled f o p q) y
    filled-behind x y e t xl xh yl yh =
        let mid = segment o p q in
        let rest = drop (suc q) o in
        let d = subst Different parts (permutes_different m o perm) in
        let a = place_seg x xl xh in
        let b = place_seg y yl yh in
        let here = among_those (λ z. not (f z)) x mid (not_from_false (f x) e) a in
        omega (
          arith,
          place_right (take p o) (others f mid ++ (those f mid ++ rest)) x (λ c. apart (take p o) (mid ++ rest) d x c (among_left x mid rest a)),
          place_right (take p o) (others f mid ++ (those f mid ++ rest)) y (λ c. apart (take p o) (mid ++ rest) d y c (among_left y mid rest b)),
          place-left (others f mid) (those f mid ++ rest) x here,
          place_in (others f mid) x here,
          place_right (others f mid) (those f mid ++ rest) y (not_other f mid rest y t),
        )

    -- outside of the middle nothing changes
    filled_at : (k : ℕ) → (k < p) ⊎ (q < k) → get_or (filled f o p q) k 0 ≡ get_or o k 0
    filled_at k (inl lt) =
        get_or_append_left (take p o) (others f (segment o p q) ++ (those f (segment o p q) ++ drop (suc q) o)) 0 k (omega (arith, front_long))
        ∙ sym (ap (λ l. get_or l k 0) parts ∙ get_or_append_left (take p o) (segment o p q ++ drop (suc q) o) 0 k (omega (arith, front_long)))
    filled_at k (inr gt) =
        let mid = segment o p q in
        let rest = drop (suc q) o in
        let n = length (others f mid) in
        get_or-append_right (take p o) (others f mid ++ (those f mid ++ rest)) p k 0 front_long (omega arith)
        ∙ get_or-append_right (others f mid) (those f mid ++ rest) n (k - p) 0 refl (omega (arith, length-those f mid, mid_long))
        ∙ get_or-append_right (those f mid) rest (length (those f mid)) (k - p - n) 0 refl (omega (arith, length-those f mid, mid_long))
        ∙ (let e : k - p - n - length (those f mid) ≡ k - p - (suc q - p) = omega (arith, length-those f mid, mid_long) in ap (λ j. get_or rest j 0) e)
        ∙ sym (ap (λ l. get_or l k 0) parts ∙ get_or-append_right (take p o) (mid ++ rest) p k 0 front_long (omega arith)
        ∙ get_or-append_right mid rest (suc q - p) (k - p) 0 mid_long (omega arith))

    pub filled-place : (x : ℕ) → x < m → (place (filled f o p q) x < p) ⊎ (q < place (filled f o p q) x) → place o x ≡ place (filled f o p q) x
    filled-place x lt side =
        let o' = filled f o p q in
        let k = place o' x in
        ap (place o) (sym (permutes_at m o' filled_permutes x lt) ∙ filled_at k side) ∙ perm.once k (filled_permutes.each x lt)
