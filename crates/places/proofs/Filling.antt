-- The walk that fills places anew, step by step.
use Rattle.std.proofs.Common.{◌≡◌, ℕ, suc, ◌+◌, ◌-◌, ◌*◌, ◌<◌, ◌≤◌, Bool, true, false, cond, not, List, [], ◌∷◌, ◌++◌, length, get_or, take, drop, set, sym, refl, ap, ◌∙◌, subst, arith}
use Rattle.std.proofs.lemmas.List.{append-nil, append_assoc, length-append, length-take-le, length-drop, length_push, take-append-drop, take_all, take_more, take_at, drop_at, drop_more, drop-drop, get_or-drop, set_at, get_or-append_right}
use Rattle.std.proofs.lemmas.Bool.{cond-true, cond-false, not_from_false, not_from_true}
use Rattle.netlist.specs.Places.{those, segment}
use Rattle.board.specs.Layout.{word, needed}
use Rattle.board.specs.Board.{order_of}
use Rattle.places.specs.Refill.{Range, Reordered, Walked, others, filled}
use Rattle.places.proofs.Standing.{length-those}
use Rattle.places.proofs.Words.{length-order, order_at, reordered_none, reordered_set, reordered_on}

-- one number more at the end
those-push : (f : ℕ → Bool) (xs : List ℕ) (x : ℕ) → those f (xs ++ x ∷ []) ≡ those f xs ++ cond (f x) (x ∷ []) []
those-push f [] x = refl
those-push f (z ∷ xs) x = go (f z) (those-push f xs x)
  where
    go : (b : Bool) → those f (xs ++ x ∷ []) ≡ those f xs ++ cond (f x) (x ∷ []) [] →
        cond b (z ∷ those f (xs ++ x ∷ [])) (those f (xs ++ x ∷ [])) ≡ cond b (z ∷ those f xs) (those f xs) ++ cond (f x) (x ∷ []) []
    go true e = ap (λ l. z ∷ l) e
    go false e = e

those_takes : (f : ℕ → Bool) (xs : List ℕ) (x : ℕ) → f x ≡ true → those f (xs ++ x ∷ []) ≡ those f xs ++ x ∷ []
those_takes f xs x e = those-push f xs x ∙ ap (λ l. those f xs ++ l) (cond-true (f x) _ _ e)

those_leaves : (f : ℕ → Bool) (xs : List ℕ) (x : ℕ) → f x ≡ false → those f (xs ++ x ∷ []) ≡ those f xs
those_leaves f xs x e = those-push f xs x ∙ ap (λ l. those f xs ++ l) (cond-false (f x) _ _ e) ∙ append-nil (those f xs)

-- the front of a list grows into its rest
set_front : (xs o : List ℕ) (n x : ℕ) → length xs ≡ n → n < length o → set (xs ++ drop n o) n x ≡ (xs ++ x ∷ []) ++ drop (n + 1) o
set_front xs o n x long lt =
    ap (λ l. set (xs ++ l) n x) (drop_more o n 0 lt) ∙ set_at xs (get_or o n 0) (drop (n + 1) o) x n long ∙ sym (append_assoc xs (x ∷ []) (drop (n + 1) o))

module _ (f : ℕ → Bool) (m : ℕ) (ws : List ℕ) (low high : ℕ) (range : Range m ws low high) where
  pub walked_none : (back : List ℕ) → back ≡ [] → Walked f m ws low 0 ws low back
  walked_none back none =
      let o = order_of m ws in
      record {
        words = reordered_none m ws _ (sym (ap (λ l. l ++ drop low o) (append-nil (take low o)) ∙ take-append-drop low o));
        fills = omega arith;
        holds = none;
      }

  module _ (place next : ℕ) (ws' : List ℕ) (back : List ℕ) (after : low ≤ place) (inside : place ≤ high)
      (was : Walked f m ws low (place - low) ws' next back) where
    met_long : length (take (place - low) (drop low (order_of m ws))) ≡ place - low
    met_long =
        length-take-le (place - low) (drop low (order_of m ws)) (omega (arith, range.within, length-drop low (order_of m ws), length-order m ws))

    next_low : next ≤ place
    next_low = omega (arith, was.fills, met_long, length-those f (take (place - low) (drop low (order_of m ws))))

    front_long : length (take low (order_of m ws) ++ others f (take (place - low) (drop low (order_of m ws)))) ≡ next
    front_long =
        omega (
          arith,
          was.fills,
          range.within,
          length-append (take low (order_of m ws)) (others f (take (place - low) (drop low (order_of m ws)))),
          length-take-le low (order_of m ws) (omega (arith, range.within, length-order m ws)),
        )

    -- what is read is what stood there
    pub walked_read : word ws' (4 * m + place) ≡ get_or (order_of m ws) place 0
    walked_read =
        let o = order_of m ws in
        let front = take low o ++ others f (take (place - low) (drop low o)) in
        sym (order_at m ws' place (omega (arith, range.within)))
        ∙ ap (λ l. get_or l place 0) was.words.order
        ∙ get_or-append_right front (drop next o) next place 0 front_long next_low
        ∙ get_or-drop next o (place - next) 0
        ∙ (let e : next + (place - next) ≡ place = omega (arith, next_low) in ap (λ k. get_or o k 0) e)

    met_more : (x : ℕ) → x ≡ word ws' (4 * m + place) →
        take (place + 1 - low) (drop low (order_of m ws)) ≡ take (place - low) (drop low (order_of m ws)) ++ x ∷ []
    met_more x read =
        let o = order_of m ws in
        (let e : place + 1 - low ≡ place - low + 1 = omega arith in ap (λ k. take k (drop low o)) e)
        ∙ take_more (drop low o) (place - low) 0 (omega (arith, range.within, length-drop low o, length-order m ws))
        ∙ ap (λ v. take (place - low) (drop low o) ++ v ∷ [])
        (get_or-drop low o (place - low) 0 ∙ (let e : low + (place - low) ≡ place = omega arith in ap (λ k. get_or o k 0) e) ∙ sym (read ∙ walked_read))

    -- a signal that moves is held back
    pub walked_holds : (x : ℕ) (back' : List ℕ) → x ≡ word ws' (4 * m + place) → f x ≡ true → back' ≡ back ++ x ∷ [] →
        Walked f m ws low (place + 1 - low) ws' next back'
    walked_holds x back' read moves push =
        let o = order_of m ws in
        let old = take (place - low) (drop low o) in
        let more = met_more x read in
        let same : others f old ≡ others f (take (place + 1 - low) (drop low o)) =
        sym (ap (others f) more ∙ those_leaves (λ z. not (f z)) old x (not_from_true (f x) moves)) in
        record {
          words = subst (λ l. Reordered m ws ((take low o ++ l) ++ drop next o) ws') same was.words;
          fills = was.fills ∙ ap (λ l. low + length l) same;
          holds = push ∙ ap (λ l. l ++ x ∷ []) was.holds ∙ sym (ap (those f) more ∙ those_takes f old x moves);
        }

    -- any other is written
    pub walked_writes : (x at : ℕ) → x ≡ word ws' (4 * m + place) → f x ≡ false → at ≡ 4 * m + next →
        Walked f m ws low (place + 1 - low) (set ws' at x) (next + 1) back
    walked_writes x at read stays is =
        let o = order_of m ws in
        let old = take (place - low) (drop low o) in
        let more = met_more x read in
        let grown : others f (take (place + 1 - low) (drop low o)) ≡ others f old ++ x ∷ [] =
        ap (others f) more ∙ those_takes (λ z. not (f z)) old x (not_from_false (f x) stays) in
        record {
          words =
              reordered_set m ws _ _ ws' at next x range.long was.words (omega (arith, next_low, range.within)) is
              (set_front (take low o ++ others f old) o next x front_long (omega (arith, next_low, range.within, length-order m ws))
              ∙ ap (λ l. l ++ drop (next + 1) o) (append_assoc (take low o) (others f old) (x ∷ []) ∙ ap (λ l. take low o ++ l) (sym grown)));
          fills = omega (arith, was.fills, ap length grown, length_push (others f old) x);
          holds = was.holds ∙ sym (ap (those f) more ∙ those_leaves f old x stays);
        }

  -- the signals held back are written behind the others
  pub walked_all : (next count : ℕ) (ws₁ ws₂ back : List ℕ) → Walked f m ws low (suc high - low) ws₁ next back → length back ≡ count →
      (needed m ≤ length ws₁ → next + count ≤ m → Reordered m ws₁ (take next (order_of m ws₁) ++ (back ++ drop (next + count) (order_of m ws₁))) ws₂) →
      Reordered m ws (filled f (order_of m ws) low high) ws₂
  walked_all next count ws₁ ws₂ back was many writes =
      let o = order_of m ws in
      let seg = segment o low high in
      let front = take low o ++ others f seg in
      let seg-long : length seg ≡ suc high - low =
      length-take-le (suc high - low) (drop low o) (omega (arith, range.upward, range.within, length-drop low o, length-order m ws)) in
      let long : length front ≡ next =
      omega (
        arith,
        was.fills,
        range.upward,
        range.within,
        length-append (take low o) (others f seg),
        length-take-le low o (omega (arith, range.upward, range.within, length-order m ws)),
      ) in
      let top : next + count ≡ suc high =
      omega (arith, was.fills, many, ap length was.holds, length-those f seg, seg-long, range.upward) in
      let last = writes (omega (arith, range.long, was.words.size)) (omega (arith, top, range.within)) in
      let order : take next (order_of m ws₁) ++ (back ++ drop (next + count) (order_of m ws₁)) ≡ filled f o low high =
      (λ i. take next (was.words.order i) ++ (was.holds i ++ drop (next + count) (was.words.order i)))
      ∙ ap (λ l. l ++ (those f seg ++ drop (next + count) (front ++ drop next o))) (take_at front (drop next o) next long)
      ∙ ap (λ l. front ++ (those f seg ++ l))
      (sym (drop-drop count next (front ++ drop next o)) ∙ ap (drop count) (drop_at front (drop next o) next long) ∙ drop-drop count next o ∙ ap (λ k. drop k o) top)
      ∙ append_assoc (take low o) (others f seg) (those f seg ++ drop (suc high) o) in
      subst (λ l. Reordered m ws l ws₂) order (reordered_on m ws _ ws₁ _ ws₂ was.words last)

-- ---- writing a list from a place on

module _ (m : ℕ) (ws : List ℕ) (from : ℕ) (xs : List ℕ) (long : needed m ≤ length ws) where
  pub pasted_none : Reordered m ws (take from (order_of m ws) ++ (take 0 xs ++ drop (from + 0) (order_of m ws))) ws
  pasted_none =
      let o = order_of m ws in
      reordered_none m ws _ (sym ((let e : from + 0 ≡ from = omega arith in ap (λ k. take from o ++ drop k o) e) ∙ take-append-drop from o))

  pub pasted_more : (i at x : ℕ) (ws' : List ℕ) → i < length xs → from + i < m → at ≡ 4 * m + (from + i) → x ≡ get_or xs i 0 →
      Reordered m ws (take from (order_of m ws) ++ (take i xs ++ drop (from + i) (order_of m ws))) ws' →
      Reordered m ws (take from (order_of m ws) ++ (take (i + 1) xs ++ drop (from + (i + 1)) (order_of m ws))) (set ws' at x)
  pasted_more i at x ws' some inside is read was =
      let o = order_of m ws in
      let front = take from o ++ take i xs in
      let front_long : length front ≡ from + i =
      omega (arith, length-append (take from o) (take i xs), length-take-le from o (omega (arith, length-order m ws)), length-take-le i xs (omega arith)) in
      reordered_set m ws _ _ ws' at (from + i) x long was inside is
      (ap (λ l. set l (from + i) x) (sym (append_assoc (take from o) (take i xs) (drop (from + i) o)))
      ∙ set_front front o (from + i) x front_long (omega (arith, length-order m ws))
      ∙ ap (λ l. l ++ drop (from + i + 1) o)
      (append_assoc (take from o) (take i xs) (x ∷ [])
      ∙ ap (λ l. take from o ++ l) (ap (λ v. take i xs ++ v ∷ []) read ∙ sym (take_more xs i 0 some)))
      ∙ append_assoc (take from o) (take (i + 1) xs) (drop (from + i + 1) o)
      ∙ (let e : from + i + 1 ≡ from + (i + 1) = omega arith in ap (λ k. take from o ++ (take (i + 1) xs ++ drop k o)) e))

  pub pasted_all : (count : ℕ) (ws' : List ℕ) → length xs ≡ count → (i : ℕ) → i ≡ count →
      Reordered m ws (take from (order_of m ws) ++ (take i xs ++ drop (from + i) (order_of m ws))) ws' →
      Reordered m ws (take from (order_of m ws) ++ (xs ++ drop (from + count) (order_of m ws))) ws'
  pasted_all count ws' size i all was =
      let o = order_of m ws in
      subst (λ l. Reordered m ws (take from o ++ (l ++ drop (from + count) o)) ws') (take_all count xs (omega arith))
      (subst (λ k. Reordered m ws (take from o ++ (take k xs ++ drop (from + k) o)) ws') all was)
