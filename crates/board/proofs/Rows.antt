-- Chains of pins on plain functions: P tells the signal that a pin is on, O what comes after a link in the chain of a signal, B what stands
-- before a pin. A pin enters a chain between its neighbours, or leaves it, and every chain is right again.
use Rattle.std.proofs.Common.{◌≡◌, ℕ, zero, suc, ◌*◌, ◌<◌, ◌≤◌, sym, refl, ap, ◌∙◌, subst, ⊎_elim, arith}
use Rattle.std.proofs.lemmas.Bool.{cases_eq, cases_lt, cases_order}
use Rattle.board.specs.Chain.{Least, Greatest}

-- a link of the chain of v: its start, or a pin on v
abbrev pub On : (ℕ → ℕ) → ℕ → ℕ → ℕ → Type 0
On P top v zero = Unit {0}
On P top v (suc p) = (p < top) × (P p ≡ v)

-- each chain lists the pins on its signal upward, and each pin tells the one before it
pub record Rows (m : ℕ) (P : ℕ → ℕ) (O : ℕ → ℕ → ℕ) (B : ℕ → ℕ) : Type 0 where
  pub within : (x : ℕ) → x < 4 * m → P x ≤ m
  pub onward : (a l : ℕ) → a < m → On P (4 * m) (suc a) l → Least P (4 * m) (suc a) l (O a l)
  pub back : (a x : ℕ) → a < m → x < 4 * m → P x ≡ suc a → Greatest P (suc a) x (B x)

-- ---- the same numbers are on v

pub least_same : (f g : ℕ → ℕ) (top v from r : ℕ) → ((x : ℕ) → from ≤ x → x < top → f x ≡ v → g x ≡ v) → ((x : ℕ) → from ≤ x → x < top → g x ≡ v → f x ≡ v)
    → Least f top v from r → Least g top v from r
least_same f g top v from zero to back h = λ x a b e. h x a b (back x a b e)
least_same f g top v from (suc p) to back h = (h.0, h.1, to p h.0 h.1 h.2, λ x a b e. h.3 x a b (back x a (omega (arith, h.1)) e))

pub greatest_same : (f g : ℕ → ℕ) (v below r : ℕ) → ((x : ℕ) → x < below → f x ≡ v → g x ≡ v) → ((x : ℕ) → x < below → g x ≡ v → f x ≡ v)
    → Greatest f v below r → Greatest g v below r
greatest_same f g v below zero to back h = λ x b e. h x b (back x b e)
greatest_same f g v below (suc p) to back h = (h.0, to p h.0 h.1, λ x a b e. h.2 x a b (back x b e))

-- ---- neighbours

-- a link of the chain below q is no further than the last before q
pub before_bound : (P : ℕ → ℕ) (top v q b l : ℕ) → Greatest P v q b → On P top v l → l ≤ q → l ≤ b
before_bound P top v q b zero g on le = omega arith
before_bound P top v q zero (suc x) g on le = absurd (g x (omega arith) on.1)
before_bound P top v q (suc p) (suc x) g on le = ⊎_elim (λ lt. absurd (g.2 x lt (omega arith) on.1)) (λ h. omega arith) (cases_lt p x)

pub before-below : (P : ℕ → ℕ) (v q b : ℕ) → Greatest P v q b → b ≤ q
before-below P v q zero g = omega arith
before-below P v q (suc p) g = omega (arith, g.0)

-- a number on v from `from` on bounds the least one
pub least_bound : (P : ℕ → ℕ) (top v from r p : ℕ) → Least P top v from r → from ≤ p → p < top → P p ≡ v → (0 < r) × (r ≤ suc p)
least_bound P top v from zero p h le lt e = absurd (h p le lt e)
least_bound P top v from (suc y) p h le lt e = (omega arith, ⊎_elim (λ less. absurd (h.3 p le less e)) (λ k. omega arith) (cases_lt p y))

-- a least one leads upward
pub least_step : (P : ℕ → ℕ) (top v from r : ℕ) → Least P top v from r → 0 < r → from < r
least_step P top v from zero h some = absurd (omega arith)
least_step P top v from (suc p) h some = omega (arith, h.0)

-- a number on v below x bounds the greatest one
pub greatest_bound : (P : ℕ → ℕ) (v x r p : ℕ) → Greatest P v x r → p < x → P p ≡ v → p < r
greatest_bound P v x zero p h lt e = absurd (h p lt e)
greatest_bound P v x (suc y) p h lt e = ⊎_elim (λ less. absurd (h.2 p less lt e)) (λ k. omega arith) (cases_lt y p)

-- nothing on v between the greatest one below q, and q
pub greatest_none : (P : ℕ → ℕ) (v q b x : ℕ) → Greatest P v q b → b ≤ x → x < q → P x ≡ v → ⊥
greatest_none P v q b x g le lt e = let less = greatest_bound P v q b x g lt e in omega arith

-- ---- a change of pin q alone

module _ (top v q : ℕ) (P P' : ℕ → ℕ) (same : (x : ℕ) → x < top → (x ≡ q → ⊥) → P' x ≡ P x) where
  on_before : (l : ℕ) → On P' top v l → (l ≡ suc q → ⊥) → On P top v l
  on_before zero on ne = tt
  on_before (suc x) on ne = (on.0, sym (same x on.0 (λ e. ne (ap suc e))) ∙ on.1)

  least_above : (l r : ℕ) → q < l → Least P top v l r → Least P' top v l r
  least_above l r lt h = least_same P P' top v l r (λ x a b e. same x b (λ i. omega arith) ∙ e) (λ x a b e. sym (same x b (λ i. omega arith)) ∙ e) h

  greatest_under : (x r : ℕ) → x ≤ q → x ≤ top → Greatest P v x r → Greatest P' v x r
  greatest_under x r le low g =
      greatest_same P P' v x r (λ y a e. same y (omega arith) (λ i. omega arith) ∙ e) (λ y a e. sym (same y (omega arith) (λ i. omega arith)) ∙ e) g

  -- where q is on v neither before nor after
  least_apart : (l r : ℕ) → (P q ≡ v → ⊥) → (P' q ≡ v → ⊥) → Least P top v l r → Least P' top v l r
  least_apart l r off off' h =
      least_same P P' top v l r
      (λ x a b e. same x b (λ i. off (ap P (sym i) ∙ e)) ∙ e)
      (λ x a b e. sym (same x b (λ i. off' (ap P' (sym i) ∙ e))) ∙ e)
      h

  greatest_apart : (x r : ℕ) → x ≤ top → (P q ≡ v → ⊥) → (P' q ≡ v → ⊥) → Greatest P v x r → Greatest P' v x r
  greatest_apart x r low off off' g =
      greatest_same P P' v x r
      (λ y a e. same y (omega arith) (λ i. off (ap P (sym i) ∙ e)) ∙ e)
      (λ y a e. sym (same y (omega arith) (λ i. off' (ap P' (sym i) ∙ e))) ∙ e)
      g

  -- a least one that is no further than some p below q
  least_low : (l r p : ℕ) → p < q → l ≤ p → p < top → P p ≡ v → Least P top v l r → Least P' top v l r
  least_low l zero p under le lt e h = absurd (h p le lt e)
  least_low l (suc y) p under le lt e h =
      let bound = least_bound P top v l (suc y) p h le lt e in (
        h.0,
        h.1,
        same y h.1 (λ i. omega (arith, bound.1)) ∙ h.2,
        λ x a b i. h.3 x a b (sym (same x (omega (arith, h.1)) (λ k. omega (arith, bound.1))) ∙ i),
      )

  -- a greatest one that is no lower than some p above q
  greatest_high : (x r p : ℕ) → x ≤ top → q < p → p < x → P p ≡ v → Greatest P v x r → Greatest P' v x r
  greatest_high x zero p low over lt e g = absurd (g p lt e)
  greatest_high x (suc y) p low over lt e g =
      let bound = greatest_bound P v x (suc y) p g lt e in (
        g.0,
        same y (omega (arith, g.0)) (λ i. omega (arith, bound)) ∙ g.1,
        λ z a b i. g.2 z a b (sym (same z (omega arith) (λ k. omega (arith, bound))) ∙ i),
      )

  -- a link that is not next to q
  low_else : (b l r : ℕ) → q ≤ top → Greatest P v q b → On P top v l → l ≤ q → (l ≡ b → ⊥) → Least P top v l r → Least P' top v l r
  low_else zero l r low g on le ne h = let bound = before_bound P top v q zero l g on le in absurd (ne (omega arith))
  low_else (suc p) l r low g on le ne h =
      let bound = before_bound P top v q (suc p) l g on le in
      let less : l ≤ p = ⊎_elim (λ e. absurd (ne e)) (λ k. omega arith) (cases_eq l (suc p)) in
      least_low l r p g.0 less (omega (arith, g.0)) g.1 h

  pub least_else : (b l r : ℕ) → q ≤ top → Greatest P v q b → On P top v l → (l ≡ b → ⊥) → Least P top v l r → Least P' top v l r
  least_else b l r low g on ne h =
      ⊎_elim (λ over. least_above l r over h) (λ le. low_else b l r low g on le ne h) (cases_lt q l)

  high_else : (d x r : ℕ) → x < top → Least P top v (suc q) d → P x ≡ v → q < x → (d ≡ suc x → ⊥) → Greatest P v x r → Greatest P' v x r
  high_else zero x r lt h e over ne g = absurd (h x over lt e)
  high_else (suc p) x r lt h e over ne g =
      let bound = least_bound P top v (suc q) (suc p) x h over lt e in
      let less : p < x = ⊎_elim (λ i. absurd (ne (ap suc i))) (λ k. omega (arith, bound.1)) (cases_eq p x) in
      greatest_high x r p (omega arith) h.0 less h.2 g

  pub greatest_else : (d x r : ℕ) → x < top → Least P top v (suc q) d → P x ≡ v → (d ≡ suc x → ⊥) → Greatest P v x r → Greatest P' v x r
  greatest_else d x r lt h e ne g =
      ⊎_elim (λ over. high_else d x r lt h e over ne g) (λ le. greatest_under x r le (omega arith) g) (cases_lt q x)

-- ---- the neighbours of pin q in the chain of s are joined anew

-- what comes after b is `onward`, what stands before d is `back`; of other pins than q nothing else changes
pub record Joins (m s q b d onward back : ℕ) (O O' : ℕ → ℕ → ℕ) (B B' : ℕ → ℕ) : Type 0 where
  pub leads : O' s b ≡ onward
  pub others : (a l : ℕ) → a < m → l ≤ 4 * m → (l ≡ suc q → ⊥) → (l ≡ b → (l ≡ 0 → a ≡ s) → ⊥) → O' a l ≡ O a l
  pub before : (p : ℕ) → d ≡ suc p → B' p ≡ back
  pub backs : (x : ℕ) → x < 4 * m → (x ≡ q → ⊥) → (d ≡ suc x → ⊥) → B' x ≡ B x

-- a link of another chain is not the link b
apart_before : (P : ℕ → ℕ) (top a s q b l : ℕ) → On P top (suc a) l → Greatest P (suc s) q b → (a ≡ s → ⊥) → l ≡ b → (l ≡ 0 → a ≡ s) → ⊥
apart_before P top a s q b zero on g ne e z = ne (z refl)
apart_before P top a s q zero (suc x) on g ne e z = omega arith
apart_before P top a s q (suc p) (suc x) on g ne e z =
    let i : x ≡ p = omega arith in
    let k : suc a ≡ suc s = sym on.1 ∙ ap P i ∙ g.1 in ne (omega arith)

-- nor is a pin of another chain the one at d
apart_behind : (P : ℕ → ℕ) (top a s from d x : ℕ) → P x ≡ suc a → Least P top (suc s) from d → (a ≡ s → ⊥) → d ≡ suc x → ⊥
apart_behind P top a s from zero x e h ne i = omega arith
apart_behind P top a s from (suc p) x e h ne i =
    let j : x ≡ p = omega arith in
    let k : suc a ≡ suc s = sym e ∙ ap P j ∙ h.2 in ne (omega arith)

on_bound : (P : ℕ → ℕ) (top v l : ℕ) → On P top v l → l ≤ top
on_bound P top v zero on = omega arith
on_bound P top v (suc x) on = omega (arith, on.0)

on_pin : (P : ℕ → ℕ) (top v q l : ℕ) → On P top v l → l ≡ suc q → P q ≡ v
on_pin P top v q zero on e = absurd (omega arith)
on_pin P top v q (suc x) on e = let i : q ≡ x = omega arith in ap P i ∙ on.1

module _ (m s q b d onward back : ℕ) (P P' : ℕ → ℕ) (O O' : ℕ → ℕ → ℕ) (B B' : ℕ → ℕ) (rows : Rows m P O B) (q-low : q < 4 * m) (s_low : s < m)
    (same : (x : ℕ) → x < 4 * m → (x ≡ q → ⊥) → P' x ≡ P x) (g : Greatest P (suc s) q b) (h : Least P (4 * m) (suc s) (suc q) d)
    (joins : Joins m s q b d onward back O O' B B') where
  -- every chain but that of s
  other_onward : (a l : ℕ) → a < m → (a ≡ s → ⊥) → (P q ≡ suc a → ⊥) → (P' q ≡ suc a → ⊥) → On P' (4 * m) (suc a) l
      → Least P' (4 * m) (suc a) l (O' a l)
  other_onward a l low ne off off' on' =
      let away : l ≡ suc q → ⊥ = λ e. off' (on_pin P' (4 * m) (suc a) q l on' e) in
      let on : On P (4 * m) (suc a) l = on_before (4 * m) (suc a) q P P' same l on' away in
      let is : O' a l ≡ O a l = joins.others a l low (on_bound P (4 * m) (suc a) l on) away (apart_before P (4 * m) a s q b l on g ne) in
      subst (Least P' (4 * m) (suc a) l) (sym is) (least_apart (4 * m) (suc a) q P P' same l (O a l) off off' (rows.onward a l low on))

  other_back : (a x : ℕ) → a < m → (a ≡ s → ⊥) → (P q ≡ suc a → ⊥) → (P' q ≡ suc a → ⊥) → x < 4 * m → P' x ≡ suc a → Greatest P' (suc a) x (B' x)
  other_back a x low ne off off' lt e =
      let away : x ≡ q → ⊥ = λ i. off' (ap P' (sym i) ∙ e) in
      let on : P x ≡ suc a = sym (same x lt away) ∙ e in
      let is : B' x ≡ B x = joins.backs x lt away (apart_behind P (4 * m) a s (suc q) d x on h ne) in
      subst (Greatest P' (suc a) x) (sym is) (greatest_apart (4 * m) (suc a) q P P' same x (B x) (omega arith) off off' (rows.back a x low lt on))

  -- the links of the chain of s that are not next to q
  far_onward : (l : ℕ) → (l ≡ suc q → ⊥) → (l ≡ b → ⊥) → On P' (4 * m) (suc s) l → Least P' (4 * m) (suc s) l (O' s l)
  far_onward l away ne on' =
      let on : On P (4 * m) (suc s) l = on_before (4 * m) (suc s) q P P' same l on' away in
      let is : O' s l ≡ O s l = joins.others s l s_low (on_bound P (4 * m) (suc s) l on) away (λ e _. ne e) in
      subst (Least P' (4 * m) (suc s) l) (sym is) (least_else (4 * m) (suc s) q P P' same b l (O s l) (omega arith) g on ne (rows.onward s l s_low on))

  far_back : (x : ℕ) → (x ≡ q → ⊥) → (d ≡ suc x → ⊥) → x < 4 * m → P' x ≡ suc s → Greatest P' (suc s) x (B' x)
  far_back x away ne lt e =
      let on : P x ≡ suc s = sym (same x lt away) ∙ e in
      let is : B' x ≡ B x = joins.backs x lt away ne in
      subst (Greatest P' (suc s) x) (sym is) (greatest_else (4 * m) (suc s) q P P' same d x (B x) lt h on ne (rows.back s x s_low lt on))

  -- all chains, from that of s
  all_rows : P' q ≤ m → ((a : ℕ) → (a ≡ s → ⊥) → P q ≡ suc a → ⊥) → ((a : ℕ) → (a ≡ s → ⊥) → P' q ≡ suc a → ⊥)
      → ((l : ℕ) → On P' (4 * m) (suc s) l → Least P' (4 * m) (suc s) l (O' s l))
      → ((x : ℕ) → x < 4 * m → P' x ≡ suc s → Greatest P' (suc s) x (B' x))
      → Rows m P' O' B'
  all_rows few off off' own-onward own_back =
      record {
        within = λ x lt. ⊎_elim (λ e. subst (λ y. P' y ≤ m) (sym e) few) (λ ne. rw (same x lt ne) (rows.within x lt)) (cases_eq x q);
        onward = λ a l low on.
            ⊎_elim
            (λ e. subst (λ i. Least P' (4 * m) (suc i) l (O' i l)) (sym e) (own-onward l (subst (λ i. On P' (4 * m) (suc i) l) e on)))
            (λ ne. other_onward a l low ne (off a ne) (off' a ne) on)
            (cases_eq a s);
        back = λ a x low lt e.
            ⊎_elim
            (λ i. subst (λ k. Greatest P' (suc k) x (B' x)) (sym i) (own_back x lt (e ∙ ap suc i)))
            (λ ne. other_back a x low ne (off a ne) (off' a ne) lt e)
            (cases_eq a s);
      }

-- ---- pin q enters the chain of s

module _ (m s q b d : ℕ) (P P' : ℕ → ℕ) (O O' : ℕ → ℕ → ℕ) (B B' : ℕ → ℕ) (rows : Rows m P O B) (q-low : q < 4 * m) (s_low : s < m)
    (same : (x : ℕ) → x < 4 * m → (x ≡ q → ⊥) → P' x ≡ P x) (g : Greatest P (suc s) q b) (h : Least P (4 * m) (suc s) (suc q) d)
    (joins : Joins m s q b d (suc q) (suc q) O O' B B') (was : P q ≡ 0) (is : P' q ≡ suc s) (onward : O' s (suc q) ≡ d) (back : B' q ≡ b) where
  enters_onward : (l : ℕ) → On P' (4 * m) (suc s) l → Least P' (4 * m) (suc s) l (O' s l)
  enters_onward l on =
      ⊎_elim
      (λ e.
      subst (λ k. Least P' (4 * m) (suc s) k (O' s k)) (sym e)
      (subst (Least P' (4 * m) (suc s) (suc q)) (sym onward) (least_above (4 * m) (suc s) q P P' same (suc q) d (omega arith) h)))
      (λ away.
      ⊎_elim
      (λ e.
      subst (λ k. Least P' (4 * m) (suc s) k (O' s k)) (sym e)
      (subst (Least P' (4 * m) (suc s) b) (sym joins.leads) (
        before-below P (suc s) q b g,
        q-low,
        is,
        λ y le lt i. greatest_none P (suc s) q b y g le lt (sym (same y (omega arith) (λ k. omega arith)) ∙ i),
      )))
      (λ ne. far_onward m s q b d (suc q) (suc q) P P' O O' B B' rows q-low s_low same g h joins l away ne on)
      (cases_eq l b))
      (cases_eq l (suc q))

  enters_back : (x : ℕ) → x < 4 * m → P' x ≡ suc s → Greatest P' (suc s) x (B' x)
  enters_back x lt e =
      ⊎_elim
      (λ i.
      subst (λ k. Greatest P' (suc s) k (B' k)) (sym i)
      (subst (Greatest P' (suc s) q) (sym back) (greatest_under (4 * m) (suc s) q P P' same q b (omega arith) (omega arith) g)))
      (λ away.
      ⊎_elim
      (λ i.
      let there : Least P (4 * m) (suc s) (suc q) (suc x) = subst (Least P (4 * m) (suc s) (suc q)) i h in
      subst (Greatest P' (suc s) x) (sym (joins.before x i))
      (there.0, is, λ z over under k. there.3 z over under (sym (same z (omega arith) (λ j. omega arith)) ∙ k)))
      (λ ne. far_back m s q b d (suc q) (suc q) P P' O O' B B' rows q-low s_low same g h joins x away ne lt e)
      (cases_eq d (suc x)))
      (cases_eq x q)

  pub enters : Rows m P' O' B'
  enters =
      all_rows m s q b d (suc q) (suc q) P P' O O' B B' rows q-low s_low same g h joins (rw is s_low)
      (λ a ne e. let k : 0 ≡ suc a = sym was ∙ e in omega arith)
      (λ a ne e. let k : suc s ≡ suc a = sym is ∙ e in ne (omega arith))
      enters_onward enters_back

-- ---- pin q leaves the chain of s

module _ (m s q b d : ℕ) (P P' : ℕ → ℕ) (O O' : ℕ → ℕ → ℕ) (B B' : ℕ → ℕ) (rows : Rows m P O B) (q-low : q < 4 * m) (s_low : s < m)
    (same : (x : ℕ) → x < 4 * m → (x ≡ q → ⊥) → P' x ≡ P x) (g : Greatest P (suc s) q b) (h : Least P (4 * m) (suc s) (suc q) d)
    (joins : Joins m s q b d d b O O' B B') (was : P q ≡ suc s) (is : P' q ≡ 0) where
  -- between the neighbours nothing is left on s
  off : (x : ℕ) → P' x ≡ suc s → x ≡ q → ⊥
  off x e i = let k : 0 ≡ suc s = sym is ∙ ap P' (sym i) ∙ e in omega arith

  still : (x : ℕ) → x < 4 * m → P' x ≡ suc s → P x ≡ suc s
  still x lt e = sym (same x lt (off x e)) ∙ e

  bare_above : (x : ℕ) → b ≤ x → x < 4 * m → (q < x → P x ≡ suc s → ⊥) → P' x ≡ suc s → ⊥
  bare_above x le lt above e =
      ⊎_elim (λ i. off x e i) (⊎_elim (λ under. greatest_none P (suc s) q b x g le under (still x lt e)) (λ over. above over (still x lt e))) (cases_order x q)

  bare-below : (x : ℕ) → x < 4 * m → (x < q → P x ≡ suc s → ⊥) → (q < x → P x ≡ suc s → ⊥) → P' x ≡ suc s → ⊥
  bare-below x lt below above e =
      ⊎_elim (λ i. off x e i) (⊎_elim (λ under. below under (still x lt e)) (λ over. above over (still x lt e))) (cases_order x q)

  over_least : (e : ℕ) → Least P (4 * m) (suc s) (suc q) e → Least P' (4 * m) (suc s) b e
  over_least zero k = λ x le lt. bare_above x le lt (λ over. k x over lt)
  over_least (suc p) k =
      let low = before-below P (suc s) q b g in (
        omega (arith, k.0),
        k.1,
        same p k.1 (λ i. omega (arith, k.0)) ∙ k.2,
        λ x le lt. bare_above x le (omega (arith, k.1)) (λ over. k.3 x over lt),
      )

  over_greatest : (e x : ℕ) → x < 4 * m → Least P (4 * m) (suc s) (suc q) (suc x) → Greatest P (suc s) q e → Greatest P' (suc s) x e
  over_greatest zero x lt k g' = λ y under. bare-below y (omega arith) (λ low. g' y low) (λ over. k.3 y over under)
  over_greatest (suc p) x lt k g' = (
    omega (arith, k.0, g'.0),
    same p (omega (arith, g'.0)) (λ i. omega (arith, g'.0)) ∙ g'.1,
    λ y above under. bare-below y (omega arith) (λ low. g'.2 y above low) (λ over. k.3 y over under),
  )

  leaves_onward : (l : ℕ) → On P' (4 * m) (suc s) l → Least P' (4 * m) (suc s) l (O' s l)
  leaves_onward l on =
      ⊎_elim
      (λ e. subst (λ k. Least P' (4 * m) (suc s) k (O' s k)) (sym e) (subst (Least P' (4 * m) (suc s) b) (sym joins.leads) (over_least d h)))
      (λ ne.
      far_onward m s q b d d b P P' O O' B B' rows q-low s_low same g h joins l
      (λ e. let k : 0 ≡ suc s = sym is ∙ on_pin P' (4 * m) (suc s) q l on e in omega arith)
      ne on)
      (cases_eq l b)

  leaves_back : (x : ℕ) → x < 4 * m → P' x ≡ suc s → Greatest P' (suc s) x (B' x)
  leaves_back x lt e =
      ⊎_elim
      (λ i. subst (Greatest P' (suc s) x) (sym (joins.before x i)) (over_greatest b x lt (subst (Least P (4 * m) (suc s) (suc q)) i h) g))
      (λ ne. far_back m s q b d d b P P' O O' B B' rows q-low s_low same g h joins x (off x e) ne lt e)
      (cases_eq d (suc x))

  pub leaves : Rows m P' O' B'
  leaves =
      all_rows m s q b d d b P P' O O' B B' rows q-low s_low same g h joins (omega (arith, is))
      (λ a ne e. let k : suc s ≡ suc a = sym was ∙ e in ne (omega arith))
      (λ a ne e. let k : 0 ≡ suc a = sym is ∙ e in omega arith)
      leaves_onward leaves_back
