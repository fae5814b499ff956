-- The words of a board as the plain functions of its chains, and what the writes of a change leave of them.
use Rattle.std.proofs.Common.{◌≡◌, ℕ, zero, suc, ◌+◌, ◌*◌, ◌<◌, ◌≤◌, eqb, List, length, set, sym, refl, ◌∙◌, subst, ⊎_elim, arith}
use Rattle.std.proofs.lemmas.List.{get_or-set_same, get_or-set_other, length-set}
use Rattle.std.proofs.lemmas.Bool.{cases_eq, eq-eqb, ne_eqb, cond-true, cond-false}
use Rattle.board.specs.Layout.{word, pin, next, back, needed}
use Rattle.board.specs.Chain.{Least, Greatest, Chained, Repins}
use Rattle.board.specs.Links.{onward_at, backed, joined, inserted, removed}
use Rattle.board.proofs.Rows.{On, Rows, Joins, enters, leaves, before-below}

-- what comes after a link, told by the words
abbrev pub onward_of : ℕ → List ℕ → ℕ → ℕ → ℕ
onward_of m ws a l = word ws (onward_at m a l)

-- ---- chained words are right chains

module _ (m : ℕ) (ws : List ℕ) where
  rows_onward : Chained m ws → (a l : ℕ) → a < m → On (pin m ws) (4 * m) (suc a) l → Least (pin m ws) (4 * m) (suc a) l (onward_of m ws a l)
  rows_onward chained a zero low on = chained.firsts a low
  rows_onward chained a (suc x) low on =
      subst (λ v. Least (pin m ws) (4 * m) v (suc x) (next m ws x)) on.1 (chained.nexts x on.0 (omega (arith, on.1)))

  pub rows_of : Chained m ws → Rows m (pin m ws) (onward_of m ws) (back m ws)
  rows_of chained =
      record {
        within = chained.within;
        onward = rows_onward chained;
        back = λ a x low lt e. subst (λ v. Greatest (pin m ws) v x (back m ws x)) e (chained.backs x lt (omega (arith, e)));
      }

  module _ (rows : Rows m (pin m ws) (onward_of m ws) (back m ws)) where
    chained_next : (q v : ℕ) → q < 4 * m → pin m ws q ≡ v → 0 < v → Least (pin m ws) (4 * m) v (suc q) (next m ws q)
    chained_next q zero lt e some = absurd (omega arith)
    chained_next q (suc a) lt e some = rows.onward a (suc q) (omega (arith, rows.within q lt)) (lt, e)

    chained_back : (q v : ℕ) → q < 4 * m → pin m ws q ≡ v → 0 < v → Greatest (pin m ws) v q (back m ws q)
    chained_back q zero lt e some = absurd (omega arith)
    chained_back q (suc a) lt e some = rows.back a q (omega (arith, rows.within q lt)) lt e

    pub chained_of : needed m ≤ length ws → Chained m ws
    chained_of long =
        record {
          long = long;
          within = rows.within;
          firsts = λ a low. rows.onward a 0 low tt;
          nexts = λ q lt some. chained_next q (pin m ws q) lt refl some;
          backs = λ q lt some. chained_back q (pin m ws q) lt refl some;
        }

-- ---- where links stand

module _ (m a s : ℕ) (a-low : a < m) (s_low : s < m) where
  at_apart : (l b : ℕ) → l ≤ 4 * m → b ≤ 4 * m → (l ≡ b → (l ≡ 0 → a ≡ s) → ⊥) → onward_at m a l ≡ onward_at m s b → ⊥
  at_apart zero zero lt lt' ne e = ne refl (λ _. omega arith)
  at_apart zero (suc p) lt lt' ne e = omega arith
  at_apart (suc x) zero lt lt' ne e = omega arith
  at_apart (suc x) (suc p) lt lt' ne e = ne (omega arith) (λ z. omega arith)

-- a link onward stands neither among the fields, nor among the pins, nor among the links back
at_low : (m a l : ℕ) → 5 * m ≤ onward_at m a l
at_low m a zero = omega arith
at_low m a (suc x) = omega arith

at_high : (m a l : ℕ) → a < m → l ≤ 4 * m → onward_at m a l < 14 * m
at_high m a zero low lt = omega arith
at_high m a (suc x) low lt = omega arith

at_pin : (m a l x : ℕ) → a < m → x < 4 * m → onward_at m a l ≡ 6 * m + x → ⊥
at_pin m a zero x low lt e = omega arith
at_pin m a (suc y) x low lt e = omega arith

-- ---- what a join leaves

length-backed : (m : ℕ) (ws : List ℕ) (d link : ℕ) → length (backed m ws d link) ≡ length ws
length-backed m ws zero link = refl
length-backed m ws (suc p) link = length-set ws (14 * m + p) link

backed_under : (m : ℕ) (ws : List ℕ) (d link at : ℕ) → at < 14 * m → word (backed m ws d link) at ≡ word ws at
backed_under m ws zero link at lt = refl
backed_under m ws (suc p) link at lt = get_or-set_other ws (14 * m + p) at link 0 (λ e. omega arith)

backed_other : (m : ℕ) (ws : List ℕ) (d link x : ℕ) → (d ≡ suc x → ⊥) → word (backed m ws d link) (14 * m + x) ≡ word ws (14 * m + x)
backed_other m ws zero link x ne = refl
backed_other m ws (suc p) link x ne = get_or-set_other ws (14 * m + p) (14 * m + x) link 0 (λ e. ne (omega arith))

backed-same : (m : ℕ) (ws : List ℕ) (d link p : ℕ) → d ≡ suc p → 14 * m + p < length ws → word (backed m ws d link) (14 * m + p) ≡ link
backed-same m ws zero link p e lt = absurd (omega arith)
backed-same m ws (suc y) link p e lt =
    let i : p ≡ y = omega arith in
    subst (λ k. word (set ws (14 * m + y) link) (14 * m + k) ≡ link) (sym i) (get_or-set_same ws (14 * m + y) link 0 (omega arith))

module _ (m : ℕ) (ws : List ℕ) (s b d onward link : ℕ) (long : 18 * m ≤ length ws) (s_low : s < m) (b_low : b ≤ 4 * m) where
  length-joined : length (joined m ws s b d onward link) ≡ length ws
  length-joined = length-backed m (set ws (onward_at m s b) onward) d link ∙ length-set ws (onward_at m s b) onward

  joined_under : (at : ℕ) → at < 14 * m → (at ≡ onward_at m s b → ⊥) → word (joined m ws s b d onward link) at ≡ word ws at
  joined_under at lt ne = backed_under m (set ws (onward_at m s b) onward) d link at lt ∙ get_or-set_other ws (onward_at m s b) at onward 0 ne

  joined-leads : word (joined m ws s b d onward link) (onward_at m s b) ≡ onward
  joined-leads =
      let high = at_high m s b s_low b_low in
      backed_under m (set ws (onward_at m s b) onward) d link (onward_at m s b) high ∙ get_or-set_same ws (onward_at m s b) onward 0 (omega arith)

  joined_onward : (a l : ℕ) → a < m → l ≤ 4 * m → (l ≡ b → (l ≡ 0 → a ≡ s) → ⊥) → onward_of m (joined m ws s b d onward link) a l ≡ onward_of m ws a l
  joined_onward a l low lt ne = joined_under (onward_at m a l) (at_high m a l low lt) (at_apart m a s low s_low l b lt b_low ne)

  joined-before : (p : ℕ) → p < 4 * m → d ≡ suc p → back m (joined m ws s b d onward link) p ≡ link
  joined-before p lt e =
      backed-same m (set ws (onward_at m s b) onward) d link p e (omega (arith, length-set ws (onward_at m s b) onward))

  joined_back : (x : ℕ) → (d ≡ suc x → ⊥) → back m (joined m ws s b d onward link) x ≡ back m ws x
  joined_back x ne =
      let high = at_high m s b s_low b_low in
      backed_other m (set ws (onward_at m s b) onward) d link x ne ∙ get_or-set_other ws (onward_at m s b) (14 * m + x) onward 0 (λ e. omega arith)

  joined-pin : (x : ℕ) → x < 4 * m → pin m (joined m ws s b d onward link) x ≡ pin m ws x
  joined-pin x lt = joined_under (6 * m + x) (omega arith) (λ e. at_pin m s b x s_low lt (sym e))

  joined_field : (at : ℕ) → at < 5 * m → word (joined m ws s b d onward link) at ≡ word ws at
  joined_field at lt = let low = at_low m s b in joined_under at (omega arith) (λ e. omega arith)

least_top : (P : ℕ → ℕ) (top v from d p : ℕ) → Least P top v from d → d ≡ suc p → p < top
least_top P top v from zero p h e = absurd (omega arith)
least_top P top v from (suc y) p h e = omega (arith, h.1)

least_from : (P : ℕ → ℕ) (top v from d p : ℕ) → Least P top v from d → d ≡ suc p → from ≤ p
least_from P top v from zero p h e = absurd (omega arith)
least_from P top v from (suc y) p h e = omega (arith, h.0)

-- ---- pin q enters the chain of s

module _ (m : ℕ) (ws : List ℕ) (q s b d : ℕ) (chained : Chained m ws) (q-low : q < 4 * m) (s_low : s < m) (was : pin m ws q ≡ 0)
    (g : Greatest (pin m ws) (suc s) q b) (h : Least (pin m ws) (4 * m) (suc s) (suc q) d) where
  abbrev placed : List ℕ
  placed = set (set (set ws (6 * m + q) (suc s)) (10 * m + q) d) (14 * m + q) b

  abbrev after : List ℕ
  after = inserted m ws q s b d

  b_low : b ≤ 4 * m
  b_low = omega (arith, before-below (pin m ws) (suc s) q b g)

  length-placed : length placed ≡ length ws
  length-placed =
      length-set (set (set ws (6 * m + q) (suc s)) (10 * m + q) d) (14 * m + q) b
      ∙ length-set (set ws (6 * m + q) (suc s)) (10 * m + q) d
      ∙ length-set ws (6 * m + q) (suc s)

  placed_long : 18 * m ≤ length placed
  placed_long = omega (arith, chained.long, length-placed)

  placed_other : (at : ℕ) → (at ≡ 6 * m + q → ⊥) → (at ≡ 10 * m + q → ⊥) → (at ≡ 14 * m + q → ⊥) → word placed at ≡ word ws at
  placed_other at n₁ n₂ n₃ =
      get_or-set_other (set (set ws (6 * m + q) (suc s)) (10 * m + q) d) (14 * m + q) at b 0 n₃
      ∙ get_or-set_other (set ws (6 * m + q) (suc s)) (10 * m + q) at d 0 n₂
      ∙ get_or-set_other ws (6 * m + q) at (suc s) 0 n₁

  placed-pin : pin m placed q ≡ suc s
  placed-pin =
      get_or-set_other (set (set ws (6 * m + q) (suc s)) (10 * m + q) d) (14 * m + q) (6 * m + q) b 0 (λ e. omega arith)
      ∙ get_or-set_other (set ws (6 * m + q) (suc s)) (10 * m + q) (6 * m + q) d 0 (λ e. omega arith)
      ∙ get_or-set_same ws (6 * m + q) (suc s) 0 (omega (arith, chained.long))

  placed-next : next m placed q ≡ d
  placed-next =
      get_or-set_other (set (set ws (6 * m + q) (suc s)) (10 * m + q) d) (14 * m + q) (10 * m + q) b 0 (λ e. omega arith)
      ∙ get_or-set_same (set ws (6 * m + q) (suc s)) (10 * m + q) d 0 (omega (arith, chained.long, length-set ws (6 * m + q) (suc s)))

  placed-back : back m placed q ≡ b
  placed-back =
      get_or-set_same (set (set ws (6 * m + q) (suc s)) (10 * m + q) d) (14 * m + q) b 0
      (omega (arith, chained.long, length-set (set ws (6 * m + q) (suc s)) (10 * m + q) d, length-set ws (6 * m + q) (suc s)))

  enter-joins : Joins m s q b d (suc q) (suc q) (onward_of m ws) (onward_of m after) (back m ws) (back m after)
  enter-joins =
      record {
        leads = joined-leads m placed s b d (suc q) (suc q) placed_long s_low b_low;
        others = λ a l low lt away ne.
            let high = at_high m a l low lt in
            joined_onward m placed s b d (suc q) (suc q) placed_long s_low b_low a l low lt ne
            ∙ placed_other (onward_at m a l) (at_pin m a l q low q-low) (at_apart m a a low low l (suc q) lt (omega arith) (λ e _. away e)) (λ e. omega arith);
        before = λ p e.
            joined-before m placed s b d (suc q) (suc q) placed_long s_low b_low p (least_top (pin m ws) (4 * m) (suc s) (suc q) d p h e) e;
        backs = λ x lt away ne.
            joined_back m placed s b d (suc q) (suc q) placed_long s_low b_low x ne
            ∙ placed_other (14 * m + x) (λ e. omega arith) (λ e. omega arith) (λ e. away (omega arith));
      }

  enter-pin : (x : ℕ) → x < 4 * m → (x ≡ q → ⊥) → pin m after x ≡ pin m ws x
  enter-pin x lt ne =
      joined-pin m placed s b d (suc q) (suc q) placed_long s_low b_low x lt
      ∙ placed_other (6 * m + x) (λ e. ne (omega arith)) (λ e. omega arith) (λ e. omega arith)

  enter_own : pin m after q ≡ suc s
  enter_own = joined-pin m placed s b d (suc q) (suc q) placed_long s_low b_low q q-low ∙ placed-pin

  enter-rows : Rows m (pin m after) (onward_of m after) (back m after)
  enter-rows =
      enters m s q b d (pin m ws) (pin m after) (onward_of m ws) (onward_of m after) (back m ws) (back m after) (rows_of m ws chained) q-low s_low enter-pin g h
      enter-joins was enter_own
      (joined_onward m placed s b d (suc q) (suc q) placed_long s_low b_low s (suc q) s_low (omega arith)
      (λ e _. omega (arith, before-below (pin m ws) (suc s) q b g))
      ∙ placed-next)
      (joined_back m placed s b d (suc q) (suc q) placed_long s_low b_low q
      (λ e. omega (arith, least_from (pin m ws) (4 * m) (suc s) (suc q) d q h e))
      ∙ placed-back)

  pub enter_repins : Repins m ws q (suc s) after
  enter_repins =
      let size : length after ≡ length ws = length-joined m placed s b d (suc q) (suc q) placed_long s_low b_low ∙ length-placed in
      record {
        chained = chained_of m after enter-rows (omega (arith, chained.long, size));
        size = size;
        pins = λ x lt.
            ⊎_elim
            (λ e. subst (λ k. pin m after k ≡ suc s) e enter_own ∙ sym (cond-true (eqb q x) (suc s) (pin m ws x) (eq-eqb q x e)))
            (λ ne. enter-pin x lt (λ e. ne (sym e)) ∙ sym (cond-false (eqb q x) (suc s) (pin m ws x) (ne_eqb q x ne)))
            (cases_eq q x);
        fields = λ at lt.
            joined_field m placed s b d (suc q) (suc q) placed_long s_low b_low at lt
            ∙ placed_other at (λ e. omega arith) (λ e. omega arith) (λ e. omega arith);
      }

-- ---- pin q leaves the chain of s

module _ (m : ℕ) (ws : List ℕ) (q s : ℕ) (chained : Chained m ws) (q-low : q < 4 * m) (was : pin m ws q ≡ suc s) where
  abbrev b : ℕ
  b = back m ws q

  abbrev d : ℕ
  d = next m ws q

  abbrev freed : List ℕ
  freed = set ws (6 * m + q) 0

  abbrev left : List ℕ
  left = removed m ws q s b d

  s_low : s < m
  s_low = omega (arith, chained.within q q-low)

  g : Greatest (pin m ws) (suc s) q b
  g = (rows_of m ws chained).back s q s_low q-low was

  h : Least (pin m ws) (4 * m) (suc s) (suc q) d
  h = (rows_of m ws chained).onward s (suc q) s_low (q-low, was)

  low : b ≤ 4 * m
  low = omega (arith, before-below (pin m ws) (suc s) q b g)

  length-freed : length freed ≡ length ws
  length-freed = length-set ws (6 * m + q) 0

  freed_long : 18 * m ≤ length freed
  freed_long = omega (arith, chained.long, length-freed)

  freed_other : (at : ℕ) → (at ≡ 6 * m + q → ⊥) → word freed at ≡ word ws at
  freed_other at ne = get_or-set_other ws (6 * m + q) at 0 0 ne

  leave_joins : Joins m s q b d d b (onward_of m ws) (onward_of m left) (back m ws) (back m left)
  leave_joins =
      record {
        leads = joined-leads m freed s b d d b freed_long s_low low;
        others = λ a l a-low lt away ne.
            joined_onward m freed s b d d b freed_long s_low low a l a-low lt ne ∙ freed_other (onward_at m a l) (at_pin m a l q a-low q-low);
        before = λ p e. joined-before m freed s b d d b freed_long s_low low p (least_top (pin m ws) (4 * m) (suc s) (suc q) d p h e) e;
        backs = λ x lt away ne. joined_back m freed s b d d b freed_long s_low low x ne ∙ freed_other (14 * m + x) (λ e. omega arith);
      }

  leave_pin : (x : ℕ) → x < 4 * m → (x ≡ q → ⊥) → pin m left x ≡ pin m ws x
  leave_pin x lt ne = joined-pin m freed s b d d b freed_long s_low low x lt ∙ freed_other (6 * m + x) (λ e. ne (omega arith))

  leave_own : pin m left q ≡ 0
  leave_own =
      joined-pin m freed s b d d b freed_long s_low low q q-low ∙ get_or-set_same ws (6 * m + q) 0 0 (omega (arith, chained.long))

  pub leave_repins : Repins m ws q 0 left
  leave_repins =
      let size : length left ≡ length ws = length-joined m freed s b d d b freed_long s_low low ∙ length-freed in
      record {
        chained =
            chained_of m left
            (leaves m s q b d (pin m ws) (pin m left) (onward_of m ws) (onward_of m left) (back m ws) (back m left) (rows_of m ws chained) q-low s_low leave_pin g h
            leave_joins was leave_own)
            (omega (arith, chained.long, size));
        size = size;
        pins = λ x lt.
            ⊎_elim
            (λ e. subst (λ k. pin m left k ≡ 0) e leave_own ∙ sym (cond-true (eqb q x) 0 (pin m ws x) (eq-eqb q x e)))
            (λ ne. leave_pin x lt (λ e. ne (sym e)) ∙ sym (cond-false (eqb q x) 0 (pin m ws x) (ne_eqb q x ne)))
            (cases_eq q x);
        fields = λ at lt. joined_field m freed s b d d b freed_long s_low low at lt ∙ freed_other at (λ e. omega arith);
      }
