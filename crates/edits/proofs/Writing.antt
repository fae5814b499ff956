-- One word of a signal is written, or one of its pins: what its cell is then.
use Rattle.std.proofs.Common.{◌≡◌, ℕ, zero, suc, ◌+◌, ◌*◌, ◌<◌, ◌≤◌, Bool, true, false, cond, eqb, ltb, List, length, get_or, set, sym, refl, ap, ◌∙◌, subst, ⊎_elim, arith}
use Rattle.std.proofs.lemmas.Bool.{cases_eq, cases_lt, eq-eqb, ne_eqb, lt-ltb, le-ltb, cond-true, cond-false}
use Rattle.std.proofs.lemmas.List.{length-set, get_or-set_same, get_or-set_other}
use Rattle.board.specs.Layout.{word, kind, output, value, seat, holder, first, pin, next, back}
use Rattle.board.specs.Chain.{Chained, Least, Greatest, Repins}
use Rattle.edits.specs.Cells.{Cell, cell_at, Changed, Site, Wirable, on_nets, as_wired, as_driven, as_unwired, as_absent, as_moved}

-- ---- chains depend on their words alone

least_same : (f g : ℕ → ℕ) (top v from r : ℕ) → ((q : ℕ) → q < top → g q ≡ f q) → Least f top v from r → Least g top v from r
least_same f g top v from zero same h = λ q le lt e. h q le lt (sym (same q lt) ∙ e)
least_same f g top v from (suc p) same h = (h.0, h.1, same p h.1 ∙ h.2, λ q le lt e. h.3 q le lt (sym (same q (omega (arith, h.1))) ∙ e))

greatest_same : (f g : ℕ → ℕ) (top v below r : ℕ) → below ≤ top → ((q : ℕ) → q < top → g q ≡ f q) → Greatest f v below r → Greatest g v below r
greatest_same f g top v below zero le same h = λ q lt e. h q lt (sym (same q (omega arith)) ∙ e)
greatest_same f g top v below (suc p) le same h =
    (h.0, same p (omega (arith, h.0)) ∙ h.1, λ q lo lt e. h.2 q lo lt (sym (same q (omega arith)) ∙ e))

pub chained_same : (m : ℕ) (ws ws' : List ℕ) → Chained m ws → length ws' ≡ length ws → ((at : ℕ) → 5 * m ≤ at → word ws' at ≡ word ws at) → Chained m ws'
chained_same m ws ws' h size same =
    let pins : (q : ℕ) → q < 4 * m → pin m ws' q ≡ pin m ws q = λ q lt. same (6 * m + q) (omega arith) in
    record {
      long = omega (arith, h.long);
      within = λ q lt. omega (arith, pins q lt, h.within q lt);
      firsts = λ a lt. subst (λ r. Least (pin m ws') (4 * m) (suc a) 0 r) (sym (same (5 * m + a) (omega arith)))
          (least_same (pin m ws) (pin m ws') (4 * m) (suc a) 0 (first m ws a) pins (h.firsts a lt));
      nexts = λ q lt some. subst (λ r. Least (pin m ws') (4 * m) (pin m ws' q) (suc q) r) (sym (same (10 * m + q) (omega arith)))
          (subst (λ v. Least (pin m ws') (4 * m) v (suc q) (next m ws q)) (sym (pins q lt))
          (least_same (pin m ws) (pin m ws') (4 * m) (pin m ws q) (suc q) (next m ws q) pins (h.nexts q lt (omega (arith, pins q lt, some)))));
      backs = λ q lt some. subst (λ r. Greatest (pin m ws') (pin m ws' q) q r) (sym (same (14 * m + q) (omega arith)))
          (subst (λ v. Greatest (pin m ws') v q (back m ws q)) (sym (pins q lt))
          (greatest_same (pin m ws) (pin m ws') (4 * m) (pin m ws q) q (back m ws q) (omega arith) pins (h.backs q lt (omega (arith, pins q lt, some)))));
    }

-- ---- one word

cond_same : {A : Type 0} (b : Bool) (x : A) → x ≡ cond b x x
cond_same true x = refl
cond_same false x = refl

pub unchanged : (m : ℕ) (ws : List ℕ) (s : ℕ) → Chained m ws → Changed m ws s (cell_at m ws s) ws
unchanged m ws s h =
    let own : (f : ℕ → ℕ) (x : ℕ) → f x ≡ cond (eqb s x) (f s) (f x) =
    λ f x. ⊎_elim (λ e. ap f (sym e) ∙ sym (cond-true (eqb s x) (f s) (f x) (eq-eqb s x e))) (λ ne. sym (cond-false (eqb s x) (f s) (f x) (ne_eqb s x ne))) (cases_eq s x) in
    record {
      chained = h;
      size = refl;
      kinds = λ x lt. own (kind m ws) x;
      values = λ x lt. own (value m ws) x;
      outputs = λ x lt. own (output m ws) x;
      pins = λ x i lt four. own (λ y. pin m ws (4 * y + i)) x;
      seats = λ x lt. refl;
      holders = λ x lt. refl;
    }

module _ (m : ℕ) (ws : List ℕ) (s : ℕ) (cell : Cell) (ws' : List ℕ) (below : s < m) (h : Changed m ws s cell ws') where
  other : (at j v : ℕ) → (j ≡ at → ⊥) → word (set ws' at v) j ≡ word ws' j
  other at j v ne = get_or-set_other ws' at j v 0 ne

  chains : (at v : ℕ) → at < 5 * m → Chained m (set ws' at v)
  chains at v lt = chained_same m ws' (set ws' at v) h.chained (length-set ws' at v) (λ j le. other at j v (λ e. omega arith))

  long : 18 * m ≤ length ws'
  long = h.chained.long

  -- the word of s in the field that is written
  written : (at : ℕ → ℕ) (v old : ℕ) (was : ℕ → ℕ) (x : ℕ) → at s < 18 * m → (at x ≡ at s → s ≡ x) → word ws' (at x) ≡ cond (eqb s x) old (was x)
      → word (set ws' (at s) v) (at x) ≡ cond (eqb s x) v (was x)
  written at v old was x lt one e =
      ⊎_elim
      (λ same. let here : word (set ws' (at s) v) (at s) ≡ v = get_or-set_same ws' (at s) v 0 (omega (arith, long)) in
      subst (λ y. word (set ws' (at s) v) (at y) ≡ v) same here ∙ sym (cond-true (eqb s x) v (was x) (eq-eqb s x same)))
      (λ ne. other (at s) (at x) v (λ q. ne (one q)) ∙ e ∙ cond-false (eqb s x) old (was x) (ne_eqb s x ne) ∙ sym (cond-false (eqb s x) v (was x) (ne_eqb s x ne)))
      (cases_eq s x)

  -- a word of another field
  apart : (at v : ℕ) (j : ℕ) → (j ≡ at → ⊥) → (was : ℕ) → word ws' j ≡ was → word (set ws' at v) j ≡ was
  apart at v j ne was e = other at j v ne ∙ e

  pub kind-set : (k : ℕ) → Changed m ws s (record { kind = k; value = cell.value; output = cell.output; pins = cell.pins }) (set ws' (s) k)
  kind-set k = record {
    chained = chains (s) k (omega arith);
    size = length-set ws' (s) k ∙ h.size;
    kinds = λ x lt. written (λ x. x) k cell.kind (kind m ws) x (omega arith) (λ e. omega arith) (h.kinds x lt);
    values = λ x lt. apart (s) k (2 * m + x) (λ e. omega arith) (cond (eqb s x) cell.value (value m ws x)) (h.values x lt);
    outputs = λ x lt. apart (s) k (m + x) (λ e. omega arith) (cond (eqb s x) cell.output (output m ws x)) (h.outputs x lt);
    pins = λ x i lt four. apart (s) k (6 * m + (4 * x + i)) (λ e. omega arith) (cond (eqb s x) (cell.pins i) (pin m ws (4 * x + i))) (h.pins x i lt four);
    seats = λ x lt. apart (s) k (3 * m + x) (λ e. omega arith) (seat m ws x) (h.seats x lt);
    holders = λ x lt. apart (s) k (4 * m + x) (λ e. omega arith) (holder m ws x) (h.holders x lt);
  }

  pub value_set : (k : ℕ) → Changed m ws s (record { kind = cell.kind; value = k; output = cell.output; pins = cell.pins }) (set ws' (2 * m + s) k)
  value_set k = record {
    chained = chains (2 * m + s) k (omega arith);
    size = length-set ws' (2 * m + s) k ∙ h.size;
    kinds = λ x lt. apart (2 * m + s) k (x) (λ e. omega arith) (cond (eqb s x) cell.kind (kind m ws x)) (h.kinds x lt);
    values = λ x lt. written (λ x. 2 * m + x) k cell.value (value m ws) x (omega arith) (λ e. omega arith) (h.values x lt);
    outputs = λ x lt. apart (2 * m + s) k (m + x) (λ e. omega arith) (cond (eqb s x) cell.output (output m ws x)) (h.outputs x lt);
    pins = λ x i lt four. apart (2 * m + s) k (6 * m + (4 * x + i)) (λ e. omega arith) (cond (eqb s x) (cell.pins i) (pin m ws (4 * x + i))) (h.pins x i lt four);
    seats = λ x lt. apart (2 * m + s) k (3 * m + x) (λ e. omega arith) (seat m ws x) (h.seats x lt);
    holders = λ x lt. apart (2 * m + s) k (4 * m + x) (λ e. omega arith) (holder m ws x) (h.holders x lt);
  }

  pub output-set : (k : ℕ) → Changed m ws s (record { kind = cell.kind; value = cell.value; output = k; pins = cell.pins }) (set ws' (m + s) k)
  output-set k = record {
    chained = chains (m + s) k (omega arith);
    size = length-set ws' (m + s) k ∙ h.size;
    kinds = λ x lt. apart (m + s) k (x) (λ e. omega arith) (cond (eqb s x) cell.kind (kind m ws x)) (h.kinds x lt);
    values = λ x lt. apart (m + s) k (2 * m + x) (λ e. omega arith) (cond (eqb s x) cell.value (value m ws x)) (h.values x lt);
    outputs = λ x lt. written (λ x. m + x) k cell.output (output m ws) x (omega arith) (λ e. omega arith) (h.outputs x lt);
    pins = λ x i lt four. apart (m + s) k (6 * m + (4 * x + i)) (λ e. omega arith) (cond (eqb s x) (cell.pins i) (pin m ws (4 * x + i))) (h.pins x i lt four);
    seats = λ x lt. apart (m + s) k (3 * m + x) (λ e. omega arith) (seat m ws x) (h.seats x lt);
    holders = λ x lt. apart (m + s) k (4 * m + x) (λ e. omega arith) (holder m ws x) (h.holders x lt);
  }

  pub pin-set : (j v : ℕ) (ws'' : List ℕ) → j < 4 → Repins m ws' (4 * s + j) v ws''
      → Changed m ws s (record { kind = cell.kind; value = cell.value; output = cell.output; pins = λ i. cond (eqb j i) v (cell.pins i) }) ws''
  pin-set j v ws'' few r = record {
    chained = r.chained;
    size = r.size ∙ h.size;
    kinds = λ x lt. r.fields x (omega arith) ∙ h.kinds x lt;
    values = λ x lt. r.fields (2 * m + x) (omega arith) ∙ h.values x lt;
    outputs = λ x lt. r.fields (m + x) (omega arith) ∙ h.outputs x lt;
    pins = λ x i lt four. r.pins (4 * x + i) (omega arith) ∙ repinned x i lt four;
    seats = λ x lt. r.fields (3 * m + x) (omega arith) ∙ h.seats x lt;
    holders = λ x lt. r.fields (4 * m + x) (omega arith) ∙ h.holders x lt;
  } where
    repinned : (x i : ℕ) → x < m → i < 4 → cond (eqb (4 * s + j) (4 * x + i)) v (pin m ws' (4 * x + i)) ≡ cond (eqb s x) (cond (eqb j i) v (cell.pins i)) (pin m ws (4 * x + i))
    repinned x i lt four =
        ⊎_elim
        (λ same. ⊎_elim
        (λ one. cond-true _ v (pin m ws' (4 * x + i)) (eq-eqb (4 * s + j) (4 * x + i) (omega arith)) ∙ sym (cond-true (eqb s x) _ _ (eq-eqb s x same) ∙ cond-true (eqb j i) v (cell.pins i) (eq-eqb j i one)))
        (λ two. cond-false _ v (pin m ws' (4 * x + i)) (ne_eqb (4 * s + j) (4 * x + i) (λ e. two (omega arith))) ∙ h.pins x i lt four ∙ cond-true (eqb s x) _ _ (eq-eqb s x same)
        ∙ sym (cond-true (eqb s x) _ _ (eq-eqb s x same) ∙ cond-false (eqb j i) v (cell.pins i) (ne_eqb j i two)))
        (cases_eq j i))
        (λ ne. cond-false _ v (pin m ws' (4 * x + i)) (ne_eqb (4 * s + j) (4 * x + i) (λ e. ne (omega arith))) ∙ h.pins x i lt four ∙ cond-false (eqb s x) _ _ (ne_eqb s x ne) ∙ sym (cond-false (eqb s x) _ _ (ne_eqb s x ne)))
        (cases_eq s x)

-- ---- several steps

-- the same cell, said otherwise
pub changed_like : (m : ℕ) (ws : List ℕ) (s : ℕ) (c d : Cell) (ws' : List ℕ) → c.kind ≡ d.kind → c.value ≡ d.value → c.output ≡ d.output
    → ((i : ℕ) → i < 4 → c.pins i ≡ d.pins i) → Changed m ws s c ws' → Changed m ws s d ws'
changed_like m ws s c d ws' ks vs os ps h = record {
  chained = h.chained;
  size = h.size;
  kinds = λ x lt. h.kinds x lt ∙ ap (λ k. cond (eqb s x) k (kind m ws x)) ks;
  values = λ x lt. h.values x lt ∙ ap (λ k. cond (eqb s x) k (value m ws x)) vs;
  outputs = λ x lt. h.outputs x lt ∙ ap (λ k. cond (eqb s x) k (output m ws x)) os;
  pins = λ x i lt four. h.pins x i lt four ∙ ap (λ k. cond (eqb s x) k (pin m ws (4 * x + i))) (ps i four);
  seats = h.seats;
  holders = h.holders;
}

twice : {A : Type 0} (b : Bool) (x y z w : A) → w ≡ cond b x (cond b y z) → w ≡ cond b x z
twice true x y z w e = e
twice false x y z w e = e

-- a change behind a change
pub changed_then : (m : ℕ) (ws : List ℕ) (s : ℕ) (c d : Cell) (ws' ws'' : List ℕ) → Changed m ws s c ws' → Changed m ws' s d ws'' → Changed m ws s d ws''
changed_then m ws s c d ws' ws'' h g = record {
  chained = g.chained;
  size = g.size ∙ h.size;
  kinds = λ x lt. twice (eqb s x) d.kind c.kind (kind m ws x) (kind m ws'' x) (g.kinds x lt ∙ ap (cond (eqb s x) d.kind) (h.kinds x lt));
  values = λ x lt. twice (eqb s x) d.value c.value (value m ws x) (value m ws'' x) (g.values x lt ∙ ap (cond (eqb s x) d.value) (h.values x lt));
  outputs = λ x lt. twice (eqb s x) d.output c.output (output m ws x) (output m ws'' x) (g.outputs x lt ∙ ap (cond (eqb s x) d.output) (h.outputs x lt));
  pins = λ x i lt four.
      twice (eqb s x) (d.pins i) (c.pins i) (pin m ws (4 * x + i)) (pin m ws'' (4 * x + i)) (g.pins x i lt four ∙ ap (cond (eqb s x) (d.pins i)) (h.pins x i lt four));
  seats = λ x lt. g.seats x lt ∙ h.seats x lt;
  holders = λ x lt. g.holders x lt ∙ h.holders x lt;
}

-- the cell is read back
pub cell-pin : (m : ℕ) (ws : List ℕ) (s : ℕ) (c : Cell) (ws' : List ℕ) (i : ℕ) → s < m → i < 4 → Changed m ws s c ws' → pin m ws' (4 * s + i) ≡ c.pins i
cell-pin m ws s c ws' i lt four h = h.pins s i lt four ∙ cond-true (eqb s s) (c.pins i) (pin m ws (4 * s + i)) (eq-eqb s s refl)

pub cell-kind : (m : ℕ) (ws : List ℕ) (s : ℕ) (c : Cell) (ws' : List ℕ) → s < m → Changed m ws s c ws' → kind m ws' s ≡ c.kind
cell-kind m ws s c ws' lt h = h.kinds s lt ∙ cond-true (eqb s s) c.kind (kind m ws s) (eq-eqb s s refl)

pub cell-value : (m : ℕ) (ws : List ℕ) (s : ℕ) (c : Cell) (ws' : List ℕ) → s < m → Changed m ws s c ws' → value m ws' s ≡ c.value
cell-value m ws s c ws' lt h = h.values s lt ∙ cond-true (eqb s s) c.value (value m ws s) (eq-eqb s s refl)

pub cell-output : (m : ℕ) (ws : List ℕ) (s : ℕ) (c : Cell) (ws' : List ℕ) → s < m → Changed m ws s c ws' → output m ws' s ≡ c.output
cell-output m ws s c ws' lt h = h.outputs s lt ∙ cond-true (eqb s s) c.output (output m ws s) (eq-eqb s s refl)

-- one pin more
on_nets_more : (k : ℕ) (on : List ℕ) (was : ℕ → ℕ) (i : ℕ) → cond (eqb k i) (suc (get_or on k 0)) (on_nets k on was i) ≡ on_nets (k + 1) on was i
on_nets_more k on was i =
    ⊎_elim
    (λ e. cond-true (eqb k i) _ _ (eq-eqb k i e) ∙ ap (λ x. suc (get_or on x 0)) e ∙ sym (cond-true (ltb i (k + 1)) _ _ (lt-ltb i (k + 1) (omega arith))))
    (λ ne. cond-false (eqb k i) _ _ (ne_eqb k i ne) ∙ ⊎_elim
    (λ lt. cond-true (ltb i k) _ _ (lt-ltb i k lt) ∙ sym (cond-true (ltb i (k + 1)) _ _ (lt-ltb i (k + 1) (omega arith))))
    (λ le. cond-false (ltb i k) _ _ (le-ltb i k le) ∙ sym (cond-false (ltb i (k + 1)) _ _ (le-ltb i (k + 1) (beyond ne le))))
    (cases_lt i k))
    (cases_eq k i) where
      beyond : (k ≡ i → ⊥) → k ≤ i → k + 1 ≤ i
      beyond ne le = ⊎_elim (λ lt. omega arith) (λ ge. absurd (ne (omega arith))) (cases_lt k i)

on_nets-none : (on : List ℕ) (was : ℕ → ℕ) (i : ℕ) → was i ≡ on_nets 0 on was i
on_nets-none on was i = sym (cond-false (ltb i 0) _ _ (le-ltb i 0 (omega arith)))

module _ (m : ℕ) (ws : List ℕ) (s k : ℕ) (on : List ℕ) (w : Wirable m ws s k on) where
  pub wired_none : Changed m ws s (as_wired (cell_at m ws s) 0 on) ws
  wired_none = changed_like m ws s (cell_at m ws s) (as_wired (cell_at m ws s) 0 on) ws refl refl refl (λ i four. on_nets-none on (cell_at m ws s).pins i) (unchanged m ws s w.site.chained)

  pub wired_more : (i q : ℕ) (ws' ws'' : List ℕ) → i < k → q ≡ 4 * s + i → Changed m ws s (as_wired (cell_at m ws s) i on) ws'
      → (Chained m ws' → q < 4 * m → get_or on i 0 < m → pin m ws' q ≡ 0 → Repins m ws' q (suc (get_or on i 0)) ws'')
      → Changed m ws s (as_wired (cell_at m ws s) (i + 1) on) ws''
  wired_more i q ws' ws'' lt e h attached =
      let four : i < 4 = omega (arith, w.most) in
      let low : s < m = w.site.below in
      let high : m ≤ 1024 = w.site.few in
      let was : pin m ws' q ≡ 0 =
      ap (pin m ws') e ∙ cell-pin m ws s (as_wired (cell_at m ws s) i on) ws' i low four h ∙ cond-false (ltb i i) _ _ (le-ltb i i (omega arith)) ∙ w.free i four in
      let r : Repins m ws' q (suc (get_or on i 0)) ws'' = attached h.chained (omega arith) (w.nets i lt) was in
      changed_like m ws s _ (as_wired (cell_at m ws s) (i + 1) on) ws'' refl refl refl (λ j four. on_nets_more i on (cell_at m ws s).pins j)
      (pin-set m ws s (as_wired (cell_at m ws s) i on) ws' low h i (suc (get_or on i 0)) ws'' four (subst (λ x. Repins m ws' x (suc (get_or on i 0)) ws'') e r))

-- kind and value are written, then the pins
module _ (m : ℕ) (ws : List ℕ) (s k : ℕ) (on : List ℕ) (w : Wirable m ws s k on) (kd v : ℕ) (ws' : List ℕ) (e : ws' ≡ set (set ws s kd) (2 * m + s) v) where
  headed_cell : Cell
  headed_cell = record { kind = kd; value = v; output = output m ws s; pins = (cell_at m ws s).pins }

  headed : Changed m ws s (record { kind = kd; value = v; output = output m ws s; pins = (cell_at m ws s).pins }) ws'
  headed =
      subst (λ x. Changed m ws s (record { kind = kd; value = v; output = output m ws s; pins = (cell_at m ws s).pins }) x) (sym e)
      (value_set m ws s _ (set ws s kd) w.site.below (kind-set m ws s (cell_at m ws s) ws w.site.below (unchanged m ws s w.site.chained) kd) v)

  pub still_wirable : Wirable m ws' s k on
  still_wirable = record {
    site = record { few = w.site.few; chained = headed.chained; below = w.site.below };
    most = w.most;
    free = λ i four. cell-pin m ws s _ ws' i w.site.below four headed ∙ w.free i four;
    nets = w.nets;
  }

  pub driver_entered : (ws'' : List ℕ) → Changed m ws' s (as_wired (cell_at m ws' s) k on) ws'' → Changed m ws s (as_driven (cell_at m ws s) kd v k on) ws''
  driver_entered ws'' h =
      changed_like m ws s (as_wired (cell_at m ws' s) k on) (as_driven (cell_at m ws s) kd v k on) ws''
      (cell-kind m ws s _ ws' w.site.below headed) (cell-value m ws s _ ws' w.site.below headed) (cell-output m ws s _ ws' w.site.below headed)
      (λ i four. ap (λ p. cond (ltb i k) (suc (get_or on i 0)) p) (cell-pin m ws s _ ws' i w.site.below four headed))
      (changed_then m ws s _ (as_wired (cell_at m ws' s) k on) ws' ws'' headed h)

-- ---- pins come off

pub released_none : (m : ℕ) (ws : List ℕ) (q : ℕ) → Chained m ws → pin m ws q ≡ 0 → Repins m ws q 0 ws
released_none m ws q h e = record {
  chained = h;
  size = refl;
  pins = λ x lt. ⊎_elim (λ s. ap (pin m ws) (sym s) ∙ e ∙ sym (cond-true (eqb q x) 0 (pin m ws x) (eq-eqb q x s))) (λ ne. sym (cond-false (eqb q x) 0 (pin m ws x) (ne_eqb q x ne))) (cases_eq q x);
  fields = λ at lt. refl;
}

off_more : (k : ℕ) (was : ℕ → ℕ) (i : ℕ) → cond (eqb k i) 0 (cond (ltb i k) 0 (was i)) ≡ cond (ltb i (k + 1)) 0 (was i)
off_more k was i =
    ⊎_elim
    (λ e. cond-true (eqb k i) _ _ (eq-eqb k i e) ∙ sym (cond-true (ltb i (k + 1)) _ _ (lt-ltb i (k + 1) (omega arith))))
    (λ ne. cond-false (eqb k i) _ _ (ne_eqb k i ne) ∙ ⊎_elim
    (λ lt. cond-true (ltb i k) _ _ (lt-ltb i k lt) ∙ sym (cond-true (ltb i (k + 1)) _ _ (lt-ltb i (k + 1) (omega arith))))
    (λ le. cond-false (ltb i k) _ _ (le-ltb i k le) ∙ sym (cond-false (ltb i (k + 1)) _ _ (le-ltb i (k + 1) (beyond ne le))))
    (cases_lt i k))
    (cases_eq k i) where
      beyond : (k ≡ i → ⊥) → k ≤ i → k + 1 ≤ i
      beyond ne le = ⊎_elim (λ lt. omega arith) (λ ge. absurd (ne (omega arith))) (cases_lt k i)

module _ (m : ℕ) (ws : List ℕ) (s : ℕ) (site : Site m ws s) where
  pub unwired_none : Changed m ws s (as_unwired (cell_at m ws s) 0) ws
  unwired_none =
      changed_like m ws s (cell_at m ws s) (as_unwired (cell_at m ws s) 0) ws refl refl refl
      (λ i four. sym (cond-false (ltb i 0) _ _ (le-ltb i 0 (omega arith)))) (unchanged m ws s site.chained)

  pub unwired_more : (i q : ℕ) (ws' ws'' : List ℕ) → i < 4 → q ≡ 4 * s + i → Changed m ws s (as_unwired (cell_at m ws s) i) ws'
      → (Chained m ws' → q < 4 * m → Repins m ws' q 0 ws'') → Changed m ws s (as_unwired (cell_at m ws s) (i + 1)) ws''
  unwired_more i q ws' ws'' four e h off =
      let low : s < m = site.below in
      changed_like m ws s _ (as_unwired (cell_at m ws s) (i + 1)) ws'' refl refl refl (λ j lt. off_more i (cell_at m ws s).pins j)
      (pin-set m ws s (as_unwired (cell_at m ws s) i) ws' low h i 0 ws'' four (subst (λ x. Repins m ws' x 0 ws'') e (off h.chained (omega arith))))

  pub deleted : (ws' ws'' : List ℕ) → Changed m ws s (as_unwired (cell_at m ws s) 4) ws' → ws'' ≡ set ws' s 0 → Changed m ws s (as_absent (cell_at m ws s)) ws''
  deleted ws' ws'' h e =
      changed_like m ws s _ (as_absent (cell_at m ws s)) ws'' refl refl refl (λ i four. cond-true (ltb i 4) _ _ (lt-ltb i 4 four))
      (subst (λ x. Changed m ws s (record { kind = 0; value = value m ws s; output = output m ws s; pins = (as_unwired (cell_at m ws s) 4).pins }) x) (sym e)
      (kind-set m ws s (as_unwired (cell_at m ws s) 4) ws' site.below h 0))

  pub moved : (j q net : ℕ) (ws' ws'' : List ℕ) → j < 4 → net < m → q ≡ 4 * s + j → (Chained m ws → q < 4 * m → Repins m ws q 0 ws')
      → (Chained m ws' → q < 4 * m → net < m → pin m ws' q ≡ 0 → Repins m ws' q (suc net) ws'')
      → Changed m ws s (as_moved (cell_at m ws s) j net) ws''
  moved j q net ws' ws'' four lt e off on =
      let low : s < m = site.below in
      let high : m ≤ 1024 = site.few in
      let q-low : q < 4 * m = omega arith in
      let r : Repins m ws q 0 ws' = off site.chained q-low in
      let gone : pin m ws' q ≡ 0 = r.pins q q-low ∙ cond-true (eqb q q) 0 (pin m ws q) (eq-eqb q q refl) in
      let first = pin-set m ws s (cell_at m ws s) ws low (unchanged m ws s site.chained) j 0 ws' four (subst (λ x. Repins m ws x 0 ws') e r) in
      let second : Repins m ws' (4 * s + j) (suc net) ws'' = subst (λ x. Repins m ws' x (suc net) ws'') e (on first.chained q-low lt gone) in
      changed_like m ws s _ (as_moved (cell_at m ws s) j net) ws'' refl refl refl
      (λ i lt. over (eqb j i) (suc net) 0 ((cell_at m ws s).pins i))
      (pin-set m ws s _ ws' low first j (suc net) ws'' four second) where
        over : (b : Bool) (x y z : ℕ) → cond b x (cond b y z) ≡ cond b x z
        over true x y z = refl
        over false x y z = refl
