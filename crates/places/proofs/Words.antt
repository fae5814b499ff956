-- What the words of a store tell of a board, once some of them are written.
use Rattle.std.proofs.Common.{◌≡◌, ℕ, zero, suc, ◌+◌, ◌*◌, ◌<◌, ◌≤◌, eqb, List, [], ◌∷◌, length, get_or, set, sym, refl, ap, ◌∙◌, subst, ⊎_elim, arith}
use Rattle.std.proofs.lemmas.List.{length-set, get_or-set_same, get_or-set_other, ext_get_or}
use Rattle.std.proofs.lemmas.Bool.{cases_eq}
use Rattle.netlist.specs.Netlist.{pins_of}
use Rattle.netlist.specs.Places.{Order, place}
use Rattle.board.specs.Layout.{word, needed, kind, output, value, seat, holder, first, pin, next, back}
use Rattle.board.specs.Chain.{Least, Greatest, Chained}
use Rattle.board.specs.Board.{listing, nets, driven, driver_at, signal_at, netlist_of, order_of, pin_word, Sound}
use Rattle.places.specs.Refill.{Reordered}

-- ---- lists of what a function gives

length-listing : {A : Type 0} (f : ℕ → A) (from n : ℕ) → length (listing f from n) ≡ n
length-listing f from zero = refl
length-listing f from (suc n) = ap suc (length-listing f (suc from) n)

listing_at : {A : Type 0} (f : ℕ → A) (from n k : ℕ) (d : A) → k < n → get_or (listing f from n) k d ≡ f (from + k)
listing_at f from zero k d h = absurd (omega arith)
listing_at f from (suc n) zero d h = let e : from ≡ from + 0 = omega arith in ap f e
listing_at f from (suc n) (suc k) d h = listing_at f (suc from) n k d (omega arith) ∙ (let e : suc from + k ≡ from + suc k = omega arith in ap f e)

listing-same : {A : Type 0} (f g : ℕ → A) (from n : ℕ) → ((x : ℕ) → x < from + n → f x ≡ g x) → listing f from n ≡ listing g from n
listing-same f g from zero same = refl
listing-same f g from (suc n) same =
    λ i. same from (omega arith) i ∷ listing-same f g (suc from) n (λ x h. same x (omega arith)) i

-- ---- the order

pub length-order : (m : ℕ) (ws : List ℕ) → length (order_of m ws) ≡ m
length-order m ws = length-listing (holder m ws) 0 m

pub order_at : (m : ℕ) (ws : List ℕ) (p : ℕ) → p < m → get_or (order_of m ws) p 0 ≡ holder m ws p
order_at m ws p lt = listing_at (holder m ws) 0 m p 0 lt ∙ (let e : 0 + p ≡ p = omega arith in ap (holder m ws) e)

pub order_same : (m : ℕ) (ws ws' : List ℕ) → ((p : ℕ) → p < m → holder m ws p ≡ holder m ws' p) → order_of m ws ≡ order_of m ws'
order_same m ws ws' same = listing-same (holder m ws) (holder m ws') 0 m (λ p lt. same p (omega arith))

order-set : (m : ℕ) (ws : List ℕ) (p v : ℕ) → needed m ≤ length ws → p < m → order_of m (set ws (4 * m + p) v) ≡ set (order_of m ws) p v
order-set m ws p v long lt =
    ext_get_or 0 (order_of m (set ws (4 * m + p) v)) (set (order_of m ws) p v)
    (length-order m (set ws (4 * m + p) v) ∙ sym (length-set (order_of m ws) p v ∙ length-order m ws))
    (λ k h.
    let inside : k < m = omega (arith, h, length-order m (set ws (4 * m + p) v)) in
    order_at m (set ws (4 * m + p) v) k inside
    ∙ ⊎_elim
    (λ e.
    ap (λ j. get_or (set ws (4 * m + p) v) (4 * m + j) 0) e ∙ get_or-set_same ws (4 * m + p) v 0 (omega arith)
    ∙ sym (ap (λ j. get_or (set (order_of m ws) p v) j 0) e ∙ get_or-set_same (order_of m ws) p v 0 (omega (arith, length-order m ws))))
    (λ ne.
    get_or-set_other ws (4 * m + p) (4 * m + k) v 0 (λ e. ne (omega arith))
    ∙ sym (get_or-set_other (order_of m ws) p k v 0 ne ∙ order_at m ws k inside))
    (cases_eq k p))

pub reordered_none : (m : ℕ) (ws : List ℕ) (o : Order) → order_of m ws ≡ o → Reordered m ws o ws
reordered_none m ws o e = record { order = e; size = refl; before = λ at lt. refl; behind = λ at le. refl }

-- one word of the order is written
pub reordered_set : (m : ℕ) (ws : List ℕ) (o o' : Order) (ws' : List ℕ) (at p v : ℕ) → needed m ≤ length ws → Reordered m ws o ws' → p < m → at ≡ 4 * m + p →
    set o p v ≡ o' → Reordered m ws o' (set ws' at v)
reordered_set m ws o o' ws' at p v long h lt is e =
    subst (λ k. Reordered m ws o' (set ws' k v)) (sym is)
    (record {
      order = order-set m ws' p v (omega (arith, h.size)) lt ∙ ap (λ l. set l p v) h.order ∙ e;
      size = length-set ws' (4 * m + p) v ∙ h.size;
      before = λ k less. get_or-set_other ws' (4 * m + p) k v 0 (λ q. omega arith) ∙ h.before k less;
      behind = λ k more. get_or-set_other ws' (4 * m + p) k v 0 (λ q. omega arith) ∙ h.behind k more;
    })

pub reordered_on : (m : ℕ) (ws : List ℕ) (o : Order) (ws₁ : List ℕ) (o' : Order) (ws₂ : List ℕ) → Reordered m ws o ws₁ → Reordered m ws₁ o' ws₂ → Reordered m ws o' ws₂
reordered_on m ws o ws₁ o' ws₂ h g =
    record {
      order = g.order;
      size = g.size ∙ h.size;
      before = λ k less. g.before k less ∙ h.before k less;
      behind = λ k more. g.behind k more ∙ h.behind k more;
    }

-- ---- the rest of the board, where only places and the order are written

module _ (m : ℕ) (ws ws' : List ℕ) (low : (at : ℕ) → at < 3 * m → word ws' at ≡ word ws at) (high : (at : ℕ) → 5 * m ≤ at → word ws' at ≡ word ws at) where
  pin-same : (q : ℕ) → pin m ws' q ≡ pin m ws q
  pin-same q = high (6 * m + q) (omega arith)

  driver_same : (s : ℕ) → s < m → driver_at m ws' s ≡ driver_at m ws s
  driver_same s lt =
      let k : kind m ws' s ≡ kind m ws s = low s (omega arith) in
      let v : value m ws' s ≡ value m ws s = low (2 * m + s) (omega arith) in
      λ i. driven (k i) (v i)
      (nets (pin-same (4 * s) i ∷ pin-same (4 * s + 1) i ∷ pin-same (4 * s + 2) i ∷ pin-same (4 * s + 3) i ∷ []))

  pub netlist_same : netlist_of m ws' ≡ netlist_of m ws
  netlist_same =
      listing-same (signal_at m ws') (signal_at m ws) 0 m
      (λ s lt.
      let mark : output m ws' s ≡ output m ws s = low (m + s) (omega arith) in
      λ i. record { driver = driver_same s (omega arith) i; output = eqb (mark i) 1 })

  pins : pin m ws ≡ pin m ws'
  pins = λ i q. sym (pin-same q) i

  chained_same : length ws' ≡ length ws → Chained m ws → Chained m ws'
  chained_same size h =
      record {
        long = omega (arith, size, h.long);
        within = λ q lt. subst (λ v. v ≤ m) (sym (pin-same q)) (h.within q lt);
        firsts = λ a lt.
            subst (λ f. Least f (4 * m) (suc a) 0 (first m ws' a)) pins
            (subst (λ r. Least (pin m ws) (4 * m) (suc a) 0 r) (sym (high (5 * m + a) (omega arith))) (h.firsts a lt));
        nexts = λ q lt some.
            subst (λ f. Least f (4 * m) (f q) (suc q) (next m ws' q)) pins
            (subst (λ r. Least (pin m ws) (4 * m) (pin m ws q) (suc q) r) (sym (high (10 * m + q) (omega arith)))
            (h.nexts q lt (subst (λ v. 0 < v) (pin-same q) some)));
        backs = λ q lt some.
            subst (λ f. Greatest f (f q) q (back m ws' q)) pins
            (subst (λ r. Greatest (pin m ws) (pin m ws q) q r) (sym (high (14 * m + q) (omega arith)))
            (h.backs q lt (subst (λ v. 0 < v) (pin-same q) some)));
      }

  pub sound_same : length ws' ≡ length ws → Sound m ws → ((s : ℕ) → s < m → seat m ws' s ≡ place (order_of m ws') s) → Sound m ws'
  sound_same size h seated =
      record {
        chained = chained_same size h.chained;
        spelled = λ s i lt less. pin-same (4 * s + i) ∙ h.spelled s i lt less ∙ sym (ap (λ d. pin_word (pins_of d) i) (driver_same s lt));
        seated = seated;
      }
