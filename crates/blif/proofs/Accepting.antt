-- Claims of a whole netlist without a loop are accepted.
use Rattle.std.proofs.Common.{unwrap_or, ◌≡◌, ℕ, ◌<◌, ◌≤◌, ◌⊎◌, List, [], ◌∷◌, ◌++◌, map, length, take, Some, None, Option, sym, refl, ap, ◌∙◌, subst, inl, inr, ⊎_elim, append_assoc, arith}
use Rattle.std.specs.Prelude.{slice_set}
use Rattle.std.specs.List.{AllByRecursion}
use Rattle.std.proofs.lemmas.Bool.{cases_eq, cases_lt}
use Rattle.std.proofs.lemmas.List.{get_or-set_same, get_or-set_other, length-map, length-replicate, length-set}
use Rattle.reach.specs.Reach.{Among}
use Rattle.names.specs.Names.{position, Apart}
use Rattle.names.proofs.Places.{position_within}
use Rattle.netlist.specs.Netlist.{Netlist, Driver, Signal, unused, driver_of, output_of, pins_of, feeders, Feeds, Different, Feeding, Loop, empty_netlist}
use Rattle.netlist.specs.Netlist as net
use Rattle.netlist.specs.declared.edit.Edit.{Edit}
use Rattle.netlist.specs.Edits.{Board, asked, Beyond, Applies, no_batch, no_signal, out_of_range, wrong_kind, no_pin, in_use, looped, DrivenAlready, named, Unranged, WrongKind, PinBeyond, StillUsed}
use Rattle.netlist.specs.Edits.{driven as already}
use Rattle.blif.specs.Statement.{Name}
use Rattle.blif.specs.Description.{In, Source, input, gate, latched, Claim, drives, marks, driven, Once, name_of, source_of, seen_at, seen, Describes}
use Rattle.blif.specs.Calls.{number_of, four, edit_of, InTurn, none, more}
use Rattle.blif.specs.Reading.{Stated}
use Rattle.blif.specs.Building.{Named, Numbered, AcceptsStated}
use Rattle.blif.proofs.Describing.{in_left, name-at}
use Rattle.blif.proofs.Building.{build, edit-more, nothing_described, taken-back, numbered, all_unused}

-- ---- loops

module _ (n n' : Netlist) (f : ℕ → ℕ) (Known : ℕ → Type 0) (apart : (x y : ℕ) → Known x → Known y → f x ≡ f y → x ≡ y)
    (fed : (a t : ℕ) → Feeds n a t → Known a × Feeds n' (f a) (f t)) where
  feeding-kept : (xs : List ℕ) (end : ℕ) → Feeding n xs end → Feeding n' (map f xs) (f end)
  feeding-kept [] end h = h
  feeding-kept (x ∷ []) end h = (fed x end h).1
  feeding-kept (x ∷ (y ∷ ys)) end h = ((fed x y h.0).1, feeding-kept (y ∷ ys) end h.1)

  all_known : (xs : List ℕ) (end : ℕ) → Feeding n xs end → AllByRecursion Known xs
  all_known [] end h = tt
  all_known (x ∷ []) end h = ((fed x end h).0, tt)
  all_known (x ∷ (y ∷ ys)) end h = ((fed x y h.0).0, all_known (y ∷ ys) end h.1)

  not_among : (x : ℕ) (xs : List ℕ) → Known x → AllByRecursion Known xs → (Among x xs → ⊥) → Among (f x) (map f xs) → ⊥
  not_among x [] k ks h i = i
  not_among x (y ∷ ys) k ks h i = ⊎_elim (λ e. h (inl (apart x y k ks.0 e))) (λ t. not_among x ys k ks.1 (λ j. h (inr j)) t) i

  still_different : (xs : List ℕ) → AllByRecursion Known xs → Different xs → Different (map f xs)
  still_different [] ks d = d
  still_different (x ∷ xs) ks d = (not_among x xs ks.0 ks.1 d.0, still_different xs ks.1 d.1)

  loop-kept : (xs : List ℕ) → Loop n xs → Loop n' (map f xs)
  loop-kept [] h = h
  loop-kept (x ∷ xs) h = (still_different (x ∷ xs) (all_known (x ∷ xs) x h.1) h.0, feeding-kept (x ∷ xs) x h.1)

-- ---- only signals with names are in use

abbrev Below : ℕ → List ℕ → Type 0
Below k xs = AllByRecursion (λ a. a < k) xs

abbrev Within : List Name → Netlist → Type 0
Within ns n = (t : ℕ) → (driver_of n t ≡ net.absent) ⊎ ((t < length ns) × Below (length ns) (pins_of (driver_of n t)))

within-set : (ns : List Name) (n : Netlist) (s : ℕ) (sig : Signal) → Within ns n → s < length n → (sig.driver ≡ net.absent) ⊎ ((s < length ns) × Below (length ns) (pins_of sig.driver)) → Within ns (slice_set n s sig)
within-set ns n s sig w inside h t =
    ⊎_elim
    (λ e.
    let here : driver_of (slice_set n s sig) t ≡ sig.driver = ap (λ j. driver_of (slice_set n s sig) j) e ∙ ap (λ g. g.driver) (get_or-set_same n s sig unused inside) in
    ⊎_elim (λ z. inl (here ∙ z)) (λ z. inr (subst (λ j. j < length ns) (sym e) z.0, subst (λ d. Below (length ns) (pins_of d)) (sym here) z.1)) h)
    (λ ne.
    let same : driver_of (slice_set n s sig) t ≡ driver_of n t = ap (λ g. g.driver) (get_or-set_other n s t sig unused ne) in
    ⊎_elim (λ z. inl (same ∙ z)) (λ z. inr (z.0, subst (λ d. Below (length ns) (pins_of d)) (sym same) z.1)) (w t))
    (cases_eq t s)

below_all : (m : ℕ) (ns : List Name) (pins : List Name) → AllByRecursion (Named m ns) pins → Below (length ns) (map (number_of ns) pins)
below_all m ns [] h = tt
below_all m ns (x ∷ pins) h = (subst (λ s. s < length ns) (sym (numbered m ns x h.0)) (position_within ns x h.0.0 h.0.1), below_all m ns pins h.1)

module _ (m : ℕ) (ns : List Name) where
  claimed_number : (x : Name) → Named m ns x → number_of ns x < length ns
  claimed_number x k = subst (λ s. s < length ns) (sym (numbered m ns x k)) (position_within ns x k.0 k.1)

  pub whole-pins : (pins : List Name) → length pins ≤ 4 → take (length pins) (four (map (number_of ns) pins)) ≡ map (number_of ns) pins
  whole-pins pins few =
      ap (λ j. take j (four (map (number_of ns) pins))) (sym (length-map pins (number_of ns))) ∙ taken-back (map (number_of ns) pins) (omega (arith, length-map pins (number_of ns), few))

  within-more : (n : Netlist) (c : Claim) → length n ≡ m → Numbered m ns c → Within ns n → Within ns (asked n (edit_of ns c))
  within-more n (drives x input) long k w = within-set ns n (number_of ns x) _ w (omega (arith, long, numbered m ns x k, k.2)) (inr (claimed_number x k, tt))
  within-more n (drives x (gate table pins)) long k w =
      within-set ns n (number_of ns x) _ w (omega (arith, long, numbered m ns x k.0, k.0.2)) (inr (claimed_number x k.0, subst (Below (length ns)) (sym (whole-pins pins k.1)) (below_all m ns pins k.2)))
  within-more n (drives x (latched start a)) long k w = within-set ns n (number_of ns x) _ w (omega (arith, long, numbered m ns x k.0, k.0.2)) (inr (claimed_number x k.0, (claimed_number a k.1, tt)))
  within-more n (marks x) long k w =
      within-set ns n (number_of ns x) _ w (omega (arith, long, numbered m ns x k, k.2)) (⊎_elim (λ z. inl z) (λ z. inr (claimed_number x k, z.1)) (w (number_of ns x)))

  within-built : (cs : List Claim) (b b' : Board) (count : ℕ) → length b.netlist ≡ m → AllByRecursion (Numbered m ns) cs → (es : List Edit) → es ≡ map (edit_of ns) cs → InTurn m es b b' count
      → Within ns b.netlist → Within ns b'.netlist × (length b'.netlist ≡ m)
  within-built [] b b' count long k es is none w = (w, long)
  within-built [] b b' count long k es is (more c total e r) w = absurd (cc)
  within-built (c ∷ cs) b b' count long k es is none w = absurd (cc)
  within-built (c ∷ cs) b b' count long k es is (more {e = f} {es = fs} {b' = mid} j total e r) w =
      let first : f ≡ edit_of ns c = cc in
      let rest : fs ≡ map (edit_of ns) cs = cc in
      let net' : mid.netlist ≡ asked b.netlist (edit_of ns c) = e.1 ∙ ap (asked b.netlist) first in
      within-built cs mid b' total (ap length net' ∙ asked-long b.netlist c long) k.1 fs rest r (subst (Within ns) (sym net') (within-more b.netlist c long k.0 w))
    where
      asked-long : (n : Netlist) (c : Claim) → length n ≡ m → length (asked n (edit_of ns c)) ≡ m
      asked-long n (drives x input) long = length-set n _ _ ∙ long
      asked-long n (drives x (gate table pins)) long = length-set n _ _ ∙ long
      asked-long n (drives x (latched start a)) long = length-set n _ _ ∙ long
      asked-long n (marks x) long = length-set n _ _ ∙ long

-- ---- one netlist by names, under other numbers

module _ (ns names : List Name) (apart : Apart ns) (apart' : Apart names) where
  -- the number of the same name
  abbrev other : ℕ → ℕ
  other t = number_of names (name_of ns t)

  pub record Known (t : ℕ) : Type 0 where
    pub here : t < length ns
    pub there : name_of names (other t) ≡ name_of ns t

  known : (t u : ℕ) → t < length ns → position names (name_of ns t) ≡ Some u → Known t × (other t ≡ u)
  known t u l e =
      let is : other t ≡ u = ap (λ o. unwrap_or o 0) e in
      (record { here = l; there = ap (name_of names) is ∙ sym (name-at names (name_of ns t) u e) }, is)

  one_known : (x y : ℕ) → Known x → Known y → other x ≡ other y → x ≡ y
  one_known x y h k e =
      let same : name_of ns x ≡ name_of ns y = sym h.there ∙ ap (name_of names) e ∙ k.there in
      let f : Some x ≡ Some y = sym (apart x h.here) ∙ ap (position ns) same ∙ apart y k.here in cc

  -- a pin of the one is a pin of the other
  same_pin : (xs ys : List ℕ) → Below (length ns) xs → Below (length names) ys → map (name_of names) ys ≡ map (name_of ns) xs → (a : ℕ) → Among a xs → Known a × Among (other a) ys
  same_pin [] ys h k e a i = absurd i
  same_pin (x ∷ xs) [] h k e a i = absurd (cc)
  same_pin (x ∷ xs) (y ∷ ys) h k e a i =
      let f : name_of names y ≡ name_of ns x = cc in
      let g : map (name_of names) ys ≡ map (name_of ns) xs = cc in
      ⊎_elim
      (λ z.
      let at : position names (name_of ns a) ≡ Some y = ap (λ j. position names (name_of ns j)) z ∙ ap (position names) (sym f) ∙ apart' y k.0 in
      let r = known a y (subst (λ j. j < length ns) (sym z) h.0) at in
      (r.0, inl r.1))
      (λ z. let r = same_pin xs ys h.1 k.1 g a z in (r.0, inr r.1))
      i

  module _ (cs done : List Claim) (n n' : Netlist) (w : Within ns n) (w' : Within names n') (h : Describes done (seen ns n)) (h' : Describes cs (seen names n')) (sub : (c : Claim) → In c done → In c cs) where
    feeds_kept : (a t : ℕ) → Feeds n a t → Known a × Feeds n' (other a) (other t)
    feeds_kept a t f = by (driver_of n t) refl (w t) f
      where
        there : (table : ℕ) (pins : List ℕ) → driver_of n t ≡ net.gate table pins → t < length ns → Below (length ns) pins → Among a pins → (o : Option ℕ) → position names (name_of ns t) ≡ o
            → (seen_at names n' o).source ≡ Some (gate table (map (name_of ns) pins)) → Known a × Feeds n' (other a) (other t)
        there table pins is l low f None at e = absurd (cc)
        there table pins is l low f (Some u) at e = driver (driver_of n' u) refl (w' u) e
          where
            driver : (d : Driver) → driver_of n' u ≡ d → (driver_of n' u ≡ net.absent) ⊎ ((u < length names) × Below (length names) (pins_of (driver_of n' u)))
                → source_of names d ≡ Some (gate table (map (name_of ns) pins)) → Known a × Feeds n' (other a) (other t)
            driver net.absent at' z e = absurd (cc)
            driver net.input at' z e = let y : input ≡ gate table (map (name_of ns) pins) = cc in absurd (cc)
            driver (net.latch start pin) at' z e = let y : latched start (name_of names pin) ≡ gate table (map (name_of ns) pins) = cc in absurd (cc)
            driver (net.gate table' pins') at' z e =
                let y : gate table' (map (name_of names) pins') ≡ gate table (map (name_of ns) pins) = cc in
                let same : map (name_of names) pins' ≡ map (name_of ns) pins = cc in
                ⊎_elim
                (λ gone. let v : net.gate table' pins' ≡ net.absent = sym at' ∙ gone in absurd (cc))
                (λ low'.
                let r = same_pin pins pins' low (subst (λ d. Below (length names) (pins_of d)) at' low'.1) same a f in
                let num = (known t u l at).1 in
                (r.0, subst (λ j. Feeds n' (other a) j) (sym num) (subst (λ d. Among (other a) (feeders d)) (sym at') r.1)))
                z

        by : (d : Driver) → driver_of n t ≡ d → (driver_of n t ≡ net.absent) ⊎ ((t < length ns) × Below (length ns) (pins_of (driver_of n t))) → Among a (feeders d) → Known a × Feeds n' (other a) (other t)
        by net.absent is z f = absurd f
        by net.input is z f = absurd f
        by (net.latch start pin) is z f = absurd f
        by (net.gate table pins) is z f =
            ⊎_elim
            (λ gone. let v : net.gate table pins ≡ net.absent = sym is ∙ gone in absurd (cc))
            (λ low.
            let claim = (h.sources (name_of ns t) (gate table (map (name_of ns) pins))).0 (ap (λ o. (seen_at ns n o).source) (apart t low.0) ∙ ap (source_of ns) is) in
            there table pins is low.0 (subst (λ d. Below (length ns) (pins_of d)) is low.1) f (position names (name_of ns t)) refl
            ((h'.sources (name_of ns t) (gate table (map (name_of ns) pins))).1 (sub _ claim)))
            z

below-from : (k : ℕ) (xs : List ℕ) → ((a : ℕ) → Among a xs → a < k) → Below k xs
below-from k [] h = tt
below-from k (x ∷ xs) h = (h x (inl refl), below-from k xs (λ a i. h a (inr i)))

module _ (ns : List Name) (cs : List Claim) (n : Netlist) (s : Stated ns cs n) where
  named_if : (t : ℕ) → (driver_of n t ≡ net.absent → ⊥) → t < length ns
  named_if t h = ⊎_elim (λ lt. lt) (λ le. absurd (h (s.nameless t le).0)) (cases_lt t (length ns))

  -- a whole netlist with no signal in use but those with names
  within-whole : Within ns n
  within-whole t = by (driver_of n t) refl
    where
      used : (d : Driver) → driver_of n t ≡ d → (d ≡ net.absent → ⊥) → (driver_of n t ≡ net.absent) ⊎ ((t < length ns) × Below (length ns) (pins_of (driver_of n t)))
      used d is h =
          inr (named_if t (λ z. h (sym is ∙ z)), below-from (length ns) (pins_of (driver_of n t)) (λ a i. named_if a (λ z. (s.whole a z).1 (t, i))))

      by : (d : Driver) → driver_of n t ≡ d → (driver_of n t ≡ net.absent) ⊎ ((t < length ns) × Below (length ns) (pins_of (driver_of n t)))
      by net.absent is = inl is
      by net.input is = used net.input is (λ z. cc)
      by (net.gate table pins) is = used (net.gate table pins) is (λ z. cc)
      by (net.latch start pin) is = used (net.latch start pin) is (λ z. cc)

-- ---- no name is driven twice

driven_later : (x : Name) (d : Source) (done rest : List Claim) → In x (driven (done ++ drives x d ∷ rest))
driven_later x d [] rest = inl refl
driven_later x d (drives y e ∷ done) rest = inr (driven_later x d done rest)
driven_later x d (marks y ∷ done) rest = driven_later x d done rest

once_apart : (x : Name) (d e : Source) (done rest : List Claim) → In (drives x e) done → Once (driven (done ++ drives x d ∷ rest)) → ⊥
once_apart x d e [] rest i o = i
once_apart x d e (drives y f ∷ done) rest i o =
    ⊎_elim (λ z. let k : x ≡ y = cc in o.0 (subst (λ q. In q (driven (done ++ drives x d ∷ rest))) k (driven_later x d done rest))) (λ z. once_apart x d e done rest z o.1) i
once_apart x d e (marks y ∷ done) rest i o = ⊎_elim (λ z. absurd (cc)) (λ z. once_apart x d e done rest z o) i

sourceless : (ns : List Name) (d : Driver) → source_of ns d ≡ None → d ≡ net.absent
sourceless ns net.absent e = refl
sourceless ns net.input e = absurd (cc)
sourceless ns (net.gate table pins) e = absurd (cc)
sourceless ns (net.latch start pin) e = absurd (cc)

-- ---- what is refused

module _ (m : ℕ) (ns : List Name) where
  not_beyond : (x : Name) → Named m ns x → m ≤ number_of ns x → ⊥
  not_beyond x k le = absurd (omega (arith, numbered m ns x k, k.2))

  pins-not_beyond : (pins : List Name) → AllByRecursion (Named m ns) pins → Beyond m (map (number_of ns) pins) → ⊥
  pins-not_beyond [] h b = b
  pins-not_beyond (x ∷ pins) h b = ⊎_elim (not_beyond x h.0) (pins-not_beyond pins h.1) b

  signals : (c : Claim) → Numbered m ns c → Beyond m (named (edit_of ns c)) → ⊥
  signals (drives x input) k b = ⊎_elim (not_beyond x k) (λ z. z) b
  signals (drives x (gate table pins)) k b = ⊎_elim (not_beyond x k.0) (λ z. pins-not_beyond pins k.2 (subst (Beyond m) (whole-pins m ns pins k.1) z)) b
  signals (drives x (latched start a)) k b = ⊎_elim (not_beyond x k.0) (λ z. ⊎_elim (not_beyond a k.1) (λ y. y) z) b
  signals (marks x) k b = ⊎_elim (not_beyond x k) (λ z. z) b

  ranges : (c : Claim) → Numbered m ns c → Unranged (edit_of ns c) → ⊥
  ranges (drives x input) k b = b
  ranges (drives x (gate table pins)) k b = ⊎_elim (λ z. absurd (omega (arith, k.1, z))) (λ z. let t = k.3 in absurd (omega arith)) b
  ranges (drives x (latched start a)) k b = absurd (omega (arith, k.2, b))
  ranges (marks x) k b = absurd (omega (arith, b))

  kinds : (n : Netlist) (c : Claim) → (WrongKind n (edit_of ns c) → ⊥) × (PinBeyond n (edit_of ns c) → ⊥) × (StillUsed n (edit_of ns c) → ⊥)
  kinds n (drives x input) = ((λ b. b), (λ b. b), (λ b. b))
  kinds n (drives x (gate table pins)) = ((λ b. b), (λ b. b), (λ b. b))
  kinds n (drives x (latched start a)) = ((λ b. b), (λ b. b), (λ b. b))
  kinds n (marks x) = ((λ b. b), (λ b. b), (λ b. b))

  pub free : (n : Netlist) (done rest : List Claim) (c : Claim) → Numbered m ns c → Describes done (seen ns n) → Once (driven (done ++ c ∷ rest)) → DrivenAlready n (edit_of ns c) → ⊥
  free n done rest c k h o b = by c k o b
    where
      undriven : (x : Name) (d : Source) → Named m ns x → Once (driven (done ++ drives x d ∷ rest)) → driver_of n (number_of ns x) ≡ net.absent
      undriven x d k o =
          subst (λ s. driver_of n s ≡ net.absent) (sym (numbered m ns x k)) (sourceless ns (driver_of n k.0) (sym (ap (λ y. (seen_at ns n y).source) k.1) ∙ none_of ((seen ns n x).source) refl))
        where
          none_of : (a : Option Source) → (seen ns n x).source ≡ a → (seen ns n x).source ≡ None
          none_of None e = e
          none_of (Some e) is = absurd (once_apart x d e done rest ((h.sources x e).0 is) o)

      by : (c : Claim) → Numbered m ns c → Once (driven (done ++ c ∷ rest)) → DrivenAlready n (edit_of ns c) → ⊥
      by (drives x input) k o b = b (undriven x input k o)
      by (drives x (gate table pins)) k o b = b (undriven x (gate table pins) k.0 o)
      by (drives x (latched start a)) k o b = b (undriven x (latched start a) k.0 o)
      by (marks x) k o b = b

all_split : {A : Type 0} (P : A → Type 0) (xs : List A) (y : A) (zs : List A) → AllByRecursion P (xs ++ y ∷ zs) → AllByRecursion P xs × P y
all_split P [] y zs h = (tt, h.0)
all_split P (x ∷ xs) y zs h = let r = all_split P xs y zs h.1 in ((h.0, r.0), r.1)

in_front : (done rest : List Claim) (c e : Claim) → In e (done ++ c ∷ []) → In e (done ++ c ∷ rest)
in_front done rest c e i = subst (λ l. In e l) (append_assoc done (c ∷ []) rest) (in_left e (done ++ c ∷ []) rest i)

pub accepts-stated : AcceptsStated
accepts-stated m ns o cs done rest c names n b count k apart all once s is made = by k
  where
    parts : AllByRecursion (Numbered m ns) done × Numbered m ns c
    parts = all_split (Numbered m ns) done c rest (subst (AllByRecursion (Numbered m ns)) is all)

    start : Board
    start = record { netlist = empty_netlist m; order = o }

    described : Describes done (seen ns b.netlist)
    described = build m ns [] done start b count (length-replicate m unused) parts.0 _ refl made (nothing_described m ns)

    within : Within ns b.netlist × (length b.netlist ≡ m)
    within = within-built m ns done start b count (length-replicate m unused) parts.0 _ refl made (λ t. inl (ap (λ g. g.driver) (all_unused m t)))

    undriven : DrivenAlready b.netlist (edit_of ns c) → ⊥
    undriven = free m ns b.netlist done rest c parts.1 described (subst (λ l. Once (driven l)) is once)

    by : (k : ℕ) → Applies m 1 b.netlist (edit_of ns c) k → ⊥
    by j (no_batch h) = absurd (omega (arith, h))
    by j (no_signal h) = signals m ns c parts.1 h
    by j (out_of_range h) = ranges m ns c parts.1 h
    by j (already h) = undriven h
    by j (wrong_kind h) = (kinds m ns b.netlist c).0 h
    by j (no_pin h) = (kinds m ns b.netlist c).1 h
    by j (in_use h) = (kinds m ns b.netlist c).2 h
    by j (looped xs loop) =
        s.unlooped _
        (loop-kept (asked b.netlist (edit_of ns c)) n (other ns names apart s.apart) (Known ns names apart s.apart) (one_known ns names apart s.apart)
        (feeds_kept ns names apart s.apart cs (done ++ c ∷ []) (asked b.netlist (edit_of ns c)) n (within-more m ns b.netlist c within.1 parts.1 within.0) (within-whole names cs n s)
        (edit-more m ns b.netlist within.1 done c parts.1 undriven described).0 s.describes (λ e i. subst (λ l. In e l) (sym is) (in_front done rest c e i)))
        xs loop)
