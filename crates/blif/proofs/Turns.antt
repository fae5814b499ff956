-- The calls of a read, as edits made in turn in its batch.
use Rattle.std.proofs.Common.{◌≡◌, ℕ, suc, ◌+◌, ◌<◌, false, ◌⊎◌, List, [], ◌∷◌, ◌++◌, map, length, Some, None, Ok, Err, Option, Result, sym, refl, ap, ◌∙◌, subst, inl, inr, ⊎_elim, append_assoc, arith}
use Rattle.std.specs.Prelude.{slice_set, slice_index_or}
use Rattle.std.specs.List.{AllByRecursion}
use Rattle.std.proofs.lemmas.Bool.{cases_eq}
use Rattle.std.proofs.lemmas.List.{get_or-set_same, get_or-set_other, length-set, append-nil}
use Rattle.words.specs.Meaning.{levels}
use Rattle.netlist.specs.declared.edit.Edit.{Edit}
use Rattle.netlist.specs.declared.edit.Refusal.{Refusal}
use Rattle.netlist.specs.Refusals.{number}
use Rattle.netlist.specs.Netlist.{Netlist, Driver, Signal, unused, driver_of, output_of, pins_of, empty_netlist}
use Rattle.netlist.specs.Netlist as net
use Rattle.netlist.specs.Edits.{Board, Applies, asked, DrivenAlready}
use Rattle.netlist.specs.Edits.{driven as already}
use Rattle.board.specs.Board.{board_of, netlist_of}
use Rattle.editor.specs.declared.call.Call.{Call}
use Rattle.editor.specs.declared.call.Call.TheVariants.{Make}
use Rattle.editor.specs.Log.{Entry}
use Rattle.editor.specs.Calls.{Replies, Serves}
use Rattle.desk.specs.State.{State}
use Rattle.desk.specs.Plays.{Plays}
use Rattle.blif.specs.Statement.{Name}
use Rattle.blif.specs.Chain.{Chain}
use Rattle.blif.specs.Description.{In, Source, input, gate, latched, Claim, drives, marks, driven, Once, source_of, seen_at, seen, Describes}
use Rattle.blif.specs.Calls.{number_of, edit_of, Made, all, accepted, refused, InTurn, none, more}
use Rattle.blif.specs.Building.{Named, Numbered}
use Rattle.blif.proofs.Building.{numbered, edit-more}
use Rattle.blif.proofs.Accepting.{whole-pins, free}
use Rattle.blif.proofs.Describing.{in_either}

-- ---- calls at a desk

pub serves-at : (m : ℕ) (d d' : State) (c : Call) (r : Result ℕ Refusal) → 0 < m → d.editor.signals ≡ m → Plays d c d' r → Replies m d.editor.words c d'.editor.words r
serves-at m d d' c r pos s p = (subst (λ j. Serves j d.editor.words c d'.editor.words r) s p.called.serves).some pos

module _ (m : ℕ) (pos : 0 < m) where
  pub turns : (es : List Edit) (log : List Entry) (count : ℕ) (end : Option (Refusal × ℕ)) (d d' : State) → d.editor.signals ≡ m → levels d.editor.words ≡ 1 → Made es log count end → end ≡ None → Chain d log d'
      → InTurn m es (board_of m d.editor.words.image) (board_of m d'.editor.words.image) count × (d'.editor.signals ≡ m) × (levels d'.editor.words ≡ 1)
  turns es log count end d d' s one all e c =
      (subst (λ x. InTurn m [] (board_of m d.editor.words.image) (board_of m x.editor.words.image) 0) (sym c) none, ap (λ x. x.editor.signals) c ∙ s, ap (λ x. levels x.editor.words) c ∙ one)
  turns es log count end d d' s one (accepted {e = f} {es = fs} {log = later} {total = total} k h) e c =
      let r = serves-at m d c.0 (Make f) (Ok k) pos s c.1 in
      let free : (j : ℕ) → Applies m 1 (netlist_of m d.editor.words.image) f j → ⊥ = subst (λ l. (j : ℕ) → Applies m l (netlist_of m d.editor.words.image) f j → ⊥) one r.0 in
      let rest = turns fs later total end c.0 d' (c.1.called.signals ∙ s) (ap length r.1.0.levels ∙ one) h e c.2 in
      (more k total (free, r.1.1, r.1.2) rest.0, rest.1, rest.2)
  turns es log count end d d' s one (refused r) e c = absurd (cc)

  -- the first edit that is refused
  pub record Stuck (ns : List Name) (cs : List Claim) (b : Board) : Type 0 where
    pub done : List Claim
    pub rest : List Claim
    pub claim : Claim
    pub parts : cs ≡ done ++ claim ∷ rest
    pub then : Board
    pub count : ℕ
    pub made : InTurn m (map (edit_of ns) done) b then count
    pub why : ℕ
    pub applies : Applies m 1 then.netlist (edit_of ns claim) why

  pub stuck : (ns : List Name) (cs : List Claim) (es : List Edit) (log : List Entry) (count : ℕ) (end : Option (Refusal × ℕ)) (w : Refusal × ℕ) (d d' : State) → d.editor.signals ≡ m → levels d.editor.words ≡ 1 → Made es log count end
      → end ≡ Some w → es ≡ map (edit_of ns) cs → Chain d log d' → Stuck ns cs (board_of m d.editor.words.image)
  stuck ns cs es log count end w d d' s one all e is c = absurd (cc)
  stuck ns [] es log count end w d d' s one (accepted k h) e is c = absurd (cc)
  stuck ns (x ∷ cs) es log count end w d d' s one (accepted {e = f} {es = fs} {log = later} {total = total} k h) e is c =
      let first : f ≡ edit_of ns x = cc in
      let others : fs ≡ map (edit_of ns) cs = cc in
      let r = serves-at m d c.0 (Make f) (Ok k) pos s c.1 in
      let free : (j : ℕ) → Applies m 1 (netlist_of m d.editor.words.image) f j → ⊥ = subst (λ l. (j : ℕ) → Applies m l (netlist_of m d.editor.words.image) f j → ⊥) one r.0 in
      let rest = stuck ns cs fs later total end w c.0 d' (c.1.called.signals ∙ s) (ap length r.1.0.levels ∙ one) h e others c.2 in
      record {
        done = x ∷ rest.done;
        rest = rest.rest;
        claim = rest.claim;
        parts = ap (λ l. x ∷ l) rest.parts;
        then = rest.then;
        count = k + rest.count;
        made = subst (λ g. InTurn m (g ∷ map (edit_of ns) rest.done) (board_of m d.editor.words.image) rest.then (k + rest.count)) first (more k rest.count (free, r.1.1, r.1.2) rest.made);
        why = rest.why;
        applies = rest.applies;
      }
  stuck ns [] es log count end w d d' s one (refused r) e is c = absurd (cc)
  stuck ns (x ∷ cs) es log count end w d d' s one (refused {e = f} {es = fs} r) e is c =
      let first : f ≡ edit_of ns x = cc in
      let no = serves-at m d c.0 (Make f) (Err r) pos s c.1 in
      record {
        done = [];
        rest = cs;
        claim = x;
        parts = refl;
        then = board_of m d.editor.words.image;
        count = 0;
        made = none;
        why = number r;
        applies = subst (λ g. Applies m 1 (netlist_of m d.editor.words.image) g (number r)) first (subst (λ l. Applies m l (netlist_of m d.editor.words.image) f (number r)) one no.0);
      }

-- ---- what is in use

module _ (K : ℕ → Type 0) where
  abbrev pub All : List ℕ → Type 0
  All xs = AllByRecursion K xs

  -- only such signals are driven, are outputs, or have a pin on them
  abbrev pub Kept : Netlist → Type 0
  Kept n = (t : ℕ) → ((driver_of n t ≡ net.absent) ⊎ (K t × All (pins_of (driver_of n t)))) × ((output_of n t ≡ false) ⊎ K t)

  kept-set : (n : Netlist) (s : ℕ) (sig : Signal) → Kept n → s < length n → (sig.driver ≡ net.absent) ⊎ (K s × All (pins_of sig.driver)) → (sig.output ≡ false) ⊎ K s → Kept (slice_set n s sig)
  kept-set n s sig w inside h o t =
      ⊎_elim
      (λ e.
      let here : slice_index_or (slice_set n s sig) t unused ≡ sig = ap (λ j. slice_index_or (slice_set n s sig) j unused) e ∙ get_or-set_same n s sig unused inside in (
        ⊎_elim (λ z. inl (ap (λ g. g.driver) here ∙ z)) (λ z. inr (subst K (sym e) z.0, subst (λ g. All (pins_of g.driver)) (sym here) z.1)) h,
        ⊎_elim (λ z. inl (ap (λ g. g.output) here ∙ z)) (λ z. inr (subst K (sym e) z)) o,
      ))
      (λ ne.
      let same : slice_index_or (slice_set n s sig) t unused ≡ slice_index_or n t unused = get_or-set_other n s t sig unused ne in (
        ⊎_elim (λ z. inl (ap (λ g. g.driver) same ∙ z)) (λ z. inr (z.0, subst (λ g. All (pins_of g.driver)) (sym same) z.1)) (w t).0,
        ⊎_elim (λ z. inl (ap (λ g. g.output) same ∙ z)) (λ z. inr z) (w t).1,
      ))
      (cases_eq t s)

  module _ (m : ℕ) (ns : List Name) (known : (x : Name) → Named m ns x → K (number_of ns x)) where
    pins-known : (pins : List Name) → AllByRecursion (Named m ns) pins → All (map (number_of ns) pins)
    pins-known [] h = tt
    pins-known (x ∷ pins) h = (known x h.0, pins-known pins h.1)

    within : (n : Netlist) (x : Name) → length n ≡ m → Named m ns x → number_of ns x < length n
    within n x long k = omega (arith, long, numbered m ns x k, k.2)

    kept-more : (n : Netlist) (c : Claim) → length n ≡ m → Numbered m ns c → Kept n → Kept (asked n (edit_of ns c))
    kept-more n (drives x input) long k w = kept-set n (number_of ns x) _ w (within n x long k) (inr (known x k, tt)) (inr (known x k))
    kept-more n (drives x (gate table pins)) long k w =
        kept-set n (number_of ns x) _ w (within n x long k.0) (inr (known x k.0, subst All (sym (whole-pins m ns pins k.1)) (pins-known pins k.2))) (inr (known x k.0))
    kept-more n (drives x (latched start a)) long k w = kept-set n (number_of ns x) _ w (within n x long k.0) (inr (known x k.0, (known a k.1, tt))) (inr (known x k.0))
    kept-more n (marks x) long k w =
        kept-set n (number_of ns x) _ w (within n x long k) (⊎_elim (λ z. inl z) (λ z. inr (known x k, z.1)) (w (number_of ns x)).0) (inr (known x k))

    asked-long : (n : Netlist) (c : Claim) → length n ≡ m → length (asked n (edit_of ns c)) ≡ m
    asked-long n (drives x input) long = length-set n _ _ ∙ long
    asked-long n (drives x (gate table pins)) long = length-set n _ _ ∙ long
    asked-long n (drives x (latched start a)) long = length-set n _ _ ∙ long
    asked-long n (marks x) long = length-set n _ _ ∙ long

    pub kept_built : (cs : List Claim) (b b' : Board) (count : ℕ) → length b.netlist ≡ m → AllByRecursion (Numbered m ns) cs → (es : List Edit) → es ≡ map (edit_of ns) cs → InTurn m es b b' count → Kept b.netlist
        → Kept b'.netlist × (length b'.netlist ≡ m)
    kept_built [] b b' count long k es is none w = (w, long)
    kept_built [] b b' count long k es is (more c total e r) w = absurd (cc)
    kept_built (c ∷ cs) b b' count long k es is none w = absurd (cc)
    kept_built (c ∷ cs) b b' count long k es is (more {e = f} {es = fs} {b' = mid} j total e r) w =
        let first : f ≡ edit_of ns c = cc in
        let rest : fs ≡ map (edit_of ns) cs = cc in
        let net' : mid.netlist ≡ asked b.netlist (edit_of ns c) = e.1 ∙ ap (asked b.netlist) first in
        kept_built cs mid b' total (ap length net' ∙ asked-long b.netlist c long) k.1 fs rest r (subst Kept (sym net') (kept-more b.netlist c long k.0 w))

-- ---- no name is driven twice

pub driven-join : (xs ys : List Claim) → driven (xs ++ ys) ≡ driven xs ++ driven ys
driven-join [] ys = refl
driven-join (drives x d ∷ xs) ys = ap (λ l. x ∷ l) (driven-join xs ys)
driven-join (marks x ∷ xs) ys = driven-join xs ys

in_driven : (x : Name) (cs : List Claim) → In x (driven cs) → (d : Source) × In (drives x d) cs
in_driven x [] i = absurd i
in_driven x (drives y d ∷ cs) i = ⊎_elim (λ e. (d, inl (ap (λ q. drives q d) e))) (λ z. let r = in_driven x cs z in (r.0, inr r.1)) i
in_driven x (marks y ∷ cs) i = let r = in_driven x cs i in (r.0, inr r.1)

once-last : (xs : List Name) (x : Name) → Once xs → (In x xs → ⊥) → Once (xs ++ x ∷ [])
once-last [] x o h = ((λ i. i), tt)
once-last (y ∷ xs) x o h =
    ((λ i. ⊎_elim (λ a. o.0 a) (λ b. ⊎_elim (λ e. h (inl (sym e))) (λ z. z) b) (in_either y xs (x ∷ []) i)), once-last xs x o.1 (λ i. h (inr i)))

module _ (m : ℕ) (ns : List Name) where
  driven-name : (x : Name) (d : Source) → Numbered m ns (drives x d) → Named m ns x
  driven-name x input k = k
  driven-name x (gate table pins) k = k.0
  driven-name x (latched start a) k = k.0

  already-if : (n : Netlist) (x : Name) (d : Source) → (driver_of n (number_of ns x) ≡ net.absent → ⊥) → DrivenAlready n (edit_of ns (drives x d))
  already-if n x input h = h
  already-if n x (gate table pins) h = h
  already-if n x (latched start a) h = h

  new-name : (n : Netlist) (done : List Claim) (x : Name) (d : Source) → Describes done (seen ns n) → Named m ns x → (DrivenAlready n (edit_of ns (drives x d)) → ⊥) → In x (driven done) → ⊥
  new-name n done x d h k free i =
      let there = in_driven x done i in
      let was = (h.sources x there.0).1 there.1 in
      free (already-if n x d (λ z.
      let at : driver_of n k.0 ≡ net.absent = ap (driver_of n) (sym (numbered m ns x k)) ∙ z in
      let e : None ≡ Some there.0 = sym (ap (λ o. (seen_at ns n o).source) k.1 ∙ ap (source_of ns) at) ∙ was in
      absurd (cc)))

  once-more : (n : Netlist) (done : List Claim) (c : Claim) → Describes done (seen ns n) → Numbered m ns c → (DrivenAlready n (edit_of ns c) → ⊥) → Once (driven done) → Once (driven (done ++ c ∷ []))
  once-more n done (drives x d) h k free o =
      subst Once (sym (driven-join done (drives x d ∷ []))) (once-last (driven done) x o (new-name n done x d h (driven-name x d k) free))
  once-more n done (marks x) h k free o = subst Once (sym (driven-join done (marks x ∷ []) ∙ append-nil (driven done))) o

  pub once_built : (done cs : List Claim) (b b' : Board) (count : ℕ) → length b.netlist ≡ m → AllByRecursion (Numbered m ns) cs → (es : List Edit) → es ≡ map (edit_of ns) cs → InTurn m es b b' count
      → Describes done (seen ns b.netlist) → Once (driven done) → Once (driven (done ++ cs))
  once_built done [] b b' count long k es is none h o = subst (λ l. Once (driven l)) (sym (append-nil done)) o
  once_built done [] b b' count long k es is (more c total e r) h o = absurd (cc)
  once_built done (c ∷ cs) b b' count long k es is none h o = absurd (cc)
  once_built done (c ∷ cs) b b' count long k es is (more {e = f} {es = fs} {b' = mid} j total e r) h o =
      let first : f ≡ edit_of ns c = cc in
      let rest : fs ≡ map (edit_of ns) cs = cc in
      let free = λ (a : DrivenAlready b.netlist (edit_of ns c)). e.0 14 (already (subst (DrivenAlready b.netlist) (sym first) a)) in
      let step = edit-more m ns b.netlist long done c k.0 free h in
      let net' : mid.netlist ≡ asked b.netlist (edit_of ns c) = e.1 ∙ ap (asked b.netlist) first in
      subst (λ l. Once (driven l)) (append_assoc done (c ∷ []) cs)
      (once_built (done ++ c ∷ []) cs mid b' total (ap length net' ∙ step.1) k.1 fs rest r (subst (λ n. Describes (done ++ c ∷ []) (seen ns n)) (sym net') step.0) (once-more b.netlist done c h k.0 free o))

-- ---- an editor that holds nothing

same_signal : (x : Signal) → x.driver ≡ net.absent → x.output ≡ false → x ≡ unused
same_signal x e f = ap (λ d. record { driver = d; output = x.output }) e ∙ ap (λ o. record { driver = net.absent; output = o }) f

pub all_empty : (n : Netlist) → ((s : ℕ) → driver_of n s ≡ net.absent) → ((s : ℕ) → output_of n s ≡ false) → n ≡ empty_netlist (length n)
all_empty [] h k = refl
all_empty (x ∷ n) h k = ap (λ g. g ∷ n) (same_signal x (h 0) (k 0)) ∙ ap (λ l. unused ∷ l) (all_empty n (λ s. h (suc s)) (λ s. k (suc s)))
