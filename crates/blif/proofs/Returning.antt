-- What is written is read back.
use Rattle.std.proofs.Common.{◌≡◌, ◌≢◌, ℕ, suc, true, ◌⊎◌, List, [], ◌∷◌, ◌++◌, map, length, filter, Some, sym, refl, ap, ◌∙◌, subst, inl, inr, ⊎_elim, arith}
use Rattle.std.specs.List.{flat_map, range_with_len}
use Rattle.std.proofs.lemmas.Grind.{flat_map-append}
use Rattle.std.proofs.lemmas.List.{length-map, append-nil}
use Rattle.reach.specs.Reach.{Among}
use Rattle.table.specs.Line.{Means}
use Rattle.table.specs.Written.{lines_of}
use Rattle.table.proofs.Ones.{reads-back}
use Rattle.names.specs.Names.{position, entered, fits}
use Rattle.netlist.specs.Netlist.{Netlist, Driver, driver_of, output_of, pins_of, Used}
use Rattle.netlist.specs.Netlist as net
use Rattle.netlist.specs.Places.{Order}
use Rattle.netlist.proofs.Loops.{order-excludes-loops}
use Rattle.board.specs.Standing.{Fitting}
use Rattle.blif.specs.Statement.{Name, Statement, inputs, outputs, latch, names, mentioned, all_mentioned}
use Rattle.blif.specs.Description.{In, Claim, drives, marks, input, Claims, ClaimAll, driven, Once, name_of, seen, Describes, SameByName}
use Rattle.blif.specs.Description as source
use Rattle.blif.specs.Written.{is_input, latch_statement, gate_statement, listing, statements_of, lines_of_file, file_of}
use Rattle.blif.specs.File.{Met}
use Rattle.blif.specs.Reading.{Says, Stated}
use Rattle.blif.specs.Returning.{Exportable, RoundTrip}
use Rattle.blif.proofs.Describing.{in_either, written-describes}
use Rattle.blif.proofs.Spelling.{spelling-holds}
use Rattle.blif.proofs.Building.{undriven}
use Rattle.blif.proofs.Filing.{written_is_file}
use Rattle.blif.proofs.Turns.{driven-join}
use Rattle.blif.proofs.Giving.{not_true}
use Rattle.blif.proofs.Apiece.{Apiece, apiece_once, apiece_join, apiece_map, in_mapped_back, in_filter_back, apiece_filter, apiece_range, apiece_order, names_fit}
use Rattle.blif.proofs.Agreeing.{reads_accept}

in_flat_back : {A B : Type 0} (f : A → List B) (z : B) (xs : List A) → In z (flat_map f xs) → (x : A) × In x xs × In z (f x)
in_flat_back f z [] i = absurd i
in_flat_back f z (x ∷ xs) i = ⊎_elim (λ a. (x, inl refl, a)) (λ b. let r = in_flat_back f z xs b in (r.0, inr r.1, r.2)) (in_either z (f x) (flat_map f xs) i)

-- statements that each claim something
claimable : (ss : List Statement) → ((x : Statement) → In x ss → (own : List Claim) × Claims x own) → (cs : List Claim) × ClaimAll ss cs
claimable [] h = ([], refl)
claimable (x ∷ ss) h =
    let own = h x (inl refl) in
    let rest = claimable ss (λ y i. h y (inr i)) in
    (own.0 ++ rest.0, (own.0, rest.0, own.1, rest.1, refl))

-- ---- the names that a statement drives

abbrev driven_by : Statement → List Name
driven_by (inputs xs) = xs
driven_by (outputs xs) = []
driven_by (latch a x start) = x ∷ []
driven_by (names pins x cover) = x ∷ []

driven-inputs : (xs : List Name) → driven (map (λ x. drives x input) xs) ≡ xs
driven-inputs [] = refl
driven-inputs (x ∷ xs) = ap (λ l. x ∷ l) (driven-inputs xs)

driven-outputs : (xs : List Name) → driven (map marks xs) ≡ []
driven-outputs [] = refl
driven-outputs (x ∷ xs) = driven-outputs xs

driven-claims : (s : Statement) (cs : List Claim) → Claims s cs → driven cs ≡ driven_by s
driven-claims (inputs xs) cs h = ap driven h ∙ driven-inputs xs
driven-claims (outputs xs) cs h = ap driven h ∙ driven-outputs xs
driven-claims (latch a x start) cs h = ap driven h
driven-claims (names pins x cover) cs h = ap driven h.2

driven-all : (ss : List Statement) (cs : List Claim) → ClaimAll ss cs → driven cs ≡ flat_map driven_by ss
driven-all [] cs h = ap driven h
driven-all (s ∷ ss) cs h =
    ap driven h.4 ∙ driven-join h.0 h.1 ∙ ap (λ l. l ++ driven h.1) (driven-claims s h.0 h.2) ∙ ap (λ l. driven_by s ++ l) (driven-all ss h.1 h.3)

listed-inputs : (xs : List Name) → flat_map driven_by (listing inputs xs) ≡ xs
listed-inputs [] = refl
listed-inputs (x ∷ xs) = append-nil (x ∷ xs)

listed-outputs : (xs : List Name) → flat_map driven_by (listing outputs xs) ≡ []
listed-outputs [] = refl
listed-outputs (x ∷ xs) = refl

abbrev kind_of : Driver → ℕ
kind_of net.absent = 0
kind_of net.input = 1
kind_of (net.gate table pins) = 2
kind_of (net.latch start pin) = 3

unlisted : (f : List Name → Statement) (xs : List Name) (s : Statement) → In s (listing f xs) → s ≡ f xs
unlisted f [] s h = absurd h
unlisted f (x ∷ xs) s h = ⊎_elim (λ e. e) (λ t. absurd t) h

module _ (m : ℕ) (model : Name) (ns : List Name) (n : Netlist) (o : Order) (h : Exportable m model ns n o) where
  abbrev ranged : List ℕ
  ranged = range_with_len 0 m

  abbrev ins : List Name
  ins = map (name_of ns) (filter (λ s. is_input (driver_of n s)) ranged)

  abbrev outs : List Name
  outs = map (name_of ns) (filter (λ s. output_of n s) ranged)

  abbrev latched' : ℕ → List Statement
  latched' s = latch_statement ns s (driver_of n s)

  abbrev gated : ℕ → List Statement
  gated s = gate_statement ns s (driver_of n s)

  -- what holds of each statement that is written
  each : (P : Statement → Type 0) → P (inputs ins) → P (outputs outs) → ((s : ℕ) (x : Statement) → In x (latched' s) ⊎ In x (gated s) → P x) → (x : Statement) → In x (statements_of m ns n o) → P x
  each P a b f x i =
      ⊎_elim
      (λ front.
      ⊎_elim
      (λ first. ⊎_elim (λ y. subst P (sym (unlisted inputs ins x y)) a) (λ y. subst P (sym (unlisted outputs outs x y)) b) (in_either x _ _ first))
      (λ l. let r = in_flat_back latched' x ranged l in f r.0 x (inl r.2))
      (in_either x _ _ front))
      (λ g. let r = in_flat_back gated x o g in f r.0 x (inr r.2))
      (in_either x _ _ i)

  claims-of-driver : (s : ℕ) (d : Driver) → driver_of n s ≡ d → (x : Statement) → In x (latch_statement ns s d) ⊎ In x (gate_statement ns s d) → (own : List Claim) × Claims x own
  claims-of-driver s net.absent is x i = absurd (⊎_elim (λ a. a) (λ a. a) i)
  claims-of-driver s net.input is x i = absurd (⊎_elim (λ a. a) (λ a. a) i)
  claims-of-driver s (net.gate table pins) is x i =
      let fit = subst Fitting is (h.writable.fits s) in
      let k : length pins ≡ length (map (name_of ns) pins) = sym (length-map pins (name_of ns)) in
      let own : List Claim = drives (name_of ns s) (source.gate table (map (name_of ns) pins)) ∷ [] in
      ⊎_elim (λ a. absurd a)
      (λ g. ⊎_elim (λ e. subst (λ y. (own : List Claim) × Claims y own) (sym e) (own, (table, subst (λ j. Means j (lines_of (length pins) table) table) k (reads-back (length pins) table fit.1).1, refl))) (λ z. absurd z) g)
      i
  claims-of-driver s (net.latch start pin) is x i =
      ⊎_elim (λ g. ⊎_elim (λ e. subst (λ y. (own : List Claim) × Claims y own) (sym e) (drives (name_of ns s) (source.latched start (name_of ns pin)) ∷ [], refl)) (λ z. absurd z) g) (λ a. absurd a) i

  all_claims : (cs : List Claim) × ClaimAll (statements_of m ns n o) cs
  all_claims =
      claimable (statements_of m ns n o)
      (each (λ x. (own : List Claim) × Claims x own) (map (λ x. drives x input) ins, refl) (map marks outs, refl) (λ s x i. claims-of-driver s (driver_of n s) refl x i))

  -- ---- all names are those of driven signals

  abbrev Of : Name → Type 0
  Of q = (s : ℕ) × (driver_of n s ≢ net.absent) × (q ≡ name_of ns s)

  not_absent : (s : ℕ) (k : ℕ) → kind_of (driver_of n s) ≡ suc k → driver_of n s ≢ net.absent
  not_absent s k e z = let f : suc k ≡ 0 = sym e ∙ ap kind_of z in absurd (omega arith)

  is_input_kind : (d : Driver) → is_input d ≡ true → kind_of d ≡ 1
  is_input_kind net.absent e = absurd (cc)
  is_input_kind net.input e = refl
  is_input_kind (net.gate table pins) e = absurd (cc)
  is_input_kind (net.latch start pin) e = absurd (cc)

  pins-of : (s : ℕ) (pins : List ℕ) → ((a : ℕ) → In a pins → driver_of n a ≢ net.absent) → (q : Name) → In q (map (name_of ns) pins) → Of q
  pins-of s pins f q i = let r = in_mapped_back (name_of ns) q pins i in (r.0, f r.0 r.1, r.2)

  in_among : (a : ℕ) (xs : List ℕ) → In a xs → Among a xs
  in_among a [] i = i
  in_among a (x ∷ xs) i = ⊎_elim (λ e. inl e) (λ t. inr (in_among a xs t)) i

  mentioned-by : (s : ℕ) (d : Driver) → driver_of n s ≡ d → (x : Statement) → In x (latch_statement ns s d) ⊎ In x (gate_statement ns s d) → (q : Name) → In q (mentioned x) → Of q
  mentioned-by s net.absent is x i = absurd (⊎_elim (λ a. a) (λ a. a) i)
  mentioned-by s net.input is x i = absurd (⊎_elim (λ a. a) (λ a. a) i)
  mentioned-by s (net.gate table pins) is x i =
      ⊎_elim (λ a. absurd a)
      (λ g. ⊎_elim
      (λ e q j.
      ⊎_elim
      (λ p. let r = in_mapped_back (name_of ns) q pins p in (r.0, h.nameable.pins s r.0 (subst (λ d. Among r.0 (pins_of d)) (sym is) (in_among r.0 pins r.1)), r.2))
      (λ p. ⊎_elim (λ z. (s, (λ y. let u : net.gate table pins ≡ net.absent = sym is ∙ y in absurd (cc)), z)) (λ z. absurd z) p)
      (in_either q (map (name_of ns) pins) (name_of ns s ∷ []) (subst (λ y. In q (mentioned y)) e j)))
      (λ z. absurd z) g)
      i
  mentioned-by s (net.latch start pin) is x i =
      ⊎_elim
      (λ g. ⊎_elim
      (λ e q j.
      ⊎_elim (λ z. (pin, h.nameable.pins s pin (subst (λ d. Among pin (pins_of d)) (sym is) (inl refl)), z))
      (λ p. ⊎_elim (λ z. (s, (λ y. let u : net.latch start pin ≡ net.absent = sym is ∙ y in absurd (cc)), z)) (λ z. absurd z) p)
      (subst (λ y. In q (mentioned y)) e j))
      (λ z. absurd z) g)
      (λ a. absurd a)
      i

  all_known : (q : Name) → In q (all_mentioned (statements_of m ns n o)) → Of q
  all_known q i =
      let r = in_flat_back mentioned q (statements_of m ns n o) i in
      each (λ x. (q : Name) → In q (mentioned x) → Of q)
      (λ q j. let a = in_mapped_back (name_of ns) q (filter (λ s. is_input (driver_of n s)) ranged) j in (a.0, not_absent a.0 0 (is_input_kind (driver_of n a.0) (in_filter_back (λ s. is_input (driver_of n s)) a.0 ranged a.1).1), a.2))
      (λ q j. let a = in_mapped_back (name_of ns) q (filter (λ s. output_of n s) ranged) j in (a.0, h.writable.outputs a.0 (in_filter_back (λ s. output_of n s) a.0 ranged a.1).1, a.2))
      (λ s x j. mentioned-by s (driver_of n s) refl x j) r.0 r.1 q r.2

  all_fit : fits m [] (all_mentioned (statements_of m ns n o)) ≡ true
  all_fit = names_fit m ns (all_mentioned (statements_of m ns n o)) h.writable.apart (λ q i. let r = all_known q i in (r.0, h.writable.below r.0 r.1, h.writable.named r.0 r.1, r.2))

  -- ---- no name is driven twice

  -- q is the name of a signal of this kind
  abbrev Kind : ℕ → Name → Type 0
  Kind k q = (s : ℕ) × (kind_of (driver_of n s) ≡ suc k) × (q ≡ name_of ns s)

  same_number : (s t j k : ℕ) → kind_of (driver_of n s) ≡ suc j → kind_of (driver_of n t) ≡ suc k → name_of ns s ≡ name_of ns t → s ≡ t
  same_number s t j k a b e =
      let f : Some s ≡ Some t = sym (h.writable.apart s (h.writable.named s (not_absent s j a))) ∙ ap (position ns) e ∙ h.writable.apart t (h.writable.named t (not_absent t k b)) in cc

  other_kinds : (j k : ℕ) → (j ≡ k → ⊥) → (q : Name) → Kind j q → Kind k q → ⊥
  other_kinds j k ne q a b =
      let e = same_number a.0 b.0 j k a.1 b.1 (sym a.2 ∙ b.2) in
      let f : suc j ≡ suc k = sym a.1 ∙ ap (λ s. kind_of (driver_of n s)) e ∙ b.1 in ne (omega arith)

  module _ (g : ℕ → List Statement) (k : ℕ) (own : (s : ℕ) (q : Name) → In q (flat_map driven_by (g s)) → (kind_of (driver_of n s) ≡ suc k) × (q ≡ name_of ns s)) (single : (s : ℕ) → Apiece (flat_map driven_by (g s))) where
    parts-back : (q : Name) (xs : List ℕ) → In q (flat_map driven_by (flat_map g xs)) → (s : ℕ) × In s xs × In q (flat_map driven_by (g s))
    parts-back q [] i = absurd i
    parts-back q (s ∷ xs) i =
        ⊎_elim (λ a. (s, inl refl, a)) (λ b. let r = parts-back q xs b in (r.0, inr r.1, r.2))
        (in_either q (flat_map driven_by (g s)) (flat_map driven_by (flat_map g xs)) (subst (In q) (flat_map-append driven_by (g s) (flat_map g xs)) i))

    parts-kind : (q : Name) (xs : List ℕ) → In q (flat_map driven_by (flat_map g xs)) → Kind k q
    parts-kind q xs i =
        let r = parts-back q xs i in
        let x = own r.0 q r.2 in (r.0, x.0, x.1)

    parts-apiece : (xs : List ℕ) → Apiece xs → Apiece (flat_map driven_by (flat_map g xs))
    parts-apiece [] a = tt
    parts-apiece (s ∷ xs) a =
        subst Apiece (sym (flat_map-append driven_by (g s) (flat_map g xs)))
        (apiece_join (flat_map driven_by (g s)) (flat_map driven_by (flat_map g xs)) (single s) (parts-apiece xs a.1) (λ q i j.
        let x = own s q i in
        let r = parts-back q xs j in
        let y = own r.0 q r.2 in
        a.0 (subst (λ t. In t xs) (sym (same_number s r.0 k k x.0 y.0 (sym x.1 ∙ y.1))) r.1)))

  latch-own : (s : ℕ) (d : Driver) → driver_of n s ≡ d → (q : Name) → In q (flat_map driven_by (latch_statement ns s d)) → (kind_of (driver_of n s) ≡ 3) × (q ≡ name_of ns s)
  latch-own s net.absent is q i = absurd i
  latch-own s net.input is q i = absurd i
  latch-own s (net.gate table pins) is q i = absurd i
  latch-own s (net.latch start pin) is q i = (ap kind_of is, ⊎_elim (λ e. e) (λ z. absurd z) i)

  gate-own : (s : ℕ) (d : Driver) → driver_of n s ≡ d → (q : Name) → In q (flat_map driven_by (gate_statement ns s d)) → (kind_of (driver_of n s) ≡ 2) × (q ≡ name_of ns s)
  gate-own s net.absent is q i = absurd i
  gate-own s net.input is q i = absurd i
  gate-own s (net.gate table pins) is q i = (ap kind_of is, ⊎_elim (λ e. e) (λ z. absurd z) i)
  gate-own s (net.latch start pin) is q i = absurd i

  latch-single : (s : ℕ) (d : Driver) → Apiece (flat_map driven_by (latch_statement ns s d))
  latch-single s net.absent = tt
  latch-single s net.input = tt
  latch-single s (net.gate table pins) = tt
  latch-single s (net.latch start pin) = ((λ i. i), tt)

  gate-single : (s : ℕ) (d : Driver) → Apiece (flat_map driven_by (gate_statement ns s d))
  gate-single s net.absent = tt
  gate-single s net.input = tt
  gate-single s (net.gate table pins) = ((λ i. i), tt)
  gate-single s (net.latch start pin) = tt

  in_kind : (q : Name) → In q ins → Kind 0 q
  in_kind q j =
      let a = in_mapped_back (name_of ns) q (filter (λ s. is_input (driver_of n s)) ranged) j in
      (a.0, is_input_kind (driver_of n a.0) (in_filter_back (λ s. is_input (driver_of n s)) a.0 ranged a.1).1, a.2)

  ins-apiece : Apiece ins
  ins-apiece =
      apiece_map (name_of ns) (filter (λ s. is_input (driver_of n s)) ranged) (apiece_filter (λ s. is_input (driver_of n s)) ranged (apiece_range 0 m)) (λ x y i j e.
      same_number x y 0 0 (is_input_kind (driver_of n x) (in_filter_back (λ s. is_input (driver_of n s)) x ranged i).1) (is_input_kind (driver_of n y) (in_filter_back (λ s. is_input (driver_of n s)) y ranged j).1) e)

  abbrev driven_latches : List Name
  driven_latches = flat_map driven_by (flat_map latched' ranged)

  abbrev driven_gates : List Name
  driven_gates = flat_map driven_by (flat_map gated o)

  driven-is : flat_map driven_by (statements_of m ns n o) ≡ (ins ++ driven_latches) ++ driven_gates
  driven-is =
      flat_map-append driven_by (listing inputs ins ++ listing outputs outs ++ flat_map latched' ranged) (flat_map gated o)
      ∙ ap (λ l. l ++ driven_gates)
      (flat_map-append driven_by (listing inputs ins ++ listing outputs outs) (flat_map latched' ranged)
      ∙ ap (λ l. l ++ driven_latches)
      (flat_map-append driven_by (listing inputs ins) (listing outputs outs) ∙ ap (λ l. l ++ flat_map driven_by (listing outputs outs)) (listed-inputs ins) ∙ ap (λ l. ins ++ l) (listed-outputs outs) ∙ append-nil ins))

  driven-apiece : Apiece ((ins ++ driven_latches) ++ driven_gates)
  driven-apiece =
      let low = λ (s : ℕ). latch-own s (driver_of n s) refl in
      let lsingle = λ (s : ℕ). latch-single s (driver_of n s) in
      let gow = λ (s : ℕ). gate-own s (driver_of n s) refl in
      let gsingle = λ (s : ℕ). gate-single s (driver_of n s) in
      apiece_join (ins ++ driven_latches) driven_gates
      (apiece_join ins driven_latches ins-apiece (parts-apiece latched' 2 low lsingle ranged (apiece_range 0 m))
      (λ q i j. other_kinds 0 2 (λ e. omega arith) q (in_kind q i) (parts-kind latched' 2 low lsingle q ranged j)))
      (parts-apiece gated 1 gow gsingle o (apiece_order m o h.arranges))
      (λ q i j.
      ⊎_elim (λ a. other_kinds 0 1 (λ e. omega arith) q (in_kind q a) (parts-kind gated 1 gow gsingle q o j))
      (λ b. other_kinds 2 1 (λ e. omega arith) q (parts-kind latched' 2 low lsingle q ranged b) (parts-kind gated 1 gow gsingle q o j))
      (in_either q ins driven_latches i))

  driven-once : (cs : List Claim) → ClaimAll (statements_of m ns n o) cs → Once (driven cs)
  driven-once cs c = apiece_once (driven cs) (subst Apiece (sym (driven-all (statements_of m ns n o) cs c ∙ driven-is)) driven-apiece)

  -- ---- what is written says the netlist

  pub written_says : (t : Met) → t.signals ≡ [] → (cs : List Claim) → ClaimAll (statements_of m ns n o) cs → Says m (file_of model m ns n o) t (record { model = model; signals = entered [] (all_mentioned (statements_of m ns n o)) }) cs
  written_says t new cs c =
      let file = written_is_file model m ns n o h.model_word h.nameable h.writable in
      record {
        lines = lines_of_file model (statements_of m ns n o);
        statements = statements_of m ns n o;
        rows = spelling-holds (lines_of_file model (statements_of m ns n o)) file.0;
        file = file.1;
        claims = c;
        met = ap (λ l. entered l (all_mentioned (statements_of m ns n o))) (sym new);
        few = ap (λ l. fits m l (all_mentioned (statements_of m ns n o))) new ∙ all_fit;
        once = driven-once cs c;
      }

  pub written_stated : (cs : List Claim) → ClaimAll (statements_of m ns n o) cs → Stated ns cs n
  written_stated cs c = record {
    apart = h.writable.apart;
    describes = written-describes m ns n o cs h.writable c;
    nameless = λ s le.
        let gone = undriven (driver_of n s) (λ z. let lt = h.writable.named s z in absurd (omega arith)) in (gone, not_true n s (λ e. h.writable.outputs s e gone));
    whole = λ s gone. ((λ e. h.writable.outputs s e gone), λ u. h.nameable.pins u.0 s u.1 gone);
    unlooped = λ xs loop. order-excludes-loops n o xs h.ordered loop;
  }

pub round_trip : RoundTrip
round_trip limit model ns n o d d' t t' r h ready new due reads =
    let m = d.editor.signals in
    let cs = all_claims m model ns n o h in
    ⊎_elim (λ x. inl x)
    (λ x. inr (x.0, ap (λ q. q.model) x.1, x.2))
    (reads_accept limit (file_of model m ns n o) d d' t t' r ready reads (record { model = model; signals = entered [] (all_mentioned (statements_of m ns n o)) }) cs.0 ns n due
    (written_says m model ns n o h t new cs.0 cs.1) (written_stated m model ns n o h cs.0 cs.1))
