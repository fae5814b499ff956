-- The names of a line are entered one by one.
use Rattle.std.proofs.Common.{◌≡◌, ℕ, ◌+◌, ◌<◌, ◌≤◌, Bool, true, false, ◌&&◌, List, [], ◌∷◌, ◌++◌, length, get_or, take, drop, Some, Ok, Err, Result, sym, refl, ap, ◌∙◌, subst, ⊎_elim, le_refl, arith}
use Rattle.std.proofs.lemmas.List.{at_drop_more, at_drop_all, get_or-map, length-map, take_more, take-take, take-append-le, take_all, length_push}
use Rattle.text.specs.declared.words.Word.{Word}
use Rattle.names.specs.declared.faults.NameFault.{NameFault}
use Rattle.names.specs.declared.faults.NameFault.TheVariants.{NoRoom, Memory}
use Rattle.names.specs.Names.{position, Stays, added, entered, below, fits, spellings}
use Rattle.names.specs.Numbers.{Grows, Adds, Enters}
use Rattle.names.proofs.Places.{some_or_none, position_known, added_known, added_new, number-new}

-- ---- a number stays

pub added_keeps : (ns : List (List ℕ)) (w q : List ℕ) (i : ℕ) → position ns q ≡ Some i → position (added ns w) q ≡ Some i
added_keeps ns w q i e =
    ⊎_elim
    (λ none. ap (λ l. position l q) (added_new ns w none) ∙ position_known ns w q i e)
    (λ some. ap (λ l. position l q) (added_known ns w some.0 some.1) ∙ e)
    (some_or_none (position ns w))

pub entered_keeps : (ns ws : List (List ℕ)) (q : List ℕ) (i : ℕ) → position ns q ≡ Some i → position (entered ns ws) q ≡ Some i
entered_keeps ns [] q i e = e
entered_keeps ns (w ∷ ws) q i e = entered_keeps (added ns w) ws q i (added_keeps ns w q i e)

numbered : (ns : List (List ℕ)) (w : List ℕ) → (i : ℕ) × (position (added ns w) w ≡ Some i)
numbered ns w =
    ⊎_elim
    (λ none. (length ns, number-new ns w none))
    (λ some. (some.0, added_keeps ns w w some.0 some.1))
    (some_or_none (position ns w))

-- ---- the room, word by word

abbrev pub roomy : ℕ → List (List ℕ) → List (List ℕ) → Bool
roomy m ns [] = true
roomy m ns (w ∷ ws) = below m (position (added ns w) w) && roomy m (added ns w) ws

pub fits_is : (m : ℕ) (ns ws : List (List ℕ)) → fits m ns ws ≡ roomy m ns ws
fits_is m ns [] = refl
fits_is m ns (w ∷ ws) =
    let at = numbered ns w in
    ap (λ o. below m o && fits m (added ns w) ws) (entered_keeps (added ns w) ws w at.0 at.1 ∙ sym at.1) ∙ ap (λ t. below m (position (added ns w) w) && t) (fits_is m (added ns w) ws)

-- ---- what stands before stays

pub added_grows : (ns : List (List ℕ)) (w : List ℕ) → (length ns ≤ length (added ns w)) × ((n : ℕ) → n ≤ length ns → take n (added ns w) ≡ take n ns)
added_grows ns w =
    ⊎_elim
    (λ none. let e = added_new ns w none in (omega (arith, ap length e, length_push ns w), λ n h. ap (take n) e ∙ take-append-le n ns (w ∷ []) h))
    (λ some. let e = added_known ns w some.0 some.1 in (omega (arith, ap length e), λ n h. ap (take n) e))
    (some_or_none (position ns w))

entered_front : (ns ws : List (List ℕ)) → (length ns ≤ length (entered ns ws)) × (take (length ns) (entered ns ws) ≡ ns)
entered_front ns [] = (le_refl (length ns), take_all (length ns) ns (le_refl (length ns)))
entered_front ns (w ∷ ws) =
    let first = added_grows ns w in
    let rest = entered_front (added ns w) ws in (
      omega (arith, first.0, rest.0),
      front (length ns) (length (added ns w)) (added ns w) ns (entered (added ns w) ws) first.0 rest.1 (first.1 (length ns) (le_refl (length ns)) ∙ take_all (length ns) ns (le_refl (length ns))),
    )
  where
    front : (n k : ℕ) (mid ns new : List (List ℕ)) → n ≤ k → take k new ≡ mid → take n mid ≡ ns → take n new ≡ ns
    front n k mid ns new le here before = sym (take-take n k new le) ∙ ap (take n) here ∙ before

-- one word more at the end
entered-push : (ns ws : List (List ℕ)) (w : List ℕ) → entered ns (ws ++ w ∷ []) ≡ added (entered ns ws) w
entered-push ns [] w = refl
entered-push ns (x ∷ ws) w = entered-push (added ns x) ws w

and-true : (b : Bool) → b && true ≡ b
and-true true = refl
and-true false = refl

and-assoc : (a b c : Bool) → a && (b && c) ≡ (a && b) && c
and-assoc true b c = refl
and-assoc false b c = refl

roomy-push : (m : ℕ) (ns ws : List (List ℕ)) (w : List ℕ) → roomy m ns (ws ++ w ∷ []) ≡ roomy m ns ws && below m (position (added (entered ns ws) w) w)
roomy-push m ns [] w = and-true (below m (position (added ns w) w))
roomy-push m ns (x ∷ ws) w =
    ap (λ t. below m (position (added ns x) x) && t) (roomy-push m (added ns x) ws w)
    ∙ and-assoc (below m (position (added ns x) x)) (roomy m (added ns x) ws) (below m (position (added (entered (added ns x) ws) w) w))

-- ns became now, as the first i of the words were entered
pub record Stand (m : ℕ) (ns now : List (List ℕ)) (words : List Word) (i : ℕ) : Type 0 where
  pub long : length ns ≤ length now
  pub prefix : take (length ns) now ≡ ns
  pub gives : entered now (spellings (drop i words)) ≡ entered ns (spellings words)
  pub room : roomy m now (spellings (drop i words)) ≡ roomy m ns (spellings words)
  pub here : now ≡ entered ns (take i (spellings words))
  pub roomed : roomy m ns (take i (spellings words)) ≡ true

pub stand_start : (m : ℕ) (ns : List (List ℕ)) (words : List Word) → Stand m ns ns words 0
stand_start m ns words = record { long = le_refl (length ns); prefix = take_all (length ns) ns (le_refl (length ns)); gives = refl; room = refl; here = refl; roomed = refl }

module _ {m : ℕ} {ns now : List (List ℕ)} {words : List Word} {i : ℕ} (s : Stand m ns now words i) where
  pub stand_all : length words ≤ i → Enters m ns now (spellings words) (Ok tt)
  stand_all h = (
    fits_is m ns (spellings words) ∙ sym s.room ∙ at_drop_all (λ l. roomy m now (spellings l)) words i h,
    sym (at_drop_all (λ l. entered now (spellings l)) words i h) ∙ s.gives,
  )

  module _ (w : Word) (inside : i < length words) where
    pub stand_more : (new : List (List ℕ)) → Adds m now new (get_or words i w).bytes.now (Ok tt) → Stand m ns new words (i + 1)
    stand_more new h =
        let x = (get_or words i w).bytes.now in
        let grows = added_grows now x in
        let rest = spellings (drop (i + 1) words) in
        let sp = spellings words in
        let named : get_or sp i [] ≡ x = get_or-map (λ v. v.bytes.now) words i w [] inside in
        let more : take (i + 1) sp ≡ take i sp ++ x ∷ [] =
        take_more sp i [] (omega (arith, inside, length-map words (λ v. v.bytes.now))) ∙ ap (λ y. take i sp ++ y ∷ []) named in
        record {
          long = omega (arith, ap length h.1, grows.0, s.long);
          prefix = ap (take (length ns)) h.1 ∙ grows.1 (length ns) s.long ∙ s.prefix;
          gives = ap (λ l. entered l rest) h.1 ∙ sym (at_drop_more (λ l. entered now (spellings l)) words i w inside) ∙ s.gives;
          room = ap (λ l. roomy m l rest) h.1 ∙ ap (λ t. t && roomy m (added now x) rest) (sym h.0) ∙ sym (at_drop_more (λ l. roomy m now (spellings l)) words i w inside) ∙ s.room;
          here = h.1 ∙ ap (λ l. added l x) s.here ∙ sym (entered-push ns (take i sp) x) ∙ ap (entered ns) (sym more);
          roomed =
              ap (roomy m ns) more
              ∙ roomy-push m ns (take i sp) x
              ∙ ap (λ b. b && below m (position (added (entered ns (take i sp)) x) x)) s.roomed
              ∙ ap (λ l. below m (position (added l x) x)) (sym s.here)
              ∙ h.0;
        }

    pub stand_stops : (new back : List (List ℕ)) (f : NameFault) → Adds m now new (get_or words i w).bytes.now (Err f) → back ≡ take (length ns) new → Enters m ns back (spellings words) (Err f)
    stand_stops new back NoRoom h e =
        let x = (get_or words i w).bytes.now in (
          (
            h.0.0,
            fits_is m ns (spellings words) ∙ sym s.room ∙ at_drop_more (λ l. roomy m now (spellings l)) words i w inside
                ∙ ap (λ t. t && roomy m (added now x) (spellings (drop (i + 1) words))) h.0.1,
          ),
          e ∙ ap (take (length ns)) h.1 ∙ s.prefix,
        )
    stand_stops new back Memory h e = (
      record {
        at = i;
        within = omega (arith, inside, length-map words (λ v. v.bytes.now));
        before = fits_is m ns (take i (spellings words)) ∙ s.roomed;
        grows = subst (λ l. Grows m l (get_or (spellings words) i [])) s.here (subst (Grows m now) (sym (get_or-map (λ v. v.bytes.now) words i w [] inside)) h.0);
      },
      e ∙ ap (take (length ns)) h.1 ∙ s.prefix,
    )

pub enters_stays : (m : ℕ) (ns new ws : List (List ℕ)) (r : Result (Unit {0}) NameFault) → Enters m ns new ws r → Stays ns new
enters_stays m ns new ws (Ok x) h q i e = ap (λ l. position l q) h.1 ∙ entered_keeps ns ws q i e
enters_stays m ns new ws (Err f) h q i e = ap (λ l. position l q) h.1 ∙ e

-- the names that were there stand in front
pub enters_front : (m : ℕ) (ns new ws : List (List ℕ)) (r : Result (Unit {0}) NameFault) → Enters m ns new ws r → take (length ns) new ≡ ns
enters_front m ns new ws (Ok x) h = ap (take (length ns)) h.1 ∙ (entered_front ns ws).1
enters_front m ns new ws (Err f) h = ap (take (length ns)) h.1 ∙ take_all (length ns) ns (le_refl (length ns))
