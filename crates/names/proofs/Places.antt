-- Where a name stands, as names are added and taken back.
use Rattle.std.proofs.Common.{◌≡◌, ℕ, suc, ◌<◌, ◌≤◌, Bool, true, false, cond, ◌⊎◌, List, [], ◌∷◌, ◌++◌, length, get_or, is_some, Some, None, Ok, Err, Option, Result, sym, refl, ap, ◌∙◌, subst, inl, inr, ⊎_elim, arith, Bor, MatchOption, MatchResult}
use Rattle.std.specs.Cmp.Lexicographic.{nat_list_eq_equiv}
use Rattle.std.proofs.lemmas.List.{get_or_append_left, get_or_push, length-append}
use Rattle.std.proofs.lemmas.Option.{slice_get-get_or, slice_get_cases, slice_get_within}
use Rattle.std.proofs.lemmas.Bool.{cond-true, cond-false, cases_Bool, cases_lt, lt-ltb, le-ltb}
use Rattle.std.specs.Str.{bytes_eq as same_text}
use Rattle.std.specs.List.{slice_get}
use Rattle.std.specs.Option.{option_map}
use Rattle.names.specs.declared.faults.NameFault.{NameFault}
use Rattle.names.specs.declared.faults.NameFault.TheVariants.{Memory}
use Rattle.names.specs.Numbers.{Adds}
use Rattle.names.specs.Names.{position, Apart, added, below}

abbrev or_else : Option ℕ → Option ℕ → Option ℕ
or_else None b = b
or_else (Some i) b = Some i

deeper : (a : Option ℕ) (t : Bool) (n : ℕ) → option_map suc (or_else a (cond t (Some n) None)) ≡ or_else (option_map suc a) (cond t (Some (suc n)) None)
deeper None true n = refl
deeper None false n = refl
deeper (Some i) t n = refl

step : (s t : Bool) (a : Option ℕ) (n : ℕ) → cond s (Some 0) (option_map suc (or_else a (cond t (Some n) None))) ≡ or_else (cond s (Some 0) (option_map suc a)) (cond t (Some (suc n)) None)
step true t a n = refl
step false t a n = deeper a t n

-- a name at the end is found where no other was
pub position-push : (ns : List (List ℕ)) (w q : List ℕ) → position (ns ++ w ∷ []) q ≡ or_else (position ns q) (cond (same_text q w) (Some (length ns)) None)
position-push [] w q = refl
position-push (n ∷ ns) w q = ap (λ o. cond (same_text q n) (Some 0) (option_map suc o)) (position-push ns w q) ∙ step (same_text q n) (same_text q w) (position ns q) (length ns)

pub position_known : (ns : List (List ℕ)) (w q : List ℕ) (i : ℕ) → position ns q ≡ Some i → position (ns ++ w ∷ []) q ≡ Some i
position_known ns w q i e = position-push ns w q ∙ ap (λ o. or_else o (cond (same_text q w) (Some (length ns)) None)) e

pub position_last : (ns : List (List ℕ)) (w : List ℕ) → position ns w ≡ None → position (ns ++ w ∷ []) w ≡ Some (length ns)
position_last ns w e =
    position-push ns w w ∙ ap (λ o. or_else o (cond (same_text w w) (Some (length ns)) None)) e ∙ cond-true (same_text w w) (Some (length ns)) None (nat_list_eq_equiv.refl w)

pub position_other : (ns : List (List ℕ)) (w q : List ℕ) → same_text q w ≡ false → position (ns ++ w ∷ []) q ≡ position ns q
position_other ns w q e = position-push ns w q ∙ ap (λ t. or_else (position ns q) (cond t (Some (length ns)) None)) e ∙ kept (position ns q)
  where
    kept : (o : Option ℕ) → or_else o None ≡ o
    kept None = refl
    kept (Some i) = refl

pub some_or_none : (o : Option ℕ) → (o ≡ None) ⊎ ((i : ℕ) × (o ≡ Some i))
some_or_none None = inl refl
some_or_none (Some i) = inr (i, refl)

-- a number lies within the list
pub position_within : (ns : List (List ℕ)) (q : List ℕ) (i : ℕ) → position ns q ≡ Some i → i < length ns
position_within [] q i e = cc
position_within (n ∷ ns) q i e =
    ⊎_elim
    (λ t. let f : Some 0 ≡ Some i = sym (cond-true (same_text q n) (Some 0) (option_map suc (position ns q)) t) ∙ e in let g : 0 ≡ i = cc in omega arith)
    (λ t.
    let f : option_map suc (position ns q) ≡ Some i = sym (cond-false (same_text q n) (Some 0) (option_map suc (position ns q)) t) ∙ e in
    ⊎_elim
    (λ none. let g : None ≡ Some i = sym (ap (option_map suc) none) ∙ f in cc)
    (λ some.
    let g : Some (suc some.0) ≡ Some i = sym (ap (option_map suc) some.1) ∙ f in
    let k : suc some.0 ≡ i = cc in
    let h = position_within ns q some.0 some.1 in
    omega arith)
    (some_or_none (position ns q)))
    (cases_Bool (same_text q n))

pub apart_push : (ns : List (List ℕ)) (w : List ℕ) → Apart ns → position ns w ≡ None → Apart (ns ++ w ∷ [])
apart_push ns w h new i lt =
    ⊎_elim
    (λ below.
    let x = get_or_append_left ns (w ∷ []) [] i below in
    ap (position (ns ++ w ∷ [])) x ∙ position_known ns w (get_or ns i []) i (h i below))
    (λ past.
    let is : length ns ≡ i = omega (arith, length-append ns (w ∷ [])) in
    let x = get_or_push ns w [] i is in
    ap (position (ns ++ w ∷ [])) x ∙ position_last ns w new ∙ ap Some is)
    (cases_lt i (length ns))

module _ (ns : List (List ℕ)) (w : List ℕ) (h : Apart (ns ++ w ∷ [])) where
  pub fresh-pop : position ns w ≡ None
  fresh-pop =
      let long = length-append ns (w ∷ []) in
      let at : position (ns ++ w ∷ []) w ≡ Some (length ns) =
      ap (position (ns ++ w ∷ [])) (sym (get_or_push ns w [] (length ns) refl)) ∙ h (length ns) (omega arith) in
      ⊎_elim (λ none. none)
      (λ some.
      let k : Some some.0 ≡ Some (length ns) = sym (position_known ns w w some.0 some.1) ∙ at in
      let e : some.0 ≡ length ns = cc in
      absurd (omega (arith, position_within ns w some.0 some.1)))
      (some_or_none (position ns w))

  pub apart_pop : Apart ns
  apart_pop i lt =
      let x = get_or_append_left ns (w ∷ []) [] i lt in
      let at : position (ns ++ w ∷ []) (get_or ns i []) ≡ Some i =
      ap (position (ns ++ w ∷ [])) (sym x) ∙ h i (omega (arith, length-append ns (w ∷ []))) in
      ⊎_elim
      (λ none.
      ⊎_elim
      (λ t.
      let k : Some (length ns) ≡ Some i = sym (position-push ns w (get_or ns i []) ∙ ap (λ o. or_else o (cond (same_text (get_or ns i []) w) (Some (length ns)) None)) none ∙ cond-true (same_text (get_or ns i []) w) (Some (length ns)) None t) ∙ at in
      let e : length ns ≡ i = cc in
      absurd (omega arith))
      (λ t. sym (position_other ns w (get_or ns i []) t) ∙ at)
      (cases_Bool (same_text (get_or ns i []) w)))
      (λ some.
      let k : Some some.0 ≡ Some i = sym (position_known ns w (get_or ns i []) some.0 some.1) ∙ at in
      some.1 ∙ k)
      (some_or_none (position ns (get_or ns i [])))

-- the name at i has the number i
pub number_at : (ns : List (List ℕ)) → Apart ns → (i : ℕ) (x : List ℕ) → i < length ns → slice_get ns i ≡ Some x → position ns x ≡ Some i
number_at ns h i x lt e =
    let f : Some (get_or ns i []) ≡ Some x = sym (slice_get-get_or ns i [] lt) ∙ e in
    let g : get_or ns i [] ≡ x = cc in
    ap (position ns) (sym g) ∙ h i lt

-- the answer to a number: the name that has it, or none past the end
pub name_numbered : (ns : List (List ℕ)) → Apart ns → (i : ℕ) (o : Option (Bor (List ℕ))) → option_map (λ x. x.now) o ≡ slice_get ns i → MatchOption o (length ns ≤ i) (λ x. position ns x.now ≡ Some i)
name_numbered ns h i None e =
    ⊎_elim (λ inside. let f : None ≡ Some inside.0 = e ∙ inside.2 in cc) (λ past. past.0) (slice_get_cases ns i).1
name_numbered ns h i (Some x) e = number_at ns h i x.now (slice_get_within ns i x.now (sym e)) (sym e)

-- ---- one name added
module _ (ns : List (List ℕ)) (w : List ℕ) where
  pub added_known : (i : ℕ) → position ns w ≡ Some i → added ns w ≡ ns
  added_known i e = ap (λ o. cond (is_some o) ns (ns ++ w ∷ [])) e

  pub added_new : position ns w ≡ None → added ns w ≡ ns ++ w ∷ []
  added_new e = ap (λ o. cond (is_some o) ns (ns ++ w ∷ [])) e

  module _ (e : position ns w ≡ None) where
    pub number-new : position (added ns w) w ≡ Some (length ns)
    number-new = ap (λ l. position l w) (added_new e) ∙ position_last ns w e

    pub no_room : (m : ℕ) → m ≤ length ns → below m (position (added ns w) w) ≡ false
    no_room m h = ap (below m) number-new ∙ le-ltb (length ns) m h

    pub adds-push : (m : ℕ) (new : List (List ℕ)) → length ns < m → (r : Result (Unit {0}) NameFault) → MatchResult r (λ _. new ≡ ns ++ w ∷ []) (λ f. (f ≡ Memory) × (new ≡ ns)) → Adds m ns new w r
    adds-push m new h (Ok x) is = (ap (below m) number-new ∙ lt-ltb (length ns) m h, is ∙ sym (added_new e))
    adds-push m new h (Err f) is = subst (λ g. Adds m ns new w (Err g)) (sym is.0) (record { new = e; room = h }, is.1)
