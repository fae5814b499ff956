-- A text that grows by one piece after the other.
use Rattle.std.proofs.Common.{◌≡◌, ℕ, zero, suc, ◌+◌, ◌<◌, ◌≤◌, Bool, true, false, List, [], ◌∷◌, ◌++◌, map, filter, refl, sym, ap, ◌∙◌, ⊎_elim, append_assoc, arith}
use Rattle.std.specs.List.{flat_map, range_with_len, join_with_byte}
use Rattle.std.proofs.lemmas.Bool.{cond-true, cond-false, cases_Bool, cases_eq}
use Rattle.std.proofs.lemmas.List.{append-nil, map-append}
use Rattle.std.proofs.lemmas.List.Elements.{filter-append}
use Rattle.std.proofs.lemmas.Grind.{flat_map-append}
use Rattle.table.specs.Written.{line_at}
use Rattle.blif.specs.Statement.{Name, Words, Statement, cover_words}
use Rattle.blif.specs.Written.{lines_of_statement, spelled_line, spelled_names, spelled}
use Rattle.blif_io.specs.Writing.{spelled_statements}

-- ---- ranges

range-more : (a n : ℕ) → range_with_len a (n + 1) ≡ range_with_len a n ++ (a + n) ∷ []
range-more a zero = let e : a ≡ a + 0 = omega arith in ap (λ x. x ∷ []) e
range-more a (suc n) =
    let e : suc n + 1 ≡ suc (n + 1) = omega arith in
    let f : a + 1 + n ≡ a + suc n = omega arith in
    ap (range_with_len a) e ∙ ap (λ l. a ∷ l) (range-more (a + 1) n) ∙ ap (λ x. a ∷ (range_with_len (a + 1) n ++ x ∷ [])) f

range-next : (i : ℕ) → range_with_len 0 (i + 1) ≡ range_with_len 0 i ++ i ∷ []
range-next i = let e : 0 + i ≡ i = omega arith in range-more 0 i ∙ ap (λ x. range_with_len 0 i ++ x ∷ []) e

module _ (p : ℕ → Bool) where
  pub filter_kept : (i : ℕ) → p i ≡ true → filter p (range_with_len 0 (i + 1)) ≡ filter p (range_with_len 0 i) ++ i ∷ []
  filter_kept i t =
      ap (filter p) (range-next i) ∙ filter-append p (range_with_len 0 i) (i ∷ []) ∙ ap (λ l. filter p (range_with_len 0 i) ++ l) (cond-true (p i) (i ∷ []) [] t)

  pub filter_left : (i : ℕ) → p i ≡ false → filter p (range_with_len 0 (i + 1)) ≡ filter p (range_with_len 0 i)
  filter_left i f =
      ap (filter p) (range-next i) ∙ filter-append p (range_with_len 0 i) (i ∷ []) ∙ ap (λ l. filter p (range_with_len 0 i) ++ l) (cond-false (p i) (i ∷ []) [] f)
      ∙ append-nil (filter p (range_with_len 0 i))

  none-from : (a n : ℕ) → ((k : ℕ) → a ≤ k → k < a + n → p k ≡ false) → filter p (range_with_len a n) ≡ []
  none-from a zero h = refl
  none-from a (suc n) h =
      cond-false (p a) (a ∷ filter p (range_with_len (a + 1) n)) (filter p (range_with_len (a + 1) n)) (h a (omega arith) (omega arith))
      ∙ none-from (a + 1) n (λ k le lt. h k (omega arith) (omega arith))

  some-from : (a n i : ℕ) → a ≤ i → i < a + n → p i ≡ true → filter p (range_with_len a n) ≡ [] → ⊥
  some-from a zero i le lt t e = omega arith
  some-from a (suc n) i le lt t e =
      ⊎_elim (λ same. kept (ap p (sym same) ∙ t))
      (λ other. ⊎_elim kept (λ f. some-from (a + 1) n i (omega arith) (omega arith) t (sym (cond-false (p a) (a ∷ filter p (range_with_len (a + 1) n)) (filter p (range_with_len (a + 1) n)) f) ∙ e)) (cases_Bool (p a)))
      (cases_eq i a)
    where
      kept : p a ≡ true → ⊥
      kept t' = let z : a ∷ filter p (range_with_len (a + 1) n) ≡ [] = sym (cond-true (p a) (a ∷ filter p (range_with_len (a + 1) n)) (filter p (range_with_len (a + 1) n)) t') ∙ e in absurd (cc)

  pub none_listed : (m : ℕ) → ((k : ℕ) → k < m → p k ≡ false) → filter p (range_with_len 0 m) ≡ []
  none_listed m h = none-from 0 m (λ k le lt. h k (omega arith))

  pub some_listed : (m i : ℕ) → i < m → p i ≡ true → filter p (range_with_len 0 m) ≡ [] → ⊥
  some_listed m i lt t e = some-from 0 m i (omega arith) (omega arith) t e

-- ---- what each piece adds

module _ (G : List ℕ → List ℕ) (hom : (xs ys : List ℕ) → G (xs ++ ys) ≡ G xs ++ G ys) where
  pub grown : (done : List ℕ) (x : ℕ) (before out out' : List ℕ) → out ≡ before ++ G done → out' ≡ out ++ G (x ∷ []) → out' ≡ before ++ G (done ++ x ∷ [])
  grown done x before out out' h e =
      e ∙ ap (λ l. l ++ G (x ∷ [])) h ∙ append_assoc before (G done) (G (x ∷ [])) ∙ ap (λ l. before ++ l) (sym (hom done (x ∷ [])))

  pub grown_range : (i : ℕ) (before out out' : List ℕ) → out ≡ before ++ G (range_with_len 0 i) → out' ≡ out ++ G (i ∷ []) → out' ≡ before ++ G (range_with_len 0 (i + 1))
  grown_range i before out out' h e = grown (range_with_len 0 i) i before out out' h e ∙ ap (λ l. before ++ G l) (sym (range-next i))

  module _ (p : ℕ → Bool) where
    pub grown_if : (i : ℕ) (before out out' : List ℕ) → out ≡ before ++ G (filter p (range_with_len 0 i)) → p i ≡ true → out' ≡ out ++ G (i ∷ []) → out' ≡ before ++ G (filter p (range_with_len 0 (i + 1)))
    grown_if i before out out' h t e = grown (filter p (range_with_len 0 i)) i before out out' h e ∙ ap (λ l. before ++ G l) (sym (filter_kept p i t))

    pub grown_not : (i : ℕ) (before out out' : List ℕ) → out ≡ before ++ G (filter p (range_with_len 0 i)) → p i ≡ false → out' ≡ out → out' ≡ before ++ G (filter p (range_with_len 0 (i + 1)))
    grown_not i before out out' h f e = e ∙ h ∙ ap (λ l. before ++ G l) (sym (filter_left p i f))

-- ---- the pieces of a file

pub names-join : (f : ℕ → Name) (xs ys : List ℕ) → spelled_names (map f (xs ++ ys)) ≡ spelled_names (map f xs) ++ spelled_names (map f ys)
names-join f xs ys = ap spelled_names (map-append f xs ys) ∙ flat_map-append (λ x. 32 ∷ x) (map f xs) (map f ys)

pub covers-join : (k : ℕ) (xs ys : List ℕ)
    → spelled (map (cover_words k) (map (line_at k) (xs ++ ys))) ≡ spelled (map (cover_words k) (map (line_at k) xs)) ++ spelled (map (cover_words k) (map (line_at k) ys))
covers-join k xs ys =
    ap (λ l. spelled (map (cover_words k) l)) (map-append (line_at k) xs ys) ∙ ap spelled (map-append (cover_words k) (map (line_at k) xs) (map (line_at k) ys))
    ∙ flat_map-append spelled_line (map (cover_words k) (map (line_at k) xs)) (map (cover_words k) (map (line_at k) ys))

pub statements-join : (a b : List Statement) → spelled_statements (a ++ b) ≡ spelled_statements a ++ spelled_statements b
statements-join a b = ap spelled (flat_map-append lines_of_statement a b) ∙ flat_map-append spelled_line (flat_map lines_of_statement a) (flat_map lines_of_statement b)

module _ (g : ℕ → List Statement) where
  pub each-join : (xs ys : List ℕ) → spelled_statements (flat_map g (xs ++ ys)) ≡ spelled_statements (flat_map g xs) ++ spelled_statements (flat_map g ys)
  each-join xs ys = ap spelled_statements (flat_map-append g xs ys) ∙ statements-join (flat_map g xs) (flat_map g ys)

  pub each-one : (x : ℕ) → spelled_statements (flat_map g (x ∷ [])) ≡ spelled_statements (g x)
  each-one x = ap spelled_statements (append-nil (g x))

pub one-statement : (s : Statement) → spelled_statements (s ∷ []) ≡ spelled (lines_of_statement s)
one-statement s = ap spelled (append-nil (lines_of_statement s))

-- ---- lines

joined : (w : List ℕ) (ws : Words) → join_with_byte 32 (w ∷ ws) ≡ w ++ spelled_names ws
joined w [] = sym (append-nil w)
joined w (v ∷ ws) = ap (λ l. w ++ (32 ∷ l)) (joined v ws)

-- a line is its first word, the others behind a blank each, and byte 10
pub line-is : (w : List ℕ) (ws : Words) → spelled_line (w ∷ ws) ≡ (w ++ spelled_names ws) ++ 10 ∷ []
line-is w ws = ap (λ l. l ++ 10 ∷ []) (joined w ws)
