-- The 1-minterms of a table, and the lines written of them.
use Rattle.std.proofs.Common.{◌≡◌, ℕ, zero, suc, ◌+◌, ◌^◌, ◌<◌, false, cond, eqb, List, [], ◌∷◌, ◌++◌, map, length, get_or, codes, sym, refl, ap, ◌∙◌, subst, inl, inr, ⊎_elim, append-nil, add-one, arith}
use lib.ListN.{length-map}
use Rattle.std.specs.List.{ContainsAt, AllByRecursion}
use Rattle.std.proofs.lemmas.List.FromFn.{filter_of_map_range_with_len_more, length-map-range_with_len, get_or-map-range_with_len}
use Rattle.std.proofs.ByRecursion.{All-append, All-weaker, All-map, all-has, has_append_left, has_push}
use Rattle.std.proofs.lemmas.List.{get_or-map, map-id}
use Rattle.std.proofs.lemmas.Bool.{eq-eqb, ne_eqb, cases_eq, cond-true, cond-false}
use Rattle.table.specs.declared.shape.Output.TheVariants.{One}
use Rattle.table.specs.Bit.{bit}
use Rattle.table.specs.Line.{Line, Covers, Formed, IsCover}
use Rattle.table.specs.Laws.{ReadsBack, MeansOne}
use Rattle.table.specs.Written.{character_at, plane_at, ones_below, line_at, lines_of}
use Rattle.std.proofs.lemmas.Nat.Bits.{bit_at-lt, same_from_bits_below}
use Rattle.table.proofs.Lines.{alike_some, both_outputs}

module _ (bits : ℕ) where
  ones_more : (n : ℕ) → ones_below bits (n + 1) ≡ ones_below bits n ++ cond (eqb (bit bits n) 1) (n ∷ []) []
  ones_more n = simp map-id at (filter_of_map_range_with_len_more (λ m. eqb (bit bits m) 1) (λ m. m) 0 n n (omega arith))

  -- The 1-minterms below a number, with that number where it is one.
  pub ones_yes : (n : ℕ) → bit bits n ≡ 1 → ones_below bits (n + 1) ≡ ones_below bits n ++ n ∷ []
  ones_yes n one =
      ones_more n ∙ ap (λ xs. ones_below bits n ++ xs) (cond-true (eqb (bit bits n) 1) (n ∷ []) [] (eq-eqb _ 1 one))

  pub ones_no : (n : ℕ) → eqb (bit bits n) 1 ≡ false → ones_below bits (n + 1) ≡ ones_below bits n
  ones_no n none =
      ones_more n
      ∙ ap (λ xs. ones_below bits n ++ xs) (cond-false (eqb (bit bits n) 1) (n ∷ []) [] none)
      ∙ append-nil (ones_below bits n)

  next : (n : ℕ) → ones_below bits (suc n) ≡ ones_below bits (n + 1)
  next n = ap (ones_below bits) (sym (add-one n))

  ones_are : (n : ℕ) → AllByRecursion (λ m. (m < n) × (bit bits m ≡ 1)) (ones_below bits n)
  ones_are zero = tt
  ones_are (suc n) =
      let before = All-weaker (λ m. (m < n) × (bit bits m ≡ 1)) (λ m. (m < suc n) × (bit bits m ≡ 1)) (λ m p. (omega (arith, p.0), p.1)) (ones_below bits n) (ones_are n) in
      ⊎_elim
      (λ one. subst (AllByRecursion (λ m. (m < suc n) × (bit bits m ≡ 1))) (sym (next n ∙ ones_yes n one)) (All-append _ (ones_below bits n) (n ∷ []) before ((omega arith, one), tt)))
      (λ not. subst (AllByRecursion (λ m. (m < suc n) × (bit bits m ≡ 1))) (sym (next n ∙ ones_no n (ne_eqb _ 1 not))) before)
      (cases_eq (bit bits n) 1)

  ones_have : (n m : ℕ) → m < n → bit bits m ≡ 1 → ContainsAt (ones_below bits n) m
  ones_have zero m h one = absurd (omega arith)
  ones_have (suc n) m h one =
      ⊎_elim
      (λ same. subst (λ xs. ContainsAt xs m) (sym (next n ∙ ones_yes n (subst (λ k. bit bits k ≡ 1) same one))) (subst (λ k. ContainsAt (ones_below bits n ++ n ∷ []) k) (sym same) (has_push (ones_below bits n) n)))
      (λ other. subst (λ xs. ContainsAt xs m) (sym (next n ∙ ones_more n)) (has_append_left (ones_below bits n) _ m (ones_have n m (omega arith) one)))
      (cases_eq m n)

has_map : {X Y : Type 0} (f : X → Y) (xs : List X) (x : X) → ContainsAt xs x → ContainsAt (map f xs) (f x)
has_map f xs x has =
    (has.0, omega (arith, length-map xs f, has.1), λ e. get_or-map f xs has.0 x e has.1 ∙ ap f (has.2 x))

module _ (pins m : ℕ) where
  plane-at : (i : ℕ) → i < pins → get_or (plane_at pins m) i 0 ≡ character_at m i
  plane-at i h = get_or-map-range_with_len (character_at m) 0 pins i i 0 h (omega arith)

  plane_long : length (plane_at pins m) ≡ pins
  plane_long = length-map-range_with_len (character_at m) 0 pins

  -- The plane of a minterm covers it, and no other.
  plane-covers : Covers (plane_at pins m) m
  plane-covers i h = inr (plane-at i (omega (arith, plane_long)))

  plane_only : (n : ℕ) → m < 2 ^ pins → n < 2 ^ pins → Covers (plane_at pins m) n → m ≡ n
  plane_only n hm hn covers = same_from_bits_below pins m n hm hn (λ i h.
      let at = plane-at i h in
      ⊎_elim (λ dash. absurd (omega arith)) (λ digit. omega arith) (covers i (omega (arith, plane_long))))

  pub line-formed : Formed pins (line_at pins m)
  line-formed = record {
    long = plane_long;
    characters = λ i h.
        let at = plane-at i (omega (arith, plane_long)) in
        ⊎_elim (λ one. inr (inl (omega arith))) (λ not. inl (omega (arith, bit_at-lt m i))) (cases_eq (bit m i) 1);
    ends = inr refl;
  }

each : {X : Type 0} (P : X → Type 0) (xs : List X) → ((x : X) → P x) → AllByRecursion P xs
each P [] p = tt
each P (x ∷ xs) p = (p x, each P xs p)

pub lines_cover : (pins : ℕ) (ones : List ℕ) → IsCover pins (map (line_at pins) ones)
lines_cover pins ones = record {
  formed = All-map (Formed pins) (line_at pins) ones (each _ ones (line-formed pins));
  alike = alike_some (map (line_at pins) ones) One (All-map (λ line. line.output ≡ codes "1") (line_at pins) ones (each _ ones (λ m. refl)));
}

pub reads-back : ReadsBack
reads-back pins bits fits = (
  lines_cover pins ones,
  record {
    fits = fits;
    bitwise = λ m l. (
      (λ one. inl (line_at pins m, has_map (line_at pins) ones m (ones_have bits (2 ^ pins) m l one), refl, plane-covers pins m)),
      (⊎_elim
          (λ p. all-has (λ line. Covers line.plane m → bit bits m ≡ 1) lines p.0
          (All-map (λ line. Covers line.plane m → bit bits m ≡ 1) (line_at pins) ones
          (All-weaker _ _ (λ n is covers. subst (λ k. bit bits k ≡ 1) (plane_only pins n m is.0 l covers) is.1) ones (ones_are bits (2 ^ pins))))
          p.1 p.3)
          (λ p. absurd (both_outputs p.0.0.output p.0.2
          (all-has (λ line. line.output ≡ codes "1") lines p.0.0 (All-map (λ line. line.output ≡ codes "1") (line_at pins) ones (each _ ones (λ n. refl))) p.0.1)))),
    );
  },
)
  where
    ones : List ℕ
    ones = ones_below bits (2 ^ pins)

    lines : List Line
    lines = lines_of pins bits

pub means_one_table : MeansOne
means_one_table pins lines x y mx my = same_from_bits_below (2 ^ pins) x y mx.fits my.fits (λ m l.
    let low = bit_at-lt x m in
    let low' = bit_at-lt y m in
    ⊎_elim
    (λ one. let e = (my.bitwise m l).1 ((mx.bitwise m l).0 one) in omega arith)
    (λ not. ⊎_elim (λ one. let e = (mx.bitwise m l).1 ((my.bitwise m l).0 one) in omega arith) (λ not'. omega arith) (cases_eq (bit y m) 1))
    (cases_eq (bit x m) 1))
