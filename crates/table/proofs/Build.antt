-- A set of minterms built from its lowest bit up.
use Rattle.std.proofs.Common.{◌≡◌, ℕ, zero, suc, ◌+◌, ◌*◌, ◌%◌, ◌^◌, ◌<◌, ◌≤◌, Bool, true, false, cond, ltb, eqb, bit_or, List, map, Decides, sym, ap, ◌∙◌, subst, ⊎_elim, w32, pow_pos, add-one, arith}
use native.Mathlib.Nat.{pow-succ'}
use Rattle.std.specs.Int.{from_bool}
use Rattle.std.specs.Int.Bits.{or_zero_r}
use Rattle.std.specs.Iterator.{FoldTurn}
use Rattle.std.specs.Fn.{Called}
use Rattle.std.specs.List.{range_with_len, FoldsTo}
use denote.Param.Members.{Mut}
use lib.Bits.{or_lt}
use Rattle.std.proofs.lemmas.Bool.{eqb-true, eq-eqb, ne_eqb, cond_below, cases_eq}
use Rattle.std.proofs.lemmas.Nat.Bits.{bit_at_set_same, bit_at_set_other, bit_at_above}
use Rattle.std.proofs.lemmas.List.{map-id}
use Rattle.table.specs.declared.shape.Table.{Table}
use Rattle.table.specs.Bit.{bit}
use Rattle.table.specs.Line.{Holds}

-- The set has the answers of a test at the minterms below n.
pub record Built (n set : ℕ) (R : ℕ → Bool → Type 0) : Type 0 where
  pub fits : set < 2 ^ n
  pub each : (m : ℕ) → m < n → R m (eqb (bit set m) 1)

-- The set with the answer of the test at n.
abbrev pub with_answer : ℕ → ℕ → Bool → ℕ
with_answer set n t = bit_or set (cond (ltb n 32) (from_bool t * 2 ^ n % 2 ^ 32) 0)

module _ (n set : ℕ) (R : ℕ → Bool → Type 0) (within : n < 32) (built : Built n set R) where
  doubled : 2 ^ (n + 1) ≡ 2 * 2 ^ n
  doubled = ap (λ k. 2 ^ k) (add-one n) ∙ pow-succ' 2 n

  put : with_answer set n true ≡ bit_or set (1 * 2 ^ n % 2 ^ 32)
  put = ap (bit_or set) (sym (cond_below n 32 (1 * 2 ^ n % 2 ^ 32) 0 within))

  left_out : with_answer set n false ≡ set
  left_out =
      let none : 0 * 2 ^ n % 2 ^ 32 ≡ 0 = omega arith in
      ap (bit_or set) (sym (cond_below n 32 (0 * 2 ^ n % 2 ^ 32) 0 within) ∙ none) ∙ or_zero_r set

  same_below : (t : Bool) (m : ℕ) → m < n → bit (with_answer set n t) m ≡ bit set m
  same_below true m h = ap (λ x. bit x m) put ∙ bit_at_set_other w32 set n within m (λ e. omega arith)
  same_below false m h = ap (λ x. bit x m) left_out

  answered : (t : Bool) → eqb (bit (with_answer set n t) n) 1 ≡ t
  answered true = eq-eqb _ 1 (ap (λ x. bit x n) put ∙ bit_at_set_same w32 set n within)
  answered false = ne_eqb _ 1 (λ one. omega (arith, ap (λ x. bit x n) left_out, bit_at_above set n n built.fits (omega arith)))

  fits_more : (t : Bool) → with_answer set n t < 2 ^ (n + 1)
  fits_more true = rw put (or_lt (n + 1) set (1 * 2 ^ n % 2 ^ 32) (omega (arith, doubled, built.fits)) (omega (arith, doubled, pow_pos n)))
  fits_more false = rw left_out (omega (arith, doubled, built.fits))

  built_more : (t : Bool) → R n t → Built (n + 1) (with_answer set n t) R
  built_more t answer = record {
    fits = fits_more t;
    each = λ m h.
        ⊎_elim
        (λ same. subst (λ k. R k (eqb (bit (with_answer set n t) k) 1)) (sym same) (subst (R n) (sym (answered t)) answer))
        (λ other. subst (λ b. R m (eqb b 1)) (sym (same_below t m (omega arith))) (built.each m (omega arith)))
        (cases_eq m n);
  }

-- A closure that puts the test's answer at its minterm.
abbrev Puts : {F : Type 0} → Mut F (ℕ × (ℕ × Unit {0})) ℕ → F → (ℕ → Bool → Type 0) → Type 0
Puts {F} g f R = (set m b : ℕ) (q : F) → Called g f (set, (m, tt)) b q → (q ≡ f) × (t : Bool) × R m t × (b ≡ with_answer set m t)

module _ {F : Type 0} (g : Mut F (ℕ × (ℕ × Unit {0})) ℕ) (f : F) (rows : ℕ) (few : rows ≤ 16) (R : ℕ → Bool → Type 0) where
  built_from :
      Puts g f R → (k n set r : ℕ) (q : F) → n + k ≡ rows → Built n set R
      → FoldsTo {P = F × ℕ} (FoldTurn g) (f, set) (range_with_len n k) (q, r) → Built rows r R
  built_from puts zero n set r q all built done =
      subst (λ k. Built k r R) (omega (arith, all)) (subst (λ x. Built n x R) (ap (λ p. p.1) done) built)
  built_from puts (suc k) n set r q all built (j, called, more) =
      let told = puts set n j.1 j.0 called in
      built_from puts k (n + 1) j.1 r q (omega (arith, all))
      (subst (λ x. Built (n + 1) x R) (sym told.3) (built_more n set R (omega (arith, all, few)) built told.1 told.2))
      (subst (λ h. FoldsTo {P = F × ℕ} (FoldTurn g) (h, j.1) (range_with_len (n + 1) k) (q, r)) told.0 more)

  -- It builds the whole set.
  pub built_all :
      (xs : List ℕ) (q : F) (r : ℕ) → map (λ x. x) xs ≡ range_with_len 0 rows
      → FoldsTo {P = F × ℕ} (FoldTurn g) (f, 0) xs (q, r) → Puts g f R → Built rows r R
  built_all xs q r same folded puts =
      built_from puts rows 0 0 r q (omega arith) (record { fits = omega arith; each = λ m h. absurd (omega arith) })
      (subst (λ ys. FoldsTo {P = F × ℕ} (FoldTurn g) (f, 0) ys (q, r)) (sym (map-id xs) ∙ same) folded)

-- The whole table, where the test decides a fact of each minterm.
pub holds_passing :
    (table : Table) (P : ℕ → Type 0) → ((m : ℕ) → m < 2 ^ table.pins → Decides (eqb (bit table.bits m) 1) (P m))
    → Holds table.pins table.bits P
holds_passing table P each = record {
  fits = table.fits;
  bitwise = λ m l. let d = each m l in ((λ one. d.0 (eq-eqb _ 1 one)), (λ p. eqb-true _ 1 (d.1 p)));
}
