-- What reading a line adds to what is known of a cover.
use Rattle.std.proofs.Common.{◌≡◌, ℕ, ◌^◌, eqb, List, [], ◌∷◌, ◌++◌, length, get_or, Some, None, codes, Option, sym, refl, ap, ◌∙◌, subst, inl, inr, ⊎_elim, arith, length-append}
use lib.Bits.{bit_or, or_lt}
use Rattle.std.proofs.lemmas.Bool.{cases_eq, eqb-true, eqb-false, eq-eqb, ne_eqb}
use Rattle.std.specs.List.{ContainsAt, AllByRecursion}
use Rattle.std.proofs.ByRecursion.{all-has, All-push, All-weaker, has_get_or, has_push, has_append_left, has_push_cases}
use Rattle.table.specs.declared.shape.Output.{Output}
use Rattle.table.specs.declared.shape.Output.TheVariants.{Zero, One}
use Rattle.table.specs.declared.cover.Row.{Row}
use Rattle.table.specs.Bit.{bit}
use Rattle.table.specs.Line.{Line, Holds, Covers, Formed, Alike, Differs, IsCover, Means}
use Rattle.table.specs.Cover.{written, Ends, Known}
use Rattle.table.specs.Row.{IsOne, Stands}
use Rattle.std.proofs.lemmas.Nat.Bits.{bit_at-lt, bit_at_or}

-- No output is both.
pub both_outputs : (output : List ℕ) → output ≡ codes "0" → output ≡ codes "1" → ⊥
both_outputs output e e' = let differ : ◌≡◌ {A = ℕ} 48 49 = ap (λ xs. get_or xs 0 0) (sym e ∙ e') in omega arith

written_once : (x y : Output) → written x ≡ written y → x ≡ y
written_once Zero Zero e = refl
written_once One One e = refl
written_once Zero One e = absurd (both_outputs _ refl e)
written_once One Zero e = absurd (both_outputs _ refl (sym e))

pub ends_is : (output : Option Output) (lines : List Line) (line : Line) (o : Output) → Ends output lines → ContainsAt lines line → line.output ≡ written o → output ≡ Some o
ends_is None lines line o none has is = absurd (omega (arith, ap length none, has.1))
ends_is (Some p) lines line o ends has is = ap Some (written_once p o (sym (all-has (λ x. x.output ≡ written p) lines line ends.1 has) ∙ is))

ends_of : (output : Option Output) (lines : List Line) (line : Line) (o : Output) → output ≡ Some o → Ends output lines → ContainsAt lines line → line.output ≡ written o
ends_of output lines line o is ends has = all-has (λ x. x.output ≡ written o) lines line (subst (λ out. Ends out lines) is ends).1 has

some_line : (output : Option Output) (lines : List Line) (o : Output) → output ≡ Some o → Ends output lines → (line : Line) × ContainsAt lines line
some_line output lines o is ends =
    let d : Line = record { plane = []; output = [] } in
    (get_or lines 0 d, has_get_or lines 0 d (subst (λ out. Ends out lines) is ends).0)

-- The rule for the value at a minterm gives the on-set of the lines.
pub known-means :
    (pins listed bits : ℕ) (output : Option Output) (lines : List Line) → Known pins output listed lines
    → Holds pins bits (λ m. IsOne output (eqb (bit listed m) 1)) → Means pins lines bits
known-means pins listed bits output lines known built = record {
  fits = built.fits;
  bitwise = λ m l.
      let rule = built.bitwise m l in
      let lists = known.lists.bitwise m l in (
        (λ one. ⊎_elim
            (λ p. let found = lists.0 (eqb-true (bit listed m) 1 p.1) in
            inl (found.0, found.1, ends_of output lines found.0 One p.0 known.ends found.1, found.2))
            (λ p. let line = some_line output lines Zero p.0 known.ends in
            inr ((line.0, line.1, ends_of output lines line.0 Zero p.0 known.ends line.1), λ found. eqb-false (bit listed m) 1 p.1 (lists.1 found)))
            (rule.0 one)),
        (λ on. rule.1 (⊎_elim
            (λ p. inl (ends_is output lines p.0 One known.ends p.1 p.2, eq-eqb (bit listed m) 1 (lists.1 (p.0, p.1, p.3))))
            (λ p. inr (ends_is output lines p.0.0 Zero known.ends p.0.1 p.0.2, ne_eqb (bit listed m) 1 (λ one. p.1 (lists.0 one))))
            on)),
      );
}

-- A line more, where all end so.
pub known_more :
    (pins listed : ℕ) (lines : List Line) (output : Option Output) (line : Line) (row : Row)
    → Known pins output listed lines → Stands pins line row → Ends (Some row.output) (lines ++ line ∷ [])
    → Known pins (Some row.output) (bit_or listed row.covered.bits) (lines ++ line ∷ [])
known_more pins listed lines output line row known stands ends = record {
  formed = All-push (Formed pins) lines line known.formed stands.formed;
  ends = ends;
  lists = record {
    fits = or_lt (2 ^ pins) listed row.covered.bits known.lists.fits stands.covers.fits;
    bitwise = λ m l.
        let either = bit_at_or listed row.covered.bits m in
        let low = bit_at-lt listed m in
        let low' = bit_at-lt row.covered.bits m in (
          (λ one. ⊎_elim
              (λ e. let p = (known.lists.bitwise m l).0 e in (p.0, has_append_left lines (line ∷ []) p.0 p.1, p.2))
              (λ e. (line, has_push lines line, (stands.covers.bitwise m l).0 (omega arith)))
              (cases_eq (bit listed m) 1)),
          (λ p. ⊎_elim
              (λ has. let e = (known.lists.bitwise m l).1 (p.0, has, p.2) in omega arith)
              (λ same. let e = (stands.covers.bitwise m l).1 (subst (λ x. Covers x.plane m) (sym same) p.2) in omega arith)
              (has_push_cases lines line p.0 p.1)),
        );
  };
}

pub ends_first : (lines : List Line) (line : Line) (output : Output) → line.output ≡ written output → Ends None lines → Ends (Some output) (lines ++ line ∷ [])
ends_first lines line output is none = simp none (omega arith, (is, tt))

pub ends_more : (lines : List Line) (line : Line) (output : Output) → line.output ≡ written output → Ends (Some output) lines → Ends (Some output) (lines ++ line ∷ [])
ends_more lines line output is ends = (simp length-append (omega arith), All-push (λ x. x.output ≡ written output) lines line ends.1 is)

-- What all lines end in is what the first ends in, so a line that ends so does not differ, and one that does not, does.
pub not_differs : (lines : List Line) (line : Line) (output : Output) → line.output ≡ written output → Ends (Some output) lines → Differs lines line → ⊥
not_differs [] line output is ends differs = differs
not_differs (first ∷ rest) line output is ends differs = differs (is ∙ sym ends.1.0)

pub differs_since : (lines : List Line) (line : Line) (first output : Output) → line.output ≡ written output → (first ≡ output → ⊥) → Ends (Some first) lines → Differs lines line
differs_since [] line first output is other ends = absurd (omega (arith, ends.0))
differs_since (head ∷ rest) line first output is other ends = λ same. other (written_once first output (sym ends.1.0 ∙ sym same ∙ is))

pub no_differs : (lines : List Line) (line : Line) → Ends None lines → Differs lines line → ⊥
no_differs lines line none differs = subst (λ ls. Differs ls line) none differs

alike_none : (lines : List Line) → lines ≡ [] → Alike lines
alike_none lines none = subst Alike (sym none) tt

pub alike_some : (lines : List Line) (output : Output) → AllByRecursion (λ line. line.output ≡ written output) lines → Alike lines
alike_some [] output all = tt
alike_some (first ∷ rest) output all =
    All-weaker (λ line. line.output ≡ written output) (λ line. line.output ≡ first.output) (λ line is. is ∙ sym all.0) rest all.1

alike_ends : (output : Option Output) (lines : List Line) → Ends output lines → Alike lines
alike_ends None lines none = alike_none lines none
alike_ends (Some output) lines ends = alike_some lines output ends.1

-- The lines that a cover has taken are a cover.
pub known_cover : (pins listed : ℕ) (output : Option Output) (lines : List Line) → Known pins output listed lines → IsCover pins lines
known_cover pins listed output lines known = record { formed = known.formed; alike = alike_ends output lines known.ends }
