-- A table written line by line into a cover.
use Rattle.std.proofs.Common.{◌≡◌, ℕ, ◌^◌, ◌≤◌, Bool, nat_eq, None, Option, List, arith, [], ◌∷◌, ◌++◌, map, take, codes, sym, refl, ap, ◌∙◌, subst, ⊎_elim}
use Rattle.std.proofs.lemmas.List.FromFn.{take-map-range_with_len}
use Rattle.std.proofs.lemmas.List.{map-append, map-id}
use denote.Param.Members.{Mut}
use denote.Ref.{Bor}
use Rattle.std.specs.Fn.{CalledAt}
use Rattle.std.specs.Iterator.{Yields}
use Rattle.std.specs.Iterator.Adapters.{filter_source, filter_callee, filter_steps}
use Rattle.std.proofs.iter.Yields.{nat_range_steps}
use Rattle.std.proofs.lemmas.Iterator.{YieldsList-from_range}
use Rattle.std.proofs.lemmas.Iterator.Consumers.{YieldsList-from_filter, YieldsList-end}
use Rattle.std.specs.declared.iter.Filter.{Filter}
use Rattle.std.specs.declared.ops.Range.{Range}
use Rattle.table.specs.declared.shape.Cover.{Cover}
use Rattle.table.specs.declared.shape.Table.{Table}
use Rattle.table.specs.declared.fault.CoverFault.{CoverFault}
use Rattle.table.specs.Bit.{bit}
use Rattle.table.specs.Line.{Line, Differs, Means, Gives}
use Rattle.table.specs.Cover.{Read, Refuses}
use Rattle.table.specs.Written.{character_at, plane_at, ones_below, line_at, lines_of}
use Rattle.table.proofs.Ones.{line-formed, reads-back, means_one_table}

-- The cover has taken the lines of these minterms.
pub record Wrote (table : Table) (ones : List ℕ) (cover : Cover) : Type 0 where
  pub same : cover.listed.pins ≡ table.pins
  pub read : Read (map (line_at table.pins) ones) cover

-- The first characters of four are the plane of a gate with fewer pins.
pub cut-plane :
    (pins m : ℕ) (bytes : List ℕ) → pins ≤ 4 → bytes ≡ plane_at 4 m
    → ◌≡◌ {A = Line} (record { plane = take pins bytes; output = codes "1" }) (line_at pins m)
cut-plane pins m bytes few written =
    ap (λ (plane : List ℕ). record { plane = plane; output = codes "1" })
    (ap (take pins) written ∙ take-map-range_with_len (character_at m) 0 4 pins few)

never_differs : (pins one : ℕ) (ones : List ℕ) → Differs (map (line_at pins) ones) (line_at pins one) → ⊥
never_differs pins one [] differs = differs
never_differs pins one (first ∷ rest) differs = differs refl

never_refused : (pins one : ℕ) (ones : List ℕ) (fault : CoverFault) → Refuses pins (map (line_at pins) ones) (line_at pins one) fault → ⊥
never_refused pins one ones fault refused =
    ⊎_elim (λ p. p.1 (line-formed pins one)) (λ p. never_differs pins one ones p.2) refused

-- A filter of the minterms by the table's value, run to its end, yields the 1-minterms.
pub ones_yielded :
    {F : Type 0} (g : Mut F (Bor ℕ × Unit {0}) Bool) {f : F} (bits rows : ℕ) (xs : List ℕ) (s t u : Filter (Range ℕ) F) (r : Option ℕ)
    → filter_source s ≡ record { start = 0; end = rows } → filter_callee s ≡ f → Yields (filter_steps nat_range_steps g) s xs t
    → r ≡ None → filter_steps nat_range_steps g t r u
    → ((x : ℕ) (b : Bool) (q : F) → CalledAt g f x b q → (q ≡ f) × (b ≡ nat_eq (bit bits x) 1)) → xs ≡ ones_below bits rows
ones_yielded g bits rows xs s t u r from is yielded none step called =
    let road = YieldsList-from_filter g (λ m. nat_eq (bit bits m) 1) (YieldsList-from_range 0 rows rows from (omega arith)) is called in
    sym (map-id xs) ∙ (YieldsList-end road xs t yielded r u none step).0

module _ (table : Table) (ones : List ℕ) (cover : Cover) (wrote : Wrote table ones cover) where
  abbrev pub lines : List Line
  lines = map (line_at table.pins) ones

  pub wrote-more :
      (one : ℕ) (line : Line) (after : Cover) → line ≡ line_at table.pins one → after.listed.pins ≡ cover.listed.pins
      → Read (lines ++ line ∷ []) after → Wrote table (ones ++ one ∷ []) after
  wrote-more one line after is same read = record {
    same = same ∙ wrote.same;
    read = subst (λ ls. Read ls after) (ap (λ x. lines ++ x ∷ []) is ∙ sym (map-append (line_at table.pins) ones (one ∷ []))) read;
  }

  pub wrote-refused :
      (one at : ℕ) (line : Line) (fault : CoverFault) → line ≡ line_at table.pins one → at ≡ cover.listed.pins → Refuses at lines line fault → ⊥
  wrote-refused one at line fault is same refused =
      never_refused table.pins one ones fault
      (subst (λ x. Refuses table.pins lines x fault) is (subst (λ n. Refuses n lines line fault) (same ∙ wrote.same) refused))

  pub wrote-all :
      (bits : ℕ) → ones ≡ ones_below table.bits (2 ^ table.pins)
      → ((ls : List Line) → Read ls cover → Gives cover.listed.pins ls bits) → bits ≡ table.bits
  wrote-all bits all gives =
      means_one_table table.pins (lines_of table.pins table.bits) bits table.bits
      (subst (λ ns. Means table.pins (map (line_at table.pins) ns) bits) all (subst (λ n. Means n lines bits) wrote.same (gives lines wrote.read).1))
      (reads-back table.pins table.bits table.fits).1
