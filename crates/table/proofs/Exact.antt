-- What stops a reading is no cover, so a table's lines are read as that table.
use Rattle.std.proofs.Common.{◌≡◌, ℕ, List, [], ◌∷◌, ◌++◌, Ok, Err, Result, sym, refl, subst, ⊎_elim, arith}
use Rattle.std.specs.List.{ContainsAt}
use Rattle.std.proofs.ByRecursion.{all-has, has_append_right}
use Rattle.table.specs.declared.shape.Table.{Table}
use Rattle.table.specs.declared.fault.CoverFault.{CoverFault}
use Rattle.table.specs.declared.fault.ReadFault.{ReadFault}
use Rattle.table.specs.declared.fault.ReadFault.TheVariants.{OfTable, OfLine}
use Rattle.table.specs.Line.{Line, Formed, Alike, Differs, IsCover, Means}
use Rattle.table.specs.Cover.{Refuses}
use Rattle.table.specs.Reading.{Stops, Reads, ReadsTable}
use Rattle.table.proofs.Ones.{reads-back, means_one_table}

module _ (line : Line) (after : List Line) where
  has_here : (before : List Line) → ContainsAt (before ++ line ∷ after) line
  has_here before = has_append_right before (line ∷ after) line (0, omega arith, λ d. refl)

  alike_agrees : (before : List Line) → Alike (before ++ line ∷ after) → Differs before line → ⊥
  alike_agrees [] alike differs = differs
  alike_agrees (first ∷ rest) alike differs = differs (all-has (λ x. x.output ≡ first.output) (rest ++ line ∷ after) line alike (has_here rest))

  refused_breaks : (pins : ℕ) (before : List Line) (fault : CoverFault) → Refuses pins before line fault → IsCover pins (before ++ line ∷ after) → ⊥
  refused_breaks pins before fault refused cover =
      ⊎_elim
      (λ p. p.1 (all-has (Formed pins) (before ++ line ∷ after) line cover.formed (has_here before)))
      (λ p. alike_agrees before cover.alike p.2)
      refused

pub stops_breaks : (pins : ℕ) (lines : List Line) (fault : CoverFault) → Stops pins lines fault → IsCover pins lines → ⊥
stops_breaks pins lines fault stops cover =
    refused_breaks stops.line stops.after pins stops.before fault stops.refused (subst (IsCover pins) stops.parts cover)

pub reads_table : (pins : ℕ) (lines : List Line) (r : Result Table ReadFault) → Reads pins lines r → ReadsTable pins lines r
reads_table pins lines (Ok table) reads bits is same =
    (reads.1, means_one_table pins lines table.bits bits reads.2.1 (subst (λ ls. Means pins ls bits) (sym same) (reads-back pins bits is.1).1))
reads_table pins lines (Err (OfTable fault)) reads bits is same = omega (arith, reads.1, is.0)
reads_table pins lines (Err (OfLine fault)) reads bits is same =
    stops_breaks pins lines fault reads.1 (subst (IsCover pins) (sym same) (reads-back pins bits is.1).0)
