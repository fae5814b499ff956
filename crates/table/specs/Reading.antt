-- A whole cover.
use Rattle.std.specs.Prelude.{◌≡◌, ℕ, ◌<◌, ◌≤◌, List, ◌∷◌, ◌++◌, Ok, Err, Result, MatchResult}
use Rattle.table.specs.declared.shape.Table.{Table}
use Rattle.table.specs.declared.shape.CoverLine.{CoverLine}
use Rattle.table.specs.declared.fault.CoverFault.{CoverFault}
use Rattle.table.specs.declared.fault.ReadFault.{ReadFault}
use Rattle.table.specs.declared.fault.ReadFault.TheVariants.{OfTable, OfLine}
use Rattle.table.specs.Line.{Line, IsCover, Gives}
use Rattle.table.specs.Cover.{Refuses}
use Rattle.table.specs.Fault.{table_number}
use Rattle.table.specs.Table.{IsTable}
use Rattle.table.specs.Written.{lines_of}

abbrev pub line_of : CoverLine → Line
line_of line = record { plane = line.plane.now; output = line.output.now }

-- The first line that cannot follow those before it.
pub record Stops (pins : ℕ) (lines : List Line) (fault : CoverFault) : Type 0 where
  pub before : List Line
  pub line : Line
  pub after : List Line
  pub parts : lines ≡ before ++ line ∷ after
  pub cover : IsCover pins before
  pub refused : Refuses pins before line fault

-- Lines that are a cover are read as the table that they mean. Over four pins are refused (13), and else the first line that
-- cannot follow those before it (35, 37).
abbrev pub Reads : ℕ → List Line → Result Table ReadFault → Type 0
Reads pins lines (Ok table) = (pins ≤ 4) × (table.pins ≡ pins) × Gives pins lines table.bits
Reads pins lines (Err (OfTable fault)) = (table_number fault ≡ 13) × (4 < pins)
Reads pins lines (Err (OfLine fault)) = (pins ≤ 4) × Stops pins lines fault

-- The lines of a table are read as that table.
abbrev pub ReadsTable : ℕ → List Line → Result Table ReadFault → Type 0
ReadsTable pins lines r =
    (bits : ℕ) → IsTable pins bits → lines ≡ lines_of pins bits → MatchResult r (λ table. (table.pins ≡ pins) × (table.bits ≡ bits)) (λ _. ⊥)
