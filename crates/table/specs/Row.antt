-- A line on its way into a cover.
use Rattle.std.specs.Prelude.{◌≡◌, ℕ, Bool, true, false, ◌⊎◌, List, [], ◌∷◌, ◌++◌, Some, Ok, Err, Option, Result, ◌≢◌}
use Rattle.table.specs.declared.shape.Cover.{Cover}
use Rattle.table.specs.declared.shape.Output.{Output}
use Rattle.table.specs.declared.shape.Output.TheVariants.{Zero, One}
use Rattle.table.specs.declared.cover.Row.{Row}
use Rattle.table.specs.declared.fault.CoverFault.{CoverFault}
use Rattle.table.specs.Fault.{cover_number}
use Rattle.table.specs.Line.{Line, Holds, Covers, Formed, Differs}
use Rattle.table.specs.Cover.{Read, written}

-- An output is one character, 0 or 1; any other is malformed (35).
abbrev pub Ending : List ℕ → Result Output CoverFault → Type 0
Ending output (Ok how) = output ≡ written how
Ending output (Err fault) = (cover_number fault ≡ 35) × ((how : Output) → output ≢ written how)

-- What is kept of a line of a gate with so many pins.
pub record Stands (pins : ℕ) (line : Line) (row : Row) : Type 0 where
  pub formed : Formed pins line
  pub ends : line.output ≡ written row.output
  pub same : row.covered.pins ≡ pins
  pub covers : Holds pins row.covered.bits (Covers line.plane)

abbrev pub Parses : ℕ → Line → Result Row CoverFault → Type 0
Parses pins line (Ok row) = Stands pins line row
Parses pins line (Err fault) = (cover_number fault ≡ 35) × (Formed pins line → ⊥)

-- A well-formed line after these lines of a cover: 37 if it ends otherwise.
abbrev pub Joins : List Line → Line → Result Cover CoverFault → Type 0
Joins lines line (Ok after) = (Differs lines line → ⊥) × Read (lines ++ line ∷ []) after
Joins lines line (Err fault) = (cover_number fault ≡ 37) × Differs lines line

-- The value is 1 where the lines end in 1 and one covers the minterm, or they end in 0 and none does.
abbrev pub IsOne : Option Output → Bool → Type 0
IsOne output covered = ((output ≡ Some One) × (covered ≡ true)) ⊎ ((output ≡ Some Zero) × (covered ≡ false))
