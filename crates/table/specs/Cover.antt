use Rattle.std.specs.Prelude.{◌≡◌, ℕ, ◌<◌, ◌⊎◌, List, [], ◌∷◌, ◌++◌, length, Some, None, Ok, Err, codes, Option, Result}
use Rattle.std.specs.List.{AllByRecursion}
use Rattle.table.specs.declared.shape.Cover.{Cover}
use Rattle.table.specs.declared.shape.Output.{Output}
use Rattle.table.specs.declared.shape.Output.TheVariants.{Zero, One}
use Rattle.table.specs.declared.fault.CoverFault.{CoverFault}
use Rattle.table.specs.Fault.{cover_number}
use Rattle.table.specs.Line.{Line, Holds, Formed, Differs, Listed}

-- The output as it is written.
abbrev pub written : Output → List ℕ
written Zero = codes "0"
written One = codes "1"

-- There are no lines yet, or there are, and all end in this output.
abbrev pub Ends : Option Output → List Line → Type 0
Ends None lines = lines ≡ []
Ends (Some output) lines = (0 < length lines) × AllByRecursion (λ line. line.output ≡ written output) lines

-- What is known of the lines: they are well formed, they end so, and the set holds the minterms that some line covers.
pub record Known (pins : ℕ) (output : Option Output) (listed : ℕ) (lines : List Line) : Type 0 where
  pub formed : AllByRecursion (Formed pins) lines
  pub ends : Ends output lines
  pub lists : Holds pins listed (Listed lines)

-- These are the lines that the cover has taken.
abbrev pub Read : List Line → Cover → Type 0
Read lines cover = Known cover.listed.pins cover.output cover.listed.bits lines

-- Why a line cannot follow these lines: 35 if it is malformed, whatever its output, and 37 if it is well formed and ends otherwise.
abbrev pub Refuses : ℕ → List Line → Line → CoverFault → Type 0
Refuses pins lines line fault =
    ((cover_number fault ≡ 35) × (Formed pins line → ⊥))
    ⊎ ((cover_number fault ≡ 37) × Formed pins line × Differs lines line)

-- One line more after these lines: it is taken where it is well formed and ends as they do, and else refused.
abbrev pub Takes : List Line → Line → Cover → Result (Unit {0}) CoverFault → Type 0
Takes lines line after (Ok done) = Formed after.listed.pins line × (Differs lines line → ⊥) × Read (lines ++ line ∷ []) after
Takes lines line after (Err fault) = Refuses after.listed.pins lines line fault
