-- What holds of tables and covers beside any call.
use Rattle.std.specs.Prelude.{◌≡◌, ℕ, ◌^◌, ◌<◌, ◌≤◌, List, [], ◌∷◌, codes}
use Prim.Native.String.{String}
use Rattle.table.specs.Bit.{bit}
use Rattle.table.specs.Line.{Line, Iff, Means, Gives}
use Rattle.table.specs.Written.{lines_of}

-- A number is below 2 ^ (2 ^ pins) exactly when it has no bit at or above 2 ^ pins.
abbrev pub FitsByBits : Type 0
FitsByBits = (pins bits : ℕ) → Iff (bits < 2 ^ (2 ^ pins)) ((m : ℕ) → 2 ^ pins ≤ m → bit bits m ≡ 0)

-- Lines mean one table at most.
abbrev pub MeansOne : Type 0
MeansOne = (pins : ℕ) (lines : List Line) (x y : ℕ) → Means pins lines x → Means pins lines y → x ≡ y

-- The lines of a table are a cover that means that table, whatever the number of pins.
abbrev pub ReadsBack : Type 0
ReadsBack = (pins bits : ℕ) → bits < 2 ^ (2 ^ pins) → Gives pins (lines_of pins bits) bits

abbrev pub text : String → String → Line
text plane output = record { plane = codes plane; output = codes output }

pub record Examples : Type 0 where
  pub second_pin : Gives 2 (text "-1" "1" ∷ []) 12
  pub not_both : Gives 2 (text "11" "0" ∷ []) 7
  pub no_lines : Gives 2 [] 0
