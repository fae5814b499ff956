-- A table as the lines of its 1-minterms.
use Rattle.std.specs.Prelude.{◌≡◌, ℕ, ◌+◌, ◌^◌, ◌<◌, ◌≤◌, List, map, Some, None, codes, filter, Option, nat_eq}
use Rattle.std.specs.List.{range_with_len}
use Rattle.table.specs.Bit.{bit}
use Rattle.table.specs.Line.{Line}

-- The character of pin i at the minterm m.
abbrev pub character_at : ℕ → ℕ → ℕ
character_at m i = 48 + bit m i

-- The plane of the minterm m alone, a character for each pin.
abbrev pub plane_at : ℕ → ℕ → List ℕ
plane_at pins m = map (character_at m) (range_with_len 0 pins)

-- The minterms below n at which the table has the value 1, ascending.
abbrev pub ones_below : ℕ → ℕ → List ℕ
ones_below bits n = filter (λ m. nat_eq (bit bits m) 1) (range_with_len 0 n)

abbrev pub line_at : ℕ → ℕ → Line
line_at pins m = record { plane = plane_at pins m; output = codes "1" }

-- The lines of a table: its 1-minterms, ascending.
abbrev pub lines_of : ℕ → ℕ → List Line
lines_of pins bits = map (line_at pins) (ones_below bits (2 ^ pins))

-- The first 1-minterm at or above a number, or that there is none.
abbrev pub NextOne : ℕ → ℕ → ℕ → Option ℕ → Type 0
NextOne pins bits from None = (m : ℕ) → from ≤ m → m < 2 ^ pins → bit bits m ≡ 0
NextOne pins bits from (Some one) =
    (from ≤ one) × (one < 2 ^ pins) × (bit bits one ≡ 1) × ((m : ℕ) → from ≤ m → m < one → bit bits m ≡ 0)
