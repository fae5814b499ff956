-- Decimal numbers.
use Rattle.std.specs.Prelude.{ℕ, ◌+◌, ◌-◌, ◌*◌, ◌^◌, Bool, not, ◌&&◌, List, [], ◌∷◌, length, ◌==◌, nat_le}
use Rattle.std.specs.List.{list_all}

-- the bytes 48 to 57 write the digits 0 to 9
abbrev pub is_digit_lem : ℕ → Bool
is_digit_lem b = nat_le 48 b && nat_le b 57

-- a number has 1 to 5 digits and nothing else
abbrev pub is_numeral_lem : List ℕ → Bool
is_numeral_lem bs = not (length bs == 0) && (nat_le (length bs) 5 && list_all is_digit_lem bs)

-- the number that digits write: each counts ten times what the next one counts
abbrev pub value : List ℕ → ℕ
value [] = 0
value (b ∷ bs) = (b - 48) * 10 ^ length bs + value bs
