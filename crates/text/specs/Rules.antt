-- Bytes and what parts them.
use Rattle.std.specs.Prelude.{ℕ, Bool, true, false, not, ◌&&◌, ◌||◌, ◌==◌, nat_le}

-- what a kind of text says of its words: the two bytes that part them, and whether a run of those counts as one
pub record Rules : Type 0 where
  pub first : ℕ
  pub second : ℕ
  pub joins : Bool

-- in a file blank (32) and tab (9) part words, and a run of them counts as one
abbrev pub file_rules : Rules
file_rules = record { first = 32; second = 9; joins = true }

-- in a script the comma (44) does, and each counts
abbrev pub script_rules : Rules
script_rules = record { first = 44; second = 44; joins = false }

abbrev pub marked : ℕ → ℕ → ℕ → Bool
marked m n b = b == m || b == n

abbrev pub separates : Rules → ℕ → Bool
separates k b = marked k.first k.second b

-- bytes 33 to 126, but no comma (44), equals sign (61) or backslash (92)
abbrev pub word_byte : ℕ → Bool
word_byte b = nat_le 33 b && (nat_le b 126 && (not (b == 44) && (not (b == 61) && not (b == 92))))

abbrev pub allowed : Rules → ℕ → Bool
allowed k b = separates k b || word_byte b
