use Rattle.std.specs.Prelude.{◌≡◌, ℕ, ◌+◌, ◌^◌, ◌<◌, ◌⊎◌, List, [], ◌∷◌, length, codes, slice_index}
use Rattle.std.specs.List.{ContainsAt, AllByRecursion}
use Rattle.table.specs.Bit.{bit}

-- A line of a cover as it is read: the bytes of its plane and those of its output.
pub record Line : Type 0 where
  pub plane : List ℕ
  pub output : List ℕ

abbrev pub Iff : Type 0 → Type 0 → Type 0
Iff P Q = (P → Q) × (Q → P)

-- The characters of a plane: 0, 1 and -.
abbrev pub Character : ℕ → Type 0
Character c = (c ≡ 48) ⊎ ((c ≡ 49) ⊎ (c ≡ 45))

abbrev pub Characters : List ℕ → Type 0
Characters plane = (i : ℕ) → i < length plane → Character (slice_index plane i)

-- What a character says of the bit that its pin carries: 0 and 1 name it, - leaves it open.
abbrev pub Agrees : ℕ → ℕ → Type 0
Agrees c b = (c ≡ 45) ⊎ (c ≡ 48 + b)

-- Character i of the plane stands for pin i, which carries bit i of the minterm m.
abbrev pub Covers : List ℕ → ℕ → Type 0
Covers plane m = (i : ℕ) → i < length plane → Agrees (slice_index plane i) (bit m i)

-- A set of minterms of a gate with so many pins, a bit for each: m is in it exactly when P m.
pub record Holds (pins set : ℕ) (P : ℕ → Type 0) : Type 0 where
  pub fits : set < 2 ^ (2 ^ pins)
  pub bitwise : (m : ℕ) → m < 2 ^ pins → Iff (bit set m ≡ 1) (P m)

-- A line of a gate with so many pins: a character for each pin, and an output 0 or 1.
pub record Formed (pins : ℕ) (line : Line) : Type 0 where
  pub long : length line.plane ≡ pins
  pub characters : Characters line.plane
  pub ends : (line.output ≡ codes "0") ⊎ (line.output ≡ codes "1")

-- Every line has the output of the first.
abbrev pub Alike : List Line → Type 0
Alike [] = Unit {0}
Alike (first ∷ rest) = AllByRecursion (λ line. line.output ≡ first.output) rest

-- A further line has another output than the first.
abbrev pub Differs : List Line → Line → Type 0
Differs [] line = ⊥
Differs (first ∷ rest) line = line.output ≡ first.output → ⊥

pub record IsCover (pins : ℕ) (lines : List Line) : Type 0 where
  pub formed : AllByRecursion (Formed pins) lines
  pub alike : Alike lines

-- Some line covers the minterm m.
abbrev pub Listed : List Line → ℕ → Type 0
Listed lines m = (line : Line) × ContainsAt lines line × Covers line.plane m

-- The minterms at which the gate's value is 1: those that a line ending in 1 covers,
-- and, where lines end in 0, those that no line covers. Without lines there are none.
abbrev pub OnSet : List Line → ℕ → Type 0
OnSet lines m =
    ((line : Line) × ContainsAt lines line × (line.output ≡ codes "1") × Covers line.plane m)
    ⊎ (((line : Line) × ContainsAt lines line × (line.output ≡ codes "0")) × (Listed lines m → ⊥))

-- The table that the lines mean: bit m is 1 exactly when m is in their on-set, and there is no bit at or above 2 ^ pins.
abbrev pub Means : ℕ → List Line → ℕ → Type 0
Means pins lines bits = Holds pins bits (OnSet lines)

-- The lines are a cover, and mean this table.
abbrev pub Gives : ℕ → List Line → ℕ → Type 0
Gives pins lines bits = IsCover pins lines × Means pins lines bits
