-- How the commands of a store are spelled, one to a line.
use Rattle.std.specs.Prelude.{◌≡◌, ℕ, ◌+◌, ◌-◌, ◌*◌, ◌^◌, ◌<◌, ◌≤◌, List, [], ◌∷◌, ◌++◌, length, codes}
use Rattle.std.specs.Fmt.{decimal}
use Rattle.store_script.specs.declared.command.Command.{Command}
use Rattle.store_script.specs.declared.command.Command.TheVariants.{Set, Open, Keep, Drop, Show}

-- n is what decimal digits say behind digits that said `before`
abbrev pub Digits : List ℕ → ℕ → ℕ → Type 0
Digits [] before n = before ≡ n
Digits (b ∷ bs) before n = (48 ≤ b) × (b ≤ 57) × Digits bs (before * 10 + (b - 48)) n

-- a decimal number below 2^32, leading zeros allowed
abbrev pub Decimal : List ℕ → ℕ → Type 0
Decimal text n = (0 < length text) × Digits text 0 n × (n < 2 ^ 32)

-- two numbers, parted by one blank
pub record Operands (text : List ℕ) (at word : ℕ) : Type 0 where
  pub first : List ℕ
  pub second : List ℕ
  pub parted : text ≡ first ++ (32 ∷ second)
  pub number : Decimal first at
  pub value : Decimal second word

abbrev pub SetOperands : List ℕ → Command → Type 0
SetOperands text (Set at word) = Operands text at word
SetOperands text Open = ⊥
SetOperands text Keep = ⊥
SetOperands text Drop = ⊥
SetOperands text Show = ⊥

-- the line `set AT WORD`
abbrev pub SpellsSet : List ℕ → ℕ → ℕ → Type 0
SpellsSet line at word = (text : List ℕ) × (line ≡ codes "set " ++ text) × Operands text at word

abbrev pub Spells : List ℕ → Command → Type 0
Spells line (Set at word) = SpellsSet line at word
Spells line Open = line ≡ codes "open"
Spells line Keep = line ≡ codes "keep"
Spells line Drop = line ≡ codes "drop"
Spells line Show = line ≡ codes "show"

-- the line that a command is printed as
abbrev pub printed : Command → List ℕ
printed (Set at word) = codes "set " ++ (decimal at ++ (codes " " ++ decimal word))
printed Open = codes "open"
printed Keep = codes "keep"
printed Drop = codes "drop"
printed Show = codes "show"
