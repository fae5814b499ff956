-- The lines of a text that count, as the format sees them.
use Rattle.std.specs.Prelude.{◌≡◌, true, ℕ, Bool, false, List, [], ◌∷◌, map, Some, None, Option, ◌==◌}
use Rattle.std.specs.List.{list_all, AllByRecursion}
use Rattle.text.specs.Rules.{Rules, file_rules}
use Rattle.text.specs.Lines.{Item, holds, faulty, rest}
use Rattle.text.specs.Numbers.{text_fault}
use Rattle.text.specs.declared.faults.LineFault.{LineFault}
use Rattle.blif.specs.Statement.{Words, is_line}
use Rattle.blif.specs.Written.{spelled}

-- Its number, its words, and the number of what is wrong with its bytes or words. Of a faulty line no more is
-- known than the byte that it begins with: it stands for the words.
pub record Row : Type 0 where
  pub line : ℕ
  pub words : Words
  pub fault : Option ℕ

abbrev pub begun_with : Option ℕ → Words
begun_with None = []
begun_with (Some b) = (b ∷ []) ∷ []

abbrev pub row_of : Item → Row
row_of (holds n ps) = record { line = n; words = map (λ p. p.bytes) ps; fault = None }
row_of (faulty n w) = record { line = n; words = begun_with w.first_byte; fault = Some w.number }

abbrev pub all_rows : Rules → List ℕ → List Row
all_rows k text = map row_of (rest k text 0 1)

abbrev pub words_of : Row → Words
words_of r = r.words

-- what is told of a faulty line
pub record FaultOf (r : Row) (f : LineFault) : Type 0 where
  pub number : r.fault ≡ Some (text_fault f.fault)
  pub line : f.line ≡ r.line
  pub first : r.words ≡ begun_with f.first_byte

-- the first byte of a line behind its blanks is a dot (46)
abbrev pub dotted : Words → Bool
dotted [] = false
dotted ([] ∷ ws) = false
dotted ((b ∷ bs) ∷ ws) = b == 46

-- no line is at fault, and these are the words of each
abbrev pub AreLines : List Row → List Words → Type 0
AreLines rs ls = AllByRecursion (λ r. r.fault ≡ None) rs × (map words_of rs ≡ ls)

-- Whatever the lines of words, the text that they are spelled as holds them and nothing else.
abbrev pub SpellingHolds : Type 0
SpellingHolds = (ls : List Words) → list_all is_line ls ≡ true → AreLines (all_rows file_rules (spelled ls)) ls
