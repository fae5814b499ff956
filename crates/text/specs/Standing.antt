-- The words that are read stand in the text.
use Rattle.std.specs.Prelude.{◌≡◌, ℕ, ◌+◌, ◌≤◌, true, cond, not, List, [], ◌∷◌, length, take, drop, replicate, Some, ◌==◌}
use Rattle.std.specs.List.{AllByRecursion, list_all}
use Rattle.text.specs.Rules.{Rules, file_rules, word_byte}
use Rattle.text.specs.Words.{Part, part, fits}
use Rattle.text.specs.Lines.{Item, holds, faulty, wrong, contents}

-- how many lines end in bs
abbrev pub newlines : List ℕ → ℕ
newlines [] = 0
newlines (b ∷ bs) = cond (b == 10) (newlines bs + 1) (newlines bs)

-- a word of line n: its bytes are those of the text at its place, 1 to 32 of them, all of them word bytes and none of them
-- `#` (35); n - 1 lines end before it
pub record Stands (text : List ℕ) (n : ℕ) (p : Part) : Type 0 where
  pub line : p.line ≡ n
  pub counted : n ≡ newlines (take p.place text) + 1
  pub there : take (length p.bytes) (drop p.place text) ≡ p.bytes
  pub right : fits p.bytes ≡ true
  pub clean : list_all word_byte p.bytes ≡ true
  pub uncommented : list_all (λ b. not (b == 35)) p.bytes ≡ true

abbrev pub AllStand : List ℕ → List Item → Type 0
AllStand text [] = Unit {0}
AllStand text (holds n ws ∷ is) = AllByRecursion (Stands text n) ws × AllStand text is
AllStand text (faulty n f ∷ is) = AllStand text is

-- whatever the kind of text, its limit and its bytes
abbrev pub WordsStand : Type 0
WordsStand = (k : Rules) (limit : ℕ) (text : List ℕ) → AllStand text (contents k limit text)

-- how many words the lines hold together
abbrev pub word_count : List Item → ℕ
word_count [] = 0
word_count (holds n ws ∷ is) = length ws + word_count is
word_count (faulty n f ∷ is) = word_count is

-- a text holds no more words than bytes
abbrev pub WordsBounded : Type 0
WordsBounded = (k : Rules) (limit : ℕ) (text : List ℕ) → word_count (contents k limit text) ≤ length text

-- a name of 32 bytes serves, and one of 33 is refused with 32
pub record NameLengths : Type 0 where
  pub longest : contents file_rules 1048576 (replicate 32 97) ≡ holds 1 (part 0 1 (replicate 32 97) ∷ []) ∷ []
  pub too_long : contents file_rules 1048576 (replicate 33 97) ≡ faulty 1 (wrong 32 (Some 97)) ∷ []
