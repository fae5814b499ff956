-- The words of a line.
use Rattle.std.specs.Prelude.{ℕ, ◌+◌, Bool, cond, not, ◌&&◌, ◌||◌, List, [], ◌∷◌, length, filter, Some, None, Option, ◌==◌, nat_le}
use denote.Ref.{Bor}
use Rattle.text.specs.Rules.{Rules, separates}
use Rattle.text.specs.declared.words.Word.{Word}
use Rattle.text.specs.declared.spot.RawLine.{RawLine}

-- a part of a text: where it begins, the number of its line, and its bytes
pub record Part : Type 0 where
  pub place : ℕ
  pub line : ℕ
  pub bytes : List ℕ

abbrev pub part : ℕ → ℕ → List ℕ → Part
part at n bs = record { place = at; line = n; bytes = bs }

-- the part that a word of the code is
abbrev pub spelled : Word → Part
spelled w = part w.place w.line w.bytes.now

-- b, which stands at `at`, goes in front of the first part
abbrev pub onto : ℕ → ℕ → List Part → List Part
onto at b [] = []
onto at b (p ∷ ps) = part at p.line (b ∷ p.bytes) ∷ ps

-- what stands between the separators of a line whose first byte is at `at`: one part more than there are separators
abbrev pub parts : Rules → ℕ → ℕ → List ℕ → List Part
parts k n at [] = part at n [] ∷ []
parts k n at (b ∷ bs) = cond (separates k b) (part at n [] ∷ parts k n (at + 1) bs) (onto at b (parts k n (at + 1) bs))

-- where a run of separators counts as one, and they part nothing at a line's ends, the empty parts are no words
abbrev pub is_word_lem : Rules → List ℕ → Bool
is_word_lem k bs = not k.joins || not (length bs == 0)

-- a line without bytes has no words
abbrev pub words : Rules → ℕ → ℕ → List ℕ → List Part
words k n at [] = []
words k n at (b ∷ bs) = filter (λ p. is_word_lem k p.bytes) (parts k n at (b ∷ bs))

-- the words of a line as the code has it
abbrev pub words_in : Rules → RawLine → List Part
words_in k line = words k line.at.line line.at.place line.bytes.now

-- the words of what is left of a line, which begins at `at`: none where no part is left
abbrev pub left_words : Rules → ℕ → ℕ → Option (Bor (List ℕ)) → List Part
left_words k n at None = []
left_words k n at (Some r) = filter (λ p. is_word_lem k p.bytes) (parts k n at r.now)

-- a word has 1 to 32 bytes
abbrev pub fits : List ℕ → Bool
fits bs = not (length bs == 0) && nat_le (length bs) 32
