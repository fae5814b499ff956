-- What a file says, statement by statement, and how each is written.
use Rattle.std.specs.Prelude.{◌≡◌, ℕ, zero, suc, ◌+◌, ◌≤◌, ◌⊎◌, List, [], ◌∷◌, ◌++◌, map, length, codes, Bool, false, not, ◌&&◌, ◌==◌}
use Rattle.std.specs.List.{flat_map, list_all}
use Rattle.text.specs.Rules.{word_byte}
use Rattle.text.specs.Words.{fits}
use Rattle.table.specs.Line.{Line, IsCover}

abbrev pub Name : Type 0
Name = List ℕ

-- the words of a line
abbrev pub Words : Type 0
Words = List (List ℕ)

pub data Statement : Type 0 where
  inputs : List Name → Statement
  outputs : List Name → Statement
  -- the signal that its pin is on, the latch, and its start value
  latch : Name → Name → ℕ → Statement
  -- the signals that its pins are on, the gate, and its cover
  names : List Name → Name → List Line → Statement

-- the names of a statement, in the order of the words
abbrev pub mentioned : Statement → List Name
mentioned (inputs xs) = xs
mentioned (outputs xs) = xs
mentioned (latch a x start) = a ∷ x ∷ []
mentioned (names pins x cover) = pins ++ x ∷ []

-- a line of a gate's cover: without pins only the output stands
abbrev pub cover_words : ℕ → Line → Words
cover_words zero line = line.output ∷ []
cover_words (suc k) line = line.plane ∷ line.output ∷ []

-- the lines that a statement may be written in
abbrev pub Writes : Statement → List Words → Type 0
Writes (inputs xs) ls = ls ≡ (codes ".inputs" ∷ xs) ∷ []
Writes (outputs xs) ls = ls ≡ (codes ".outputs" ∷ xs) ∷ []
Writes (latch a x start) ls =
    (start ≤ 3) × ((ls ≡ (codes ".latch" ∷ a ∷ x ∷ ((48 + start) ∷ []) ∷ []) ∷ [])
    ⊎ ((start ≡ 3) × (ls ≡ (codes ".latch" ∷ a ∷ x ∷ []) ∷ [])))
Writes (names pins x cover) ls =
    (length pins ≤ 4) × IsCover (length pins) cover
    × (ls ≡ (codes ".names" ∷ (pins ++ x ∷ [])) ∷ map (cover_words (length pins)) cover)

abbrev pub WriteAll : List Statement → List Words → Type 0
WriteAll [] ls = ls ≡ []
WriteAll (s ∷ ss) ls = (own : List Words) × (rest : List Words) × Writes s own × WriteAll ss rest × (ls ≡ own ++ rest)

-- the lines of a file: `.model` and its name, the statements, `.end`
pub record IsFile (ls : List Words) (model : Name) (ss : List Statement) : Type 0 where
  pub body : List Words
  pub writes : WriteAll ss body
  pub whole : ls ≡ (codes ".model" ∷ model ∷ []) ∷ (body ++ (codes ".end" ∷ []) ∷ [])

-- all names of a file, as they appear
abbrev pub all_mentioned : List Statement → List Name
all_mentioned ss = flat_map mentioned ss

-- ---- words of a file

-- bytes 33 to 126, but no comma, equals sign or backslash, and no `#` (35)
abbrev pub name_byte : ℕ → Bool
name_byte b = word_byte b && not (b == 35)

-- any word of a file may be a name
abbrev pub is_name : List ℕ → Bool
is_name w = fits w && list_all name_byte w

-- a line has one or more words
abbrev pub is_line : Words → Bool
is_line [] = false
is_line (w ∷ ws) = is_name w && list_all is_name ws
