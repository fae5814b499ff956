-- The front of a text, through a line that a word opens.
use Rattle.std.specs.Prelude.{ℕ, ◌+◌, Bool, false, cond, List, [], ◌∷◌, length}
use Rattle.std.specs.Str.{bytes_eq}
use Rattle.text.specs.Rules.{Rules}
use Rattle.text.specs.Words.{Part, words}
use Rattle.text.specs.Lines.{shown}

-- whether the first word is this one
abbrev pub first_is : List ℕ → List Part → Bool
first_is w [] = false
first_is w (p ∷ ps) = bytes_eq p.bytes w

-- the same of a line, whatever else is wrong with it: words stand in it before its comment
abbrev pub opens_with_lem : Rules → List ℕ → List ℕ → Bool
opens_with_lem k w l = first_is w (words k 1 0 (shown l))

-- how many bytes these lines have through the first that w opens, with the byte 10 behind each
abbrev pub through : Rules → List ℕ → List (List ℕ) → ℕ
through k w [] = 0
through k w (l ∷ ls) = length l + 1 + cond (opens_with_lem k w l) 0 (through k w ls)
