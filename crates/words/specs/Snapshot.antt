-- What a snapshot's memory means: the image, and behind it a part of n words for each level.
use Rattle.std.specs.Prelude.{ℕ, zero, suc, ◌+◌, ◌*◌, ◌/◌, min, List, [], ◌∷◌, length, take, drop}
use Rattle.words.specs.Meaning.{Meaning, Lent}

-- the image saved by a level
abbrev pub part : List ℕ → ℕ → ℕ → List ℕ
part ws n level = take n (drop ((level + 1) * n) ws)

-- the images of the first levels, the newest first
abbrev pub parts : List ℕ → ℕ → ℕ → List (List ℕ)
parts ws n zero = []
parts ws n (suc level) = part ws n level ∷ parts ws n level

-- N: never more than there is memory for
abbrev pub width : ℕ → ℕ → ℕ → ℕ
width long n d = min n (long / (d + 1))

abbrev pub snapshot_meaning : List ℕ → ℕ → ℕ → ℕ → Meaning
snapshot_meaning ws n d k = record { limit = d; image = take (width (length ws) n d) ws; saved = parts ws (width (length ws) n d) (min k d) }

abbrev pub snapshot_lent : ℕ → List ℕ → ℕ → ℕ → Lent
snapshot_lent lender ws n d = record { lender = lender; behind = drop (width (length ws) n d * (d + 1)) ws }
