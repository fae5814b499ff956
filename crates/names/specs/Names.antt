-- Names, by number.
use Rattle.std.specs.Prelude.{◌≡◌, ℕ, suc, ◌<◌, Bool, false, cond, List, [], ◌∷◌, ◌++◌, map, length, is_some, Some, None, vec_items, Option, Vec, nat_lt, slice_index_or}
use Rattle.std.specs.List.{list_all}
use Rattle.std.specs.Str.{bytes_eq as same_text}
use Rattle.std.specs.Option.{option_map}
use Rattle.std.specs.declared.alloc.Global.{Global}
use Rattle.text.specs.declared.words.Word.{Word}

-- the number of a name: the place where it stands first
abbrev pub position : List (List ℕ) → List ℕ → Option ℕ
position [] q = None
position (n ∷ ns) q = cond (same_text q n) (Some 0) (option_map suc (position ns q))

-- each name's number is its place, so that no name stands twice
abbrev pub Apart : List (List ℕ) → Type 0
Apart ns = (i : ℕ) → i < length ns → position ns (slice_index_or ns i []) ≡ Some i

-- what has a number keeps it
abbrev pub Stays : List (List ℕ) → List (List ℕ) → Type 0
Stays ns new = (q : List ℕ) (i : ℕ) → position ns q ≡ Some i → position new q ≡ Some i

-- a name that is new goes to the end
abbrev pub added : List (List ℕ) → List ℕ → List (List ℕ)
added ns q = cond (is_some (position ns q)) ns (ns ++ q ∷ [])

-- the names of a line, in turn
abbrev pub entered : List (List ℕ) → List (List ℕ) → List (List ℕ)
entered ns [] = ns
entered ns (w ∷ ws) = entered (added ns w) ws

-- there is a number, and it is below m
abbrev pub below : ℕ → Option ℕ → Bool
below m None = false
below m (Some i) = nat_lt i m

-- each name of the line has a number below m once all are entered
abbrev pub fits : ℕ → List (List ℕ) → List (List ℕ) → Bool
fits m ns ws = list_all (λ w. below m (position (entered ns ws) w)) ws

-- the bytes of the words of a line
abbrev pub spellings : List Word → List (List ℕ)
spellings ws = map (λ w. w.bytes.now) ws

-- the names that vectors of bytes hold
abbrev pub listed : Vec (Vec ℕ Global) Global → List (List ℕ)
listed v = map vec_items (vec_items v)
