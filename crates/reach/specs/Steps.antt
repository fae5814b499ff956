-- What a search keeps from step to step.
use Rattle.std.specs.Prelude.{◌≡◌, ℕ, ◌+◌, ◌<◌, ◌≤◌, true, cond, List, [], ◌∷◌, ◌++◌, length, IfSome, Option, MatchOption, nat_lt, slice_index, slice_index_or}
use Rattle.reach.specs.Order.{is_new, hear, rounds, order, More}
use Rattle.reach.specs.Flags.{zeros}

-- The flags tell what is found: a flag is 1 where its number is found and 0 where it is new, and as many are set as there are trails.
pub record Stand (flags : List ℕ) (found : List (List ℕ)) : Type 0 where
  pub long : length flags ≡ 1024
  pub marks : (y : ℕ) → y < 1024 → slice_index flags y ≡ cond (is_new y found) 0 1
  pub room : length found + zeros flags ≡ 1024

-- The number looked for is not among what is found, or none is looked for.
abbrev pub Unmet : Option ℕ → List (List ℕ) → Type 0
Unmet sought found = IfSome sought (λ x. is_new x found ≡ nat_lt x 1024)

-- A number is the newest that is found.
pub record Newest (x : ℕ) (found : List (List ℕ)) : Type 0 where
  pub before : List (List ℕ)
  pub trail : List ℕ
  pub is : found ≡ before ++ (x ∷ trail) ∷ []
  pub new : is_new x before ≡ true

-- A number is looked for, and was found just now.
abbrev pub Met : Option ℕ → List (List ℕ) → Type 0
Met sought found = MatchOption sought ⊥ (λ x. Newest x found)

-- The flags tell what is found, and the number looked for is not among it.
pub record Kept (sought : Option ℕ) (flags : List ℕ) (found : List (List ℕ)) : Type 0 where
  pub stand : Stand flags found
  pub unmet : Unmet sought found

-- So many of the numbers that are found have told what follows them.
pub record Round (next : ℕ → List ℕ) (start : ℕ) (n : ℕ) (found : List (List ℕ)) : Type 0 where
  pub is : found ≡ rounds next start n
  pub few : n ≤ 1024

-- The number at a place is telling: what it has still to tell completes its round.
pub record Telling (next : ℕ → List ℕ) (start place : ℕ) (rest : List ℕ) (found : List (List ℕ)) : Type 0 where
  pub within : place < length found
  pub left : hear (slice_index_or found place []) rest found ≡ rounds next start (place + 1)
  pub few : place < 1024

-- The number looked for was found just now; what is found so far is the beginning of all that is found.
pub record Arrived (next : ℕ → List ℕ) (start : ℕ) (sought : Option ℕ) (found : List (List ℕ)) : Type 0 where
  pub met : Met sought found
  pub more : More found (order next start)
  pub few : length found ≤ 1024
