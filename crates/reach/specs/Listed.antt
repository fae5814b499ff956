-- What a queue of numbers found holds.
use Rattle.std.specs.Prelude.{◌≡◌, ℕ, List, [], ◌∷◌, ◌++◌, fold, Option, Some, None, slice_index_or}
use Rattle.reach.specs.declared.queue.Found.{Found}
use Rattle.reach.specs.declared.queue.Queue.{Queue}
use Rattle.reach.specs.declared.path.Path.{Path}

-- The trail at the place of a teller. What none told has nothing behind it.
abbrev pub told_by : Option ℕ → List (List ℕ) → List ℕ
told_by None found = []
told_by (Some place) found = slice_index_or found place []

-- The trails, and behind them that of one number more.
abbrev pub with_trail : List (List ℕ) → Found → List (List ℕ)
with_trail found new = found ++ (new.number ∷ told_by new.teller found) ∷ []

-- The trails of numbers found, behind those of others.
unfoldable pub trails : List (List ℕ) → List Found → List (List ℕ)
trails before found = fold with_trail before found

abbrev pub listed : Queue → List (List ℕ)
listed queue = trails [] queue.found.items

-- A trail ends at a number.
pub record HeadOf (trail : List ℕ) (number : ℕ) : Type 0 where
  pub behind : List ℕ
  pub is : trail ≡ number ∷ behind

-- The numbers on a path, from its first to its last.
abbrev pub along : Path → List ℕ
along path = path.numbers.items
