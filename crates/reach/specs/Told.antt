-- Who told the numbers that a queue holds.
use Rattle.std.specs.Prelude.{ℕ, ◌<◌, List, length, slice_index_or}
use Rattle.std.specs.Option.{ForSome}
use Rattle.reach.specs.declared.queue.Found.{Found}

-- A number is told by one at an earlier place, or by none.
abbrev pub Earlier : List Found → Type 0
Earlier found = (place : ℕ) (d : Found) → place < length found → ForSome (slice_index_or found place d).teller (λ teller. teller < place)
