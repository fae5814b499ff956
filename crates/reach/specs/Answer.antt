-- What a search promises, of the relation that `next` tells and a start.
use Rattle.std.specs.Prelude.{◌≡◌, ℕ, ◌<◌, List, [], replicate, IfSome, Option, MatchOption, Result, Ok, Err, ◌≢◌, slice_index}
use Rattle.reach.specs.declared.path.Path.{Path}
use Rattle.reach.specs.Listed.{along}
use Rattle.reach.specs.Reach.{Reach, Way}
use Rattle.reach.specs.Order.{order, shown}
use Rattle.reach.specs.Flags.{marked}
use Rattle.reach.specs.Steps.{Stand}

-- A flag is set if and only if its number is reached from the start.
pub record Flagged (next : ℕ → List ℕ) (start : ℕ) (flags : List ℕ) : Type 0 where
  pub sound : (y : ℕ) → y < 1024 → (slice_index flags y ≢ 0) → Reach next start y
  pub whole : (y : ℕ) → Reach next start y → slice_index flags y ≡ 1

-- The flags and the trails are those of the whole search from the start.
pub record Searched (next : ℕ → List ℕ) (start : ℕ) (flags : List ℕ) (found : List (List ℕ)) : Type 0 where
  pub stand : Stand flags found
  pub all : found ≡ order next start

-- A way from the start to a number: the one that is shown every time.
pub record Shown (next : ℕ → List ℕ) (start number : ℕ) (way : List ℕ) : Type 0 where
  pub reached : Reach next start number
  pub leads : Way next start number way
  pub same : way ≡ shown next start number

-- The path to a number, where the trails are those of a search.
abbrev pub PathTo : ℕ → List (List ℕ) → Option Path → Type 0
PathTo number found r =
    (next : ℕ → List ℕ) (start : ℕ) (flags : List ℕ) → Searched next start flags found →
    MatchOption r (Reach next start number → ⊥) (λ path. Shown next start number (along path))

-- A search that ran to its end: every number that is reached is flagged, and no other; they are counted, and the number looked for is none of them.
pub record Whole (next : ℕ → List ℕ) (start : ℕ) (sought : Option ℕ) (flags : List ℕ) (found : List (List ℕ)) (count : ℕ) : Type 0 where
  pub searched : Searched next start flags found
  pub flagged : Flagged next start flags
  pub counted : count ≡ marked flags
  pub missed : IfSome sought (λ x. Reach next start x → ⊥)

-- What a search answers. Where the number looked for is met, a way to it is shown, and the guard is as new.
abbrev pub Answers : (ℕ → List ℕ) → ℕ → Option ℕ → List ℕ → List (List ℕ) → Result ℕ Path → Type 0
Answers next start sought flags found (Err path) = MatchOption sought ⊥ (λ x. Shown next start x (along path)) × (flags ≡ replicate 1024 0) × (found ≡ [])
Answers next start sought flags found (Ok count) = Whole next start sought flags found count

-- Equal relations give equal answers: the same trails in the same order, so the same flags, count and ways.
abbrev pub Determined : Type 0
Determined =
    (next other : ℕ → List ℕ) → ((x : ℕ) → next x ≡ other x) → (start : ℕ) →
    (order next start ≡ order other start) × ((y : ℕ) → shown next start y ≡ shown other start y)
