-- In which order the numbers are found, and by which way: so that the answer is one and the same every time.
--
-- A trail is a number that was found, then the one that told it, and so on back to the start.
use Rattle.std.specs.Prelude.{◌≡◌, ℕ, zero, suc, Bool, false, cond, List, [], ◌∷◌, ◌++◌, reverse, ◌==◌, nat_lt, slice_index_or}

-- A number is new if it is below 1,024 and no trail ends at it.
unfoldable pub is_new : ℕ → List (List ℕ) → Bool
is_new y [] = nat_lt y 1024
is_new y ([] ∷ found) = is_new y found
is_new y ((x ∷ trail) ∷ found) = cond (x == y) false (is_new y found)

-- What is found once the end of a trail has told the numbers ys, one after the other: each that is new gets the trail that it was told by.
unfoldable pub hear : List ℕ → List ℕ → List (List ℕ) → List (List ℕ)
hear trail [] found = found
hear trail (y ∷ ys) found = hear trail ys (cond (is_new y found) (found ++ (y ∷ trail) ∷ []) found)

-- The end of a trail tells the numbers that follow it.
unfoldable pub tell : (ℕ → List ℕ) → List ℕ → List (List ℕ) → List (List ℕ)
tell next [] found = found
tell next (x ∷ trail) found = hear (x ∷ trail) (next x) found

-- What is found once the first n that were found have told what follows them. The start is told by none.
unfoldable pub rounds : (ℕ → List ℕ) → ℕ → ℕ → List (List ℕ)
rounds next start zero = hear [] (start ∷ []) []
rounds next start (suc n) = tell next (slice_index_or (rounds next start n) n []) (rounds next start n)

-- All that is found, in its order: there are at most 1,024 numbers to tell.
unfoldable pub order : (ℕ → List ℕ) → ℕ → List (List ℕ)
order next start = rounds next start 1024

-- The trail at a number.
unfoldable pub trail_at : ℕ → List (List ℕ) → List ℕ
trail_at y [] = []
trail_at y ([] ∷ found) = trail_at y found
trail_at y ((x ∷ trail) ∷ found) = cond (x == y) (x ∷ trail) (trail_at y found)

-- The way that is shown from the start to a number.
unfoldable pub shown : (ℕ → List ℕ) → ℕ → ℕ → List ℕ
shown next start y = reverse (trail_at y (order next start))

-- All that is found begins with what was found so far.
pub record More (found all : List (List ℕ)) : Type 0 where
  pub more : List (List ℕ)
  pub is : all ≡ found ++ more
