-- What is written where a pin enters a chain or leaves it. A link is 0, or one more than the number of a pin.
use Rattle.std.specs.Prelude.{ℕ, zero, suc, ◌+◌, ◌*◌, List, slice_set}
use Rattle.words.specs.Meaning.{Meaning}

-- other words in a store, and nothing else changed
abbrev pub changed : Meaning → List ℕ → Meaning
changed before image = record { limit = before.limit; image = image; saved = before.saved }

-- the word that tells what comes after a link in the chain of signal a: the first pin on a, or the next one after a pin
abbrev pub onward_at : ℕ → ℕ → ℕ → ℕ
onward_at m a zero = 5 * m + a
onward_at m a (suc p) = 10 * m + p

-- the pin at a link, if there is one, tells the link before it
abbrev pub backed : ℕ → List ℕ → ℕ → ℕ → List ℕ
backed m ws zero link = ws
backed m ws (suc p) link = slice_set ws (14 * m + p) link

-- between two neighbours in the chain of a, the first leads onward to a link and the second leads back to one
abbrev pub joined : ℕ → List ℕ → ℕ → ℕ → ℕ → ℕ → ℕ → List ℕ
joined m ws a before behind onward back = backed m (slice_set ws (onward_at m a before) onward) behind back

-- pin q stands on a, between its neighbours
abbrev pub inserted : ℕ → List ℕ → ℕ → ℕ → ℕ → ℕ → List ℕ
inserted m ws q a before behind =
    joined m (slice_set (slice_set (slice_set ws (6 * m + q) (suc a)) (10 * m + q) behind) (14 * m + q) before) a before behind (suc q) (suc q)

-- pin q is on nothing, and its neighbours lead to each other
abbrev pub removed : ℕ → List ℕ → ℕ → ℕ → ℕ → ℕ → List ℕ
removed m ws q a before behind = joined m (slice_set ws (6 * m + q) 0) a before behind behind before
