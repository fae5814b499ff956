-- What a store of words means, and what each call makes of that.
use Rattle.std.specs.Prelude.{◌≡◌, ℕ, ◌<◌, ◌≤◌, List, [], ◌∷◌, length, drop, Some, None, Ok, Err, Option, Result, slice_index, slice_set}
use Rattle.words.specs.declared.store.StoreRefusal.{StoreRefusal}
use Rattle.words.specs.Refusals.{number}

-- The level limit D, the present image (its N words), and the images saved by the open levels, the newest first.
pub record Meaning : Type 0 where
  pub limit : ℕ
  pub image : List ℕ
  pub saved : List (List ℕ)

-- Memory that a host lends: the ghost name by which the host has it back, and what lies behind the words that the store needs.
pub record Lent : Type 0 where
  pub lender : ℕ
  pub behind : List ℕ

-- N and the number of open levels
abbrev pub size : Meaning → ℕ
size m = length m.image

abbrev pub levels : Meaning → ℕ
levels m = length m.saved

-- the newest image of a pile
abbrev pub newest : List (List ℕ) → List ℕ
newest [] = []
newest (image ∷ older) = image

-- ---- what a call that is not refused leaves

abbrev pub wrote : Meaning → ℕ → ℕ → Meaning
wrote m at w = record { limit = m.limit; image = slice_set m.image at w; saved = m.saved }

abbrev pub opened : Meaning → Meaning
opened m = record { limit = m.limit; image = m.image; saved = m.image ∷ m.saved }

abbrev pub kept : Meaning → Meaning
kept m = record { limit = m.limit; image = m.image; saved = drop 1 m.saved }

abbrev pub dropped : Meaning → Meaning
dropped m = record { limit = m.limit; image = newest m.saved; saved = drop 1 m.saved }

-- ---- the calls: the meaning before, the meaning after, the arguments, the reply

-- a word, or nothing exactly when the number is not below N
abbrev pub Tells : Meaning → ℕ → Option ℕ → Type 0
Tells m at None = size m ≤ at
Tells m at (Some w) = (at < size m) × (w ≡ slice_index m.image at)

-- refused with 2 exactly when the number is not below N; N stays
abbrev pub Sets : Meaning → Meaning → ℕ → ℕ → Result (Unit {0}) StoreRefusal → Type 0
Sets m m' at w (Ok _) = (at < size m) × (m' ≡ wrote m at w) × (size m' ≡ size m)
Sets m m' at w (Err e) = (number e ≡ 2) × (size m ≤ at) × (m' ≡ m)

-- refused with 3 exactly when D levels are open
abbrev pub Opens : Meaning → Meaning → Result (Unit {0}) StoreRefusal → Type 0
Opens m m' (Ok _) = (levels m < m.limit) × (m' ≡ opened m)
Opens m m' (Err e) = (number e ≡ 3) × (levels m ≡ m.limit) × (m' ≡ m)

-- refused with 4 exactly when no level is open
abbrev pub Keeps : Meaning → Meaning → Result (Unit {0}) StoreRefusal → Type 0
Keeps m m' (Ok _) = (0 < levels m) × (m' ≡ kept m)
Keeps m m' (Err e) = (number e ≡ 4) × (levels m ≡ 0) × (m' ≡ m)

-- likewise; N stays
abbrev pub Drops : Meaning → Meaning → Result (Unit {0}) StoreRefusal → Type 0
Drops m m' (Ok _) = (0 < levels m) × (m' ≡ dropped m) × (size m' ≡ size m)
Drops m m' (Err e) = (number e ≡ 4) × (levels m ≡ 0) × (m' ≡ m)
