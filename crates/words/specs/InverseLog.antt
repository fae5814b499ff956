-- What an inverse log's memory means. It is cut into blocks of n words: the present image, and for each level three more. There the level
-- lists the words that it has noted, in the order in which it noted them, with the value that each had; and for each word of the store,
-- at which place of that list it stands, if it does.
use Rattle.std.specs.Prelude.{◌≡◌, ℕ, zero, suc, ◌+◌, ◌*◌, ◌<◌, ◌≢◌, List, [], ◌∷◌, length, take, drop, slice_index, slice_set}
use Rattle.words.specs.Meaning.{Meaning, Lent}

-- word i of a block
abbrev pub cell : List ℕ → ℕ → ℕ → ℕ → ℕ
cell ws n block i = slice_index ws (block * n + i)

-- the word that a level noted at place i, the value that it had, and the place at which a word is noted
abbrev pub word_at : List ℕ → ℕ → ℕ → ℕ → ℕ
word_at ws n level i = cell ws n (3 * level + 1) i

abbrev pub value_at : List ℕ → ℕ → ℕ → ℕ → ℕ
value_at ws n level i = cell ws n (3 * level + 2) i

abbrev pub place_of : List ℕ → ℕ → ℕ → ℕ → ℕ
place_of ws n level w = cell ws n (3 * level + 3) w

-- the first notes of a level taken back, the newest first
abbrev pub undo : List ℕ → ℕ → ℕ → ℕ → List ℕ → List ℕ
undo ws n level zero image = image
undo ws n level (suc i) image = undo ws n level i (slice_set image (word_at ws n level i) (value_at ws n level i))

-- the images that the levels saved, the newest first: each is the one above it with its level's notes taken back
abbrev pub pile : List ℕ → ℕ → List ℕ → ℕ → List ℕ → List (List ℕ)
pile ws n noted zero image = []
pile ws n noted (suc level) image =
    undo ws n level (slice_index noted level) image ∷ pile ws n noted level (undo ws n level (slice_index noted level) image)

abbrev pub log_meaning : List ℕ → ℕ → ℕ → ℕ → List ℕ → Meaning
log_meaning ws n d k noted = record { limit = d; image = take n ws; saved = pile ws n noted k (take n ws) }

abbrev pub log_lent : ℕ → List ℕ → ℕ → ℕ → Lent
log_lent lender ws n d = record { lender = lender; behind = drop (n * (3 * d + 2)) ws }

-- an open level has a note at a place
abbrev pub NoteAt : ℕ → List ℕ → ℕ → ℕ → Type 0
NoteAt k noted level i = (level < k) × (i < slice_index noted level)

-- Each note of an open level is of a word of the store, and that word knows its place; so no word is noted twice in a level.
abbrev pub Within : List ℕ → ℕ → ℕ → List ℕ → Type 0
Within ws n k noted = (level i : ℕ) → NoteAt k noted level i → word_at ws n level i < n

abbrev pub Placed : List ℕ → ℕ → ℕ → List ℕ → Type 0
Placed ws n k noted = (level i : ℕ) → NoteAt k noted level i → place_of ws n level (word_at ws n level i) ≡ i

-- a level has noted a word
abbrev pub HasNoted : List ℕ → ℕ → ℕ → ℕ → ℕ → Type 0
HasNoted ws n level count w = (i : ℕ) × (i < count) × (word_at ws n level i ≡ w)

-- Everything is as it was but for the notes of one level, which now take back `first` more before what they took back.
pub record Notes (n d level : ℕ) (first : List ℕ → List ℕ) (ws noted ws' noted' : List ℕ) : Type 0 where
  pub image : take n ws' ≡ take n ws
  pub behind : drop (n * (3 * d + 2)) ws' ≡ drop (n * (3 * d + 2)) ws
  pub undone : (image : List ℕ) → undo ws' n level (slice_index noted' level) image ≡ undo ws n level (slice_index noted level) (first image)
  pub words : (other i : ℕ) → other ≢ level → i < n → word_at ws' n other i ≡ word_at ws n other i
  pub values : (other i : ℕ) → other ≢ level → i < n → value_at ws' n other i ≡ value_at ws n other i
  pub depth : length noted' ≡ length noted
  pub counts : (other : ℕ) → other ≢ level → slice_index noted' other ≡ slice_index noted other
