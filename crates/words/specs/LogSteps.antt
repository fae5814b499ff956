-- What the steps of an inverse log's calls speak of.
use Rattle.std.specs.Prelude.{◌≡◌, ℕ, ◌-◌, ◌<◌, List, length, slice_index}
use Rattle.words.specs.declared.inverse_log.InverseLog.{InverseLog}
use Rattle.words.specs.Meaning.{Meaning, Lent}
use Rattle.words.specs.InverseLog.{log_meaning, log_lent, undo, HasNoted, Notes}

abbrev pub meaning_of : InverseLog → Meaning
meaning_of log = log_meaning log.words.now log.shape.size log.shape.limit (length log.noted.items) log.noted.items

-- the same without the newest level
abbrev pub meaning_below : InverseLog → Meaning
meaning_below log = log_meaning log.words.now log.shape.size log.shape.limit (length log.noted.items - 1) log.noted.items

abbrev pub lent_of : InverseLog → Lent
lent_of log = log_lent log.words.ghost_name log.words.now log.shape.size log.shape.limit

-- a level is open
abbrev pub IsOpen : InverseLog → ℕ → Type 0
IsOpen log level = level < length log.noted.items

-- an open level has noted a word
abbrev pub HasNotedWord : InverseLog → ℕ → ℕ → Type 0
HasNotedWord log level at = HasNoted log.words.now log.shape.size level (slice_index log.noted.items level) at

-- an image with what a level has noted taken back
abbrev pub undone : InverseLog → ℕ → List ℕ → List ℕ
undone log level image = undo log.words.now log.shape.size level (slice_index log.noted.items level) image

-- Everything is as it was but for the notes of one level, which now take back `first` more before what they took back.
abbrev pub Noted : ℕ → (List ℕ → List ℕ) → InverseLog → InverseLog → Type 0
Noted level first before after =
    Notes before.shape.size before.shape.limit level first before.words.now before.noted.items after.words.now after.noted.items

-- N, D and the number of open levels stay, and of the memory that is lent what the log never writes.
pub record Stays (before after : InverseLog) : Type 0 where
  pub shape : after.shape ≡ before.shape
  pub depth : length after.noted.items ≡ length before.noted.items
  pub lent : lent_of after ≡ lent_of before
