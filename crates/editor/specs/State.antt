-- What clauses see of an editor.
use Rattle.std.specs.Prelude.{ℕ, ◌<◌, List}
use Rattle.words.specs.Meaning.{Meaning, Lent}
use Rattle.board.specs.Stored.{Stored}
use Rattle.editor.specs.Log.{Entry, Led}

-- M, what the store means and what the host has lent it, and the loop that is shown
pub record State : Type 0 where
  pub signals : ℕ
  pub words : Meaning
  pub lent : Lent
  pub shown : List ℕ

-- an editor over a board
abbrev pub state_of : Stored → List ℕ → State
state_of b shown = record { signals = b.signals; words = b.words; lent = b.lent; shown = shown }

-- Calls led to what the store of an editor with signals means.
abbrev pub Reached : ℕ → Meaning → Type 0
Reached m a = 0 < m → (log : List Entry) × Led m log a
