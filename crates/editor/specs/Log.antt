-- Logs of calls, which edits of them survive, and what a log that led somewhere says of the store.
use Rattle.std.specs.Prelude.{ℕ, ◌<◌, ◌≤◌, List, [], ◌∷◌, ◌++◌, length, take, drop, Ok, Err, Result}
use Rattle.words.specs.Meaning.{Meaning, levels}
use Rattle.netlist.specs.declared.edit.Edit.{Edit}
use Rattle.netlist.specs.declared.edit.Refusal.{Refusal}
use Rattle.netlist.specs.Netlist.{Whole}
use Rattle.netlist.specs.Edits.{Board, empty_board, Edits}
use Rattle.board.specs.Board.{board_of, netlist_of}
use Rattle.board.specs.Standing.{Stands}
use Rattle.editor.specs.declared.call.Call.{Call}
use Rattle.editor.specs.declared.call.Call.TheVariants.{Begin, Mark, KeepMark, DropMark, Keep, Drop, Make}
use Rattle.editor.specs.Calls.{oldest}

-- a call, and what was replied
pub record Entry : Type 0 where
  pub call : Call
  pub reply : Result ℕ Refusal

-- the edits that survive so far, and for each open level how many there were when it was opened, the newest first
pub record Tally : Type 0 where
  pub edits : List Edit
  pub notes : List ℕ

-- the edits cut to the newest note, and to the oldest
abbrev pub cut : List ℕ → List Edit → List Edit
cut [] edits = edits
cut (note ∷ notes) edits = take note edits

abbrev pub cut_all : List ℕ → List Edit → List Edit
cut_all [] edits = edits
cut_all (note ∷ []) edits = take note edits
cut_all (note ∷ (older ∷ notes)) edits = cut_all (older ∷ notes) edits

-- an accepted call
abbrev pub counts : Tally → Call → Tally
counts t Begin = record { edits = t.edits; notes = length t.edits ∷ t.notes }
counts t Mark = record { edits = t.edits; notes = length t.edits ∷ t.notes }
counts t KeepMark = record { edits = t.edits; notes = drop 1 t.notes }
counts t DropMark = record { edits = cut t.notes t.edits; notes = drop 1 t.notes }
counts t Keep = record { edits = t.edits; notes = drop 1 t.notes }
counts t Drop = record { edits = cut_all t.notes t.edits; notes = [] }
counts t (Make e) = record { edits = t.edits ++ e ∷ []; notes = t.notes }

-- a refused call does nothing
abbrev pub heard : Tally → Call → Result ℕ Refusal → Tally
heard t c (Ok count) = counts t c
heard t c (Err r) = t

abbrev pub tally_from : Tally → List Entry → Tally
tally_from t [] = t
tally_from t (x ∷ log) = tally_from (heard t x.call x.reply) log

abbrev pub tally : List Entry → Tally
tally log = tally_from (record { edits = []; notes = [] }) log

-- the board that edits give, made in turn on the empty board in a batch
pub data Gives (m : ℕ) : List Edit → Board → Type 0 where
  none : Gives m [] (empty_board m)
  more : {edits : List Edit} {b b' : Board} {e : Edit} (count : ℕ) → Gives m edits b → Edits m 1 b e b' (Ok count) → Gives m (edits ++ e ∷ []) b'

-- words that hold what edits give, in order
pub record Holds (m : ℕ) (edits : List Edit) (ws : List ℕ) : Type 0 where
  pub stands : Stands m ws
  pub gives : Gives m edits (board_of m ws)

-- the image saved by each open level holds what the edits up to its note give
abbrev pub HoldsSaved : ℕ → List Edit → List ℕ → List (List ℕ) → Type 0
HoldsSaved m edits [] [] = Unit {0}
HoldsSaved m edits [] (ws ∷ saved) = ⊥
HoldsSaved m edits (note ∷ notes) [] = ⊥
HoldsSaved m edits (note ∷ notes) (ws ∷ saved) = (note ≤ length edits) × Holds m (take note edits) ws × HoldsSaved m (take note edits) notes saved

-- A log of calls led to this meaning of the store: the present image holds what the surviving edits give, and so does each saved one up to its note. One level is always left, and outside a batch the netlist is whole.
pub record Led (m : ℕ) (log : List Entry) (a : Meaning) : Type 0 where
  pub some : 0 < m
  pub few : m ≤ 1024
  pub two : 2 ≤ a.limit
  pub room : levels a < a.limit
  pub present : Holds m (tally log).edits a.image
  pub saved : HoldsSaved m (tally log).edits (tally log).notes a.saved
  pub whole : Whole (netlist_of m (oldest a.image a.saved))
