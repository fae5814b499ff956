-- What is written is read back.
use Rattle.std.specs.Prelude.{◌≡◌, ℕ, ◌+◌, ◌*◌, ◌≤◌, ◌⊎◌, true, List, [], map, length, codes, take, Ok, Err, Result, IsOk}
use Rattle.std.specs.List.{list_all}
use Rattle.words.specs.Meaning.{levels}
use Rattle.netlist.specs.Netlist.{Netlist}
use Rattle.netlist.specs.Places.{Order, Arranges, Ordered}
use Rattle.board.specs.Board.{netlist_of}
use Rattle.text.specs.Rules.{file_rules}
use Rattle.names.specs.Names.{Apart}
use Rattle.editor.specs.State.{State as EditorState}
use Rattle.editor.specs.Steps.{InOrder}
use Rattle.desk.specs.State.{State}
use Rattle.blif.specs.declared.fault.FileFault.{FileFault}
use Rattle.blif.specs.declared.fault.FileFault.TheVariants as file_fault
use Rattle.blif.specs.declared.fault.WriteFault.{WriteFault}
use Rattle.blif.specs.Statement.{Name, is_name}
use Rattle.blif.specs.Description.{SameByName}
use Rattle.blif.specs.Rows.{words_of, all_rows}
use Rattle.blif.specs.Below.{GatesBelowFeeders}
use Rattle.blif.specs.File.{Met, Due}
use Rattle.blif.specs.Promises.{ReadsText, netlist_at, Writes}
use Rattle.blif.specs.Written.{Writable, Nameable, file_of}
use Rattle.blif.specs.Outcome.{Ready}

-- A netlist that is whole, has no loop and has a word for the name of each signal that is driven.
pub record Exportable (m : ℕ) (model : Name) (ns : List Name) (n : Netlist) (o : Order) : Type 0 where
  pub model_word : is_name model ≡ true
  pub writable : Writable m ns n o
  pub nameable : Nameable ns n
  pub arranges : Arranges m o
  pub ordered : Ordered n o

-- The written text, read into an editor of as many signals that has none driven, with a new name table, gives
-- the same model name and the same netlist by names, unless memory runs out.
abbrev pub RoundTrip : Type 0
RoundTrip =
    (limit : ℕ) (model : Name) (ns : List Name) (n : Netlist) (o : Order) (d d' : State) (t t' : Met)
    (r : Result ℕ FileFault)
    → Exportable d.editor.signals model ns n o → Ready d t → t.signals ≡ []
    → Due d.editor.signals (levels d.editor.words) limit (netlist_at d) (file_of model d.editor.signals ns n o)
    → ReadsText limit (file_of model d.editor.signals ns n o) d t d' t' r
    → (r ≡ Err file_fault.Memory)
    ⊎ (IsOk r × (t'.model ≡ model)
    × SameByName ns n t'.signals (netlist_of d.editor.signals d'.editor.words.image))

-- No file is longer: 467,006 bytes for 1,024 signals, and 27,422 for 60.
abbrev pub WrittenIsShort : Type 0
WrittenIsShort = (m : ℕ) (model : Name) (ns : List Name) (n : Netlist) (o : Order) → Exportable m model ns n o
    → length (file_of model m ns n o) ≤ 456 * m + 62

-- ---- what a write has written

-- names that can be read back: all are words of a file
pub record Readable (t : Met) : Type 0 where
  pub words : list_all is_name t.signals ≡ true
  pub model : is_name t.model ≡ true

-- A read keeps such names, whatever it replies, and a new table has none but such.
abbrev pub ReadsKeepNames : Type 0
ReadsKeepNames =
    (limit : ℕ) (text : List ℕ) (d d' : State) (t t' : Met) (r : Result ℕ FileFault) → limit ≤ 1048576
    → ReadsText limit text d t d' t' r
    → Readable t → Readable t'

abbrev pub NewNamesReadable : Type 0
NewNamesReadable = Readable (record { model = codes "top"; signals = [] })

-- Read into an editor of as many signals that has none driven, with a new name table, it gives the same model
-- name and the same netlist, name by name, unless memory runs out.
abbrev pub ReadsBack : EditorState → Met → List ℕ → Result ℕ WriteFault → Type 0
ReadsBack e t buffer' (Ok long) =
    (limit : ℕ) (d d' : State) (s s' : Met) (r : Result ℕ FileFault) → Readable t → d.editor.signals ≡ e.signals
    → InOrder d.editor.signals d.editor.words → s.signals ≡ []
    → Due d.editor.signals (levels d.editor.words) limit (netlist_at d) (take long buffer')
    → ReadsText limit (take long buffer') d s d' s' r
    → (r ≡ Err file_fault.Memory)
    ⊎ (IsOk r × (s'.model ≡ t.model)
    × SameByName t.signals (netlist_of e.signals e.words.image) s'.signals (netlist_of d.editor.signals d'.editor.words.image))
ReadsBack e t buffer' (Err f) = Unit {0}

-- In its lines each gate stands below the gates that feed it.
abbrev pub OrdersGates : Met → List ℕ → Result ℕ WriteFault → Type 0
OrdersGates t buffer' (Ok long) = Readable t
    → GatesBelowFeeders (map words_of (all_rows file_rules (take long buffer')))
OrdersGates t buffer' (Err f) = Unit {0}

-- Written again, into whatever buffer, it is the same.
abbrev pub SameAgain : EditorState → Met → List ℕ → Result ℕ WriteFault → Type 0
SameAgain e t buffer' (Ok long) =
    (other other' : List ℕ) (long' : ℕ) → Writes e t other other' (Ok long') → (long' ≡ long)
    × (take long' other' ≡ take long buffer')
SameAgain e t buffer' (Err f) = Unit {0}

-- An editor's netlist and order are right, whoever has made it, and of the names none stands twice.
abbrev pub WritesReadBack : Type 0
WritesReadBack =
    (e : EditorState) (t : Met) (buffer buffer' : List ℕ) (r : Result ℕ WriteFault) → InOrder e.signals e.words
    → Apart t.signals → Writes e t buffer buffer' r
    → ReadsBack e t buffer' r × OrdersGates t buffer' r × SameAgain e t buffer' r
