-- What a read and a write promise.
use Rattle.std.specs.Prelude.{◌≡◌, ℕ, ◌<◌, ◌≤◌, ◌⊎◌, List, ◌++◌, length, drop, Some, None, Ok, Err, Option, Result, IsOk, ◌≢◌}
use Rattle.words.specs.Meaning.{levels}
use Rattle.netlist.specs.Netlist.{Netlist, absent, driver_of}
use Rattle.netlist.specs.Places.{Order}
use Rattle.board.specs.Board.{board_of, netlist_of, order_of}
use Rattle.editor.specs.Log.{Entry}
use Rattle.editor.specs.State.{State as EditorState}
use Rattle.desk.specs.State.{State}
use Rattle.blif.specs.declared.fault.FileFault.{FileFault}
use Rattle.blif.specs.declared.fault.FileFault.TheVariants as file_fault
use Rattle.blif.specs.declared.fault.WriteFault.{WriteFault}
use Rattle.blif.specs.declared.fault.WriteFault.TheVariants as write_fault
use Rattle.blif.specs.Statement.{Name}
use Rattle.blif.specs.Description.{Claim, SameByName}
use Rattle.blif.specs.File.{Met, Due, Reads}
use Rattle.blif.specs.Reading.{Says, Stated, Gives}
use Rattle.blif.specs.Chain.{Chain}
use Rattle.blif.specs.Written.{file_of}

-- ---- a read

-- the netlist of an editor, and its order
abbrev pub netlist_in : EditorState → Netlist
netlist_in e = netlist_of e.signals e.words.image

abbrev pub order_in : EditorState → Order
order_in e = order_of e.signals e.words.image

-- the netlist of the editor at a desk
abbrev pub netlist_at : State → Netlist
netlist_at d = netlist_in d.editor

-- its calls, its reply, and the names that it has met
abbrev pub ReadsText : ℕ → List ℕ → State → Met → State → Met → Result ℕ FileFault → Type 0
ReadsText limit text d t d' t' r =
    (opening : List Entry) × (closing : List Entry) × (last : State) × Chain d opening last × Chain last closing d'
    × Reads d.editor.signals (levels d.editor.words) limit (netlist_at d) text t
    (netlist_of d.editor.signals last.editor.words.image) opening closing t' r

-- Accepted, it gives the netlist that the text describes;
abbrev pub GivesDescribed : List ℕ → State → Met → State → Met → Result ℕ FileFault → Type 0
GivesDescribed text d t d' t' (Ok count) =
    Gives d.editor.signals text t t' (order_of d.editor.signals d.editor.words.image)
    (board_of d.editor.signals d'.editor.words.image) count
GivesDescribed text d t d' t' (Err f) = Unit {0}

-- and a text that describes a netlist is read as that netlist, unless memory runs out.
abbrev pub AcceptsDescribed : ℕ → List ℕ → State → Met → State → Met → Result ℕ FileFault → Type 0
AcceptsDescribed limit text d t d' t' r =
    (after : Met) (cs : List Claim) (ns : List Name) (n : Netlist)
    → Due d.editor.signals (levels d.editor.words) limit (netlist_at d) text
    → Says d.editor.signals text t after cs → Stated ns cs n
    → (r ≡ Err file_fault.Memory)
    ⊎ (IsOk r × (t' ≡ after) × SameByName ns n t'.signals (netlist_of d.editor.signals d'.editor.words.image))

-- ---- a write

-- the numbers that apply to a write by an editor of m signals, with so many levels open, into a buffer of so
-- many bytes
pub data BarsWrite (m open' : ℕ) (n : Netlist) (t : Met) (text : List ℕ) (room : ℕ) : ℕ → Type 0 where
  no_editor : m ≡ 0 → BarsWrite m open' n t text room 1
  batch_open : 0 < open' → BarsWrite m open' n t text room 11
  nameless : (s : ℕ) → driver_of n s ≢ absent → length t.signals ≤ s → BarsWrite m open' n t text room 36
  short : room < length text → BarsWrite m open' n t text room 39

-- the number of a fault; want of memory has none
abbrev pub write_number : WriteFault → Option ℕ
write_number write_fault.NoEditor = Some 1
write_number write_fault.BatchOpen = Some 11
write_number write_fault.Nameless = Some 36
write_number write_fault.Short = Some 39
write_number write_fault.Memory = None

-- The smallest number that applies. Memory is wanted only where nothing below 39 does.
abbrev pub Barred : (ℕ → Type 0) → Option ℕ → Type 0
Barred bars None = (j : ℕ) → j < 39 → bars j → ⊥
Barred bars (Some k) = bars k × ((j : ℕ) → j < k → bars j → ⊥)

-- The text goes to the front of the buffer, with its length, and the bytes behind stay; or the smallest number
-- that applies, and all bytes stay.
abbrev pub WritesText : ℕ → ℕ → Netlist → Met → List ℕ → List ℕ → List ℕ → Result ℕ WriteFault → Type 0
WritesText m open' n t text buffer buffer' (Ok long) =
    ((k : ℕ) → BarsWrite m open' n t text (length buffer) k → ⊥) × (long ≡ length text)
    × (buffer' ≡ text ++ drop (length text) buffer)
WritesText m open' n t text buffer buffer' (Err f) = Barred (BarsWrite m open' n t text (length buffer))
    (write_number f)
    × (buffer' ≡ buffer)

-- the text of an editor's netlist under names, its gates in the order of its places
abbrev pub text_of : EditorState → Met → List ℕ
text_of e t = file_of t.model e.signals t.signals (netlist_of e.signals e.words.image)
    (order_of e.signals e.words.image)

abbrev pub Writes : EditorState → Met → List ℕ → List ℕ → Result ℕ WriteFault → Type 0
Writes e t buffer buffer' r = WritesText e.signals (levels e.words)
    (netlist_of e.signals e.words.image) t (text_of e t) buffer buffer' r
