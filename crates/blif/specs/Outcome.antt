-- What a read gives, and what it accepts, as laws about reads.
use Rattle.std.specs.Prelude.{ℕ, List, Result}
use Rattle.names.specs.Names.{Apart}
use Rattle.editor.specs.Steps.{InOrder}
use Rattle.desk.specs.State.{State}
use Rattle.blif.specs.declared.fault.FileFault.{FileFault}
use Rattle.blif.specs.File.{Met}
use Rattle.blif.specs.Promises.{ReadsText, GivesDescribed, AcceptsDescribed}

-- What is known where a read begins: the netlist and the order of the editor are right, and each name is another.
pub record Ready (d : State) (t : Met) : Type 0 where
  pub order : InOrder d.editor.signals d.editor.words
  pub apart : Apart t.signals

-- An accepted read gives the netlist that the text describes.
abbrev pub ReadsGive : Type 0
ReadsGive =
    (limit : ℕ) (text : List ℕ) (d d' : State) (t t' : Met) (r : Result ℕ FileFault) → Ready d t
    → ReadsText limit text d t d' t' r
    → GivesDescribed text d t d' t' r

-- A text that describes a netlist is read as that netlist, unless memory runs out.
abbrev pub ReadsAccept : Type 0
ReadsAccept =
    (limit : ℕ) (text : List ℕ) (d d' : State) (t t' : Met) (r : Result ℕ FileFault) → Ready d t
    → ReadsText limit text d t d' t' r
    → AcceptsDescribed limit text d t d' t' r
