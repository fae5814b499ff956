-- The calls around the rows of a read.
use Rattle.std.specs.Prelude.{◌≡◌, ℕ, ◌<◌, ◌≤◌, [], ◌∷◌, true, false, Bool, Some, Ok, Err, Result}
use Rattle.netlist.specs.Netlist.{Netlist, absent, driver_of}
use Rattle.netlist.specs.declared.edit.Refusal.TheVariants.{AbsentInUse}
use Rattle.board.specs.Board.{netlist_of}
use Rattle.editor.specs.Calls.{Missing}
use Rattle.editor.specs.declared.call.Call.TheVariants.{Keep, Drop}
use Rattle.desk.specs.State.{State}
use Rattle.blif.specs.declared.fault.FileFault.{FileFault}
use Rattle.blif.specs.Chain.{Chain}
use Rattle.blif.specs.File.{call, refusal}

abbrev pub HasDriven : Netlist → Bool → Type 0
HasDriven n true = (s : ℕ) × (driver_of n s ≡ absent → ⊥)
HasDriven n false = (s : ℕ) → driver_of n s ≡ absent

-- The batch is kept; or it is dropped, as an absent signal is in use.
abbrev pub Closes : State → State → Result (Unit {0}) FileFault → Type 0
Closes d d' (Ok x) = Chain d (call Keep (Ok 0) ∷ []) d'
Closes d d' (Err f) =
    (s : ℕ) × Missing d.editor.signals (netlist_of d.editor.signals d.editor.words.image) s
    × ((a : ℕ) → a < s → Missing d.editor.signals (netlist_of d.editor.signals d.editor.words.image) a → ⊥)
    × Chain d (call Keep (Err AbsentInUse) ∷ call Drop (Ok 0) ∷ []) d' × (f ≡ refusal AbsentInUse 0 (Some s))

abbrev pub HasNameless : Netlist → ℕ → Bool → Type 0
HasNameless n named true = (s : ℕ) × (driver_of n s ≡ absent → ⊥) × (named ≤ s)
HasNameless n named false = (s : ℕ) → named ≤ s → driver_of n s ≡ absent
