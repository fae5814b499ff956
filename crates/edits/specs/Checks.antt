-- Which refusal an edit meets before a pin is put.
use Rattle.std.specs.Prelude.{ℕ, ◌<◌, Ok, Err, Result}
use Rattle.netlist.specs.declared.edit.Edit.{Edit}
use Rattle.netlist.specs.declared.edit.Edit.TheVariants.{Input, Output, Gate, Latch, Delete, Move}
use Rattle.netlist.specs.declared.edit.Refusal.{Refusal}
use Rattle.netlist.specs.Refusals.{number}
use Rattle.netlist.specs.Netlist.{Netlist}
use Rattle.netlist.specs.Edits.{Applies, Beyond, named, Unranged, DrivenAlready, WrongKind, PinBeyond, StillUsed}

-- the pin that an edit moves, and the first where it moves none
abbrev pub pin_of : Edit → ℕ
pin_of (Input s) = 0
pin_of (Output s v) = 0
pin_of (Gate s k nets table) = 0
pin_of (Latch s net start) = 0
pin_of (Delete s) = 0
pin_of (Move s i a) = i

-- no number below 25 applies
abbrev pub Unrefused : ℕ → ℕ → Netlist → Edit → Type 0
Unrefused m levels n e = (k : ℕ) → k < 25 → Applies m levels n e k → ⊥

-- a refusal has the smallest number that applies, and that is below 25
abbrev pub Smallest : ℕ → ℕ → Netlist → Edit → Refusal → Type 0
Smallest m levels n e r = Applies m levels n e (number r) × (number r < 25) × ((k : ℕ) → k < number r → Applies m levels n e k → ⊥)

-- the smallest number below 25 that applies, or none
abbrev pub Checks : {A : Type 0} → ℕ → ℕ → Netlist → Edit → Result A Refusal → Type 0
Checks m levels n e (Ok _) = Unrefused m levels n e
Checks m levels n e (Err r) = Smallest m levels n e r

-- no number below 25 applies, a batch apart
pub record Passes (m : ℕ) (n : Netlist) (e : Edit) : Type 0 where
  pub signals : Beyond m (named e) → ⊥
  pub ranged : Unranged e → ⊥
  pub undriven : DrivenAlready n e → ⊥
  pub kinds : WrongKind n e → ⊥
  pub pins : PinBeyond n e → ⊥
  pub unused : StillUsed n e → ⊥

-- puts no pin
abbrev pub Plain : Edit → Type 0
Plain (Input s) = Unit {0}
Plain (Output s v) = Unit {0}
Plain (Gate s k nets table) = ⊥
Plain (Latch s net start) = Unit {0}
Plain (Delete s) = Unit {0}
Plain (Move s i a) = ⊥
