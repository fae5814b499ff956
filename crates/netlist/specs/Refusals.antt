-- The number of each refusal of the editor.
use Rattle.std.specs.Prelude.{ℕ}
use Rattle.netlist.specs.declared.edit.Refusal.{Refusal}
use Rattle.netlist.specs.declared.edit.Refusal.TheVariants.{NoEditor, NoBatch, BatchOpen, NoSuchSignal, OutOfRange, Driven, NotDriven, NoSuchPin, InUse, NoLevelForMark, NoMark, MarkOpen, AbsentInUse, Looped}

abbrev pub number : Refusal → ℕ
number NoEditor = 1
number NoBatch = 10
number BatchOpen = 11
number NoSuchSignal = 12
number OutOfRange = 13
number Driven = 14
number NotDriven = 15
number NoSuchPin = 16
number InUse = 19
number NoLevelForMark = 20
number NoMark = 21
number MarkOpen = 22
number AbsentInUse = 24
number Looped = 25
