-- What drives a signal, as a word: 0 absent, 1 input, 2 gate, 3 latch.
use Rattle.std.specs.Prelude.{ℕ, zero, suc, List, codes}
use Rattle.netlist.specs.Netlist.{Driver, absent, input, gate, latch}
use Rattle.board.specs.declared.kind.Kind.{Kind}
use Rattle.board.specs.declared.kind.Kind.TheVariants.{Absent, Input, Gate, Latch}

abbrev pub kind_of : Driver → Kind
kind_of absent = Absent
kind_of input = Input
kind_of (gate table pins) = Gate
kind_of (latch start pin) = Latch

-- any word names a kind
abbrev pub kind_by : ℕ → Kind
kind_by zero = Absent
kind_by (suc zero) = Input
kind_by (suc (suc zero)) = Gate
kind_by (suc (suc (suc k))) = Latch

abbrev pub word_of : Kind → ℕ
word_of Absent = 0
word_of Input = 1
word_of Gate = 2
word_of Latch = 3

-- how a kind is printed
abbrev pub name_of : Kind → List ℕ
name_of Absent = codes "absent"
name_of Input = codes "input"
name_of Gate = codes "gate"
name_of Latch = codes "latch"
