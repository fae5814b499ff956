-- What an edit asks for, when it is refused, and what it leaves.
use Rattle.std.specs.Prelude.{◌≡◌, ℕ, ◌^◌, ◌<◌, ◌≤◌, Bool, true, false, ◌⊎◌, List, [], ◌∷◌, length, take, Ok, Err, Result, ◌==◌, slice_set}
use Rattle.netlist.specs.declared.edit.Edit.{Edit}
use Rattle.netlist.specs.declared.edit.Edit.TheVariants.{Input, Output, Gate, Latch, Delete, Move}
use Rattle.netlist.specs.declared.edit.Refusal.{Refusal}
use Rattle.netlist.specs.Refusals.{number}
use Rattle.netlist.specs.Netlist.{Netlist, Driver, absent, input, gate, latch, driver_of, output_of, pins_of, Used, Loop, empty_netlist}
use Rattle.netlist.specs.Places.{Order, PutsAll, first_order}

pub record Board : Type 0 where
  pub netlist : Netlist
  pub order : Order

abbrev pub empty_board : ℕ → Board
empty_board m = record { netlist = empty_netlist m; order = first_order m }

-- ---- what an edit asks for

abbrev pub drive : Netlist → ℕ → Driver → Netlist
drive n s d = slice_set n s (record { driver = d; output = output_of n s })

abbrev pub mark : Netlist → ℕ → ℕ → Netlist
mark n s v = slice_set n s (record { driver = driver_of n s; output = (v == 1) })

-- a driver with one pin on another signal
abbrev pub repinned : Driver → ℕ → ℕ → Driver
repinned absent i a = absent
repinned input i a = input
repinned (gate table pins) i a = gate table (slice_set pins i a)
repinned (latch start pin) i a = latch start a

-- the netlist with all changes of an edit, loop or not
abbrev pub asked : Netlist → Edit → Netlist
asked n (Input s) = drive n s input
asked n (Output s v) = mark n s v
asked n (Gate s k nets table) = drive n s (gate table (take k nets))
asked n (Latch s net start) = drive n s (latch start net)
asked n (Delete s) = drive n s absent
asked n (Move s i a) = drive n s (repinned (driver_of n s) i a)

-- where a moved pin is put: a latch's pin moves no place
abbrev pub placed : Driver → ℕ → List ℕ
placed absent a = []
placed input a = []
placed (gate table pins) a = a ∷ []
placed (latch start pin) a = []

-- the signals that an edit puts pins on, in turn
abbrev pub puts_of : Netlist → Edit → List ℕ
puts_of n (Input s) = []
puts_of n (Output s v) = []
puts_of n (Gate s k nets table) = take k nets
puts_of n (Latch s net start) = []
puts_of n (Delete s) = []
puts_of n (Move s i a) = placed (driver_of n s) a

-- whether an edit may put a pin
abbrev pub may_put : Edit → Bool
may_put (Input s) = false
may_put (Output s v) = false
may_put (Gate s k nets table) = true
may_put (Latch s net start) = false
may_put (Delete s) = false
may_put (Move s i a) = true

-- ---- when it is refused

-- the signals and nets of an edit that count: of a gate the first k nets, and all four if k is over 4
abbrev pub named : Edit → List ℕ
named (Input s) = s ∷ []
named (Output s v) = s ∷ []
named (Gate s k nets table) = s ∷ take k nets
named (Latch s net start) = s ∷ net ∷ []
named (Delete s) = s ∷ []
named (Move s i a) = s ∷ a ∷ []

-- one of them is not below m
abbrev pub Beyond : ℕ → List ℕ → Type 0
Beyond m [] = ⊥
Beyond m (s ∷ ss) = (m ≤ s) ⊎ Beyond m ss

abbrev pub Unranged : Edit → Type 0
Unranged (Input s) = ⊥
Unranged (Output s v) = 1 < v
Unranged (Gate s k nets table) = (4 < k) ⊎ (2 ^ (2 ^ k) ≤ table)
Unranged (Latch s net start) = 3 < start
Unranged (Delete s) = ⊥
Unranged (Move s i a) = ⊥

abbrev pub DrivenAlready : Netlist → Edit → Type 0
DrivenAlready n (Input s) = driver_of n s ≡ absent → ⊥
DrivenAlready n (Output s v) = ⊥
DrivenAlready n (Gate s k nets table) = driver_of n s ≡ absent → ⊥
DrivenAlready n (Latch s net start) = driver_of n s ≡ absent → ⊥
DrivenAlready n (Delete s) = ⊥
DrivenAlready n (Move s i a) = ⊥

-- a gate or a latch has pins to move
abbrev pub Pinned : Driver → Type 0
Pinned absent = ⊥
Pinned input = ⊥
Pinned (gate table pins) = Unit {0}
Pinned (latch start pin) = Unit {0}

abbrev pub WrongKind : Netlist → Edit → Type 0
WrongKind n (Input s) = ⊥
WrongKind n (Output s v) = ⊥
WrongKind n (Gate s k nets table) = ⊥
WrongKind n (Latch s net start) = ⊥
WrongKind n (Delete s) = driver_of n s ≡ absent
WrongKind n (Move s i a) = Pinned (driver_of n s) → ⊥

abbrev pub PinBeyond : Netlist → Edit → Type 0
PinBeyond n (Input s) = ⊥
PinBeyond n (Output s v) = ⊥
PinBeyond n (Gate s k nets table) = ⊥
PinBeyond n (Latch s net start) = ⊥
PinBeyond n (Delete s) = ⊥
PinBeyond n (Move s i a) = length (pins_of (driver_of n s)) ≤ i

abbrev pub StillUsed : Netlist → Edit → Type 0
StillUsed n (Input s) = ⊥
StillUsed n (Output s v) = ⊥
StillUsed n (Gate s k nets table) = ⊥
StillUsed n (Latch s net start) = ⊥
StillUsed n (Delete s) = Used n s ⊎ (output_of n s ≡ true)
StillUsed n (Move s i a) = ⊥

-- The numbers that apply to an edit on a netlist of m signals, with so many levels open. Whether 25 does is decided by the netlist asked for alone,
-- whatever the edit.
pub data Applies (m levels : ℕ) (n : Netlist) (e : Edit) : ℕ → Type 0 where
  no_batch : levels ≡ 0 → Applies m levels n e 10
  no_signal : Beyond m (named e) → Applies m levels n e 12
  out_of_range : Unranged e → Applies m levels n e 13
  driven : DrivenAlready n e → Applies m levels n e 14
  wrong_kind : WrongKind n e → Applies m levels n e 15
  no_pin : PinBeyond n e → Applies m levels n e 16
  in_use : StillUsed n e → Applies m levels n e 19
  looped : (xs : List ℕ) → Loop (asked n e) xs → Applies m levels n e 25

-- ---- what it leaves

abbrev pub signal_of : Edit → ℕ
signal_of (Input s) = s
signal_of (Output s v) = s
signal_of (Gate s k nets table) = s
signal_of (Latch s net start) = s
signal_of (Delete s) = s
signal_of (Move s i a) = s

-- The reply to an edit: the sum of the counts of its puts, with the netlist asked for and the order that the puts give;
-- or the smallest number that applies, with nothing changed.
abbrev pub Edits : ℕ → ℕ → Board → Edit → Board → Result ℕ Refusal → Type 0
Edits m levels b e b' (Ok count) =
    ((k : ℕ) → Applies m levels b.netlist e k → ⊥) × (b'.netlist ≡ asked b.netlist e)
    × PutsAll (asked b.netlist e) b.order (signal_of e) (puts_of b.netlist e) b'.order count
Edits m levels b e b' (Err r) =
    Applies m levels b.netlist e (number r) × ((k : ℕ) → k < number r → Applies m levels b.netlist e k → ⊥) × (b' ≡ b)
