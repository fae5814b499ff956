-- What a netlist is: signals, what drives each, and which feed which.
use Rattle.std.specs.Prelude.{◌≡◌, ℕ, ◌≤◌, Bool, true, false, List, [], ◌∷◌, replicate, ◌≢◌, slice_index_or}
use Rattle.reach.specs.Reach.{Among}

-- absent; an input; a gate, by its table and the signal that each pin is on; a latch, by its start value and the signal that its pin is on
pub data Driver : Type 0 where
  absent : Driver
  input : Driver
  gate : ℕ → List ℕ → Driver
  latch : ℕ → ℕ → Driver

pub record Signal : Type 0 where
  pub driver : Driver
  pub output : Bool

abbrev pub Netlist : Type 0
Netlist = List Signal

abbrev pub unused : Signal
unused = record { driver = absent; output = false }

abbrev pub driver_of : Netlist → ℕ → Driver
driver_of n s = (slice_index_or n s unused).driver

abbrev pub output_of : Netlist → ℕ → Bool
output_of n s = (slice_index_or n s unused).output

-- the signals that a driver's pins are on
abbrev pub pins_of : Driver → List ℕ
pins_of absent = []
pins_of input = []
pins_of (gate table pins) = pins
pins_of (latch start pin) = pin ∷ []

-- those that feed what it drives: a latch's pin feeds nothing
abbrev pub feeders : Driver → List ℕ
feeders absent = []
feeders input = []
feeders (gate table pins) = pins
feeders (latch start pin) = []

-- a pin of gate s is on a
abbrev pub Feeds : Netlist → ℕ → ℕ → Type 0
Feeds n a s = Among a (feeders (driver_of n s))

-- some pin is on a
abbrev pub Used : Netlist → ℕ → Type 0
Used n a = (s : ℕ) × Among a (pins_of (driver_of n s))

-- b is reached from a: it is a, or something that is reached from a feeds it
pub data Leads (n : Netlist) (a : ℕ) : ℕ → Type 0 where
  here : Leads n a a
  onward : {b c : ℕ} → Leads n a b → Feeds n b c → Leads n a c

abbrev pub Different : List ℕ → Type 0
Different [] = Unit {0}
Different (x ∷ xs) = (Among x xs → ⊥) × Different xs

-- each feeds the next, and the last feeds `end`
abbrev pub Feeding : Netlist → List ℕ → ℕ → Type 0
Feeding n [] end = ⊥
Feeding n (x ∷ []) end = Feeds n x end
Feeding n (x ∷ (y ∷ ys)) end = Feeds n x y × Feeding n (y ∷ ys) end

-- one or more different signals, each feeding the next and the last feeding the first
abbrev pub Loop : Netlist → List ℕ → Type 0
Loop n [] = ⊥
Loop n (x ∷ xs) = Different (x ∷ xs) × Feeding n (x ∷ xs) x

-- none is smaller than the first
abbrev pub SmallestFirst : List ℕ → Type 0
SmallestFirst [] = Unit {0}
SmallestFirst (x ∷ xs) = (y : ℕ) → Among y xs → x ≤ y

abbrev pub HasLoop : Netlist → Type 0
HasLoop n = (xs : List ℕ) × Loop n xs

-- no absent signal is an output or has a pin on it
abbrev pub Whole : Netlist → Type 0
Whole n = (s : ℕ) → driver_of n s ≡ absent → (output_of n s ≢ true) × (Used n s → ⊥)

-- every signal absent
abbrev pub empty_netlist : ℕ → Netlist
empty_netlist m = replicate m unused
