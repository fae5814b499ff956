-- Where a board of m signals is kept in the words of a store. Every field has one word for each signal, place or pin.
use Rattle.std.specs.Prelude.{ℕ, ◌+◌, ◌*◌, cond, List, nat_lt, slice_index}
use Rattle.board.specs.declared.field.Field.{Field}
use Rattle.board.specs.declared.field.Field.TheVariants.{Kind, Output, Value, Seat, Holder, First, Pin, Next, Back}

abbrev pub word : List ℕ → ℕ → ℕ
word ws at = slice_index ws at

-- of each signal: what drives it (0 absent, 1 input, 2 gate, 3 latch), its output mark, the table of a gate or the start of a latch
abbrev pub kind : ℕ → List ℕ → ℕ → ℕ
kind m ws s = word ws s

abbrev pub output : ℕ → List ℕ → ℕ → ℕ
output m ws s = word ws (m + s)

abbrev pub value : ℕ → List ℕ → ℕ → ℕ
value m ws s = word ws (2 * m + s)

-- the place of each signal, and the signal at each place
abbrev pub seat : ℕ → List ℕ → ℕ → ℕ
seat m ws s = word ws (3 * m + s)

abbrev pub holder : ℕ → List ℕ → ℕ → ℕ
holder m ws p = word ws (4 * m + p)

-- the first pin on each signal: 0 for none, else one more than its number
abbrev pub first : ℕ → List ℕ → ℕ → ℕ
first m ws a = word ws (5 * m + a)

-- Pin i of signal s has the number 4 s + i. Each pin has one more than the signal that it is on, or 0 where there is no such pin,
abbrev pub pin : ℕ → List ℕ → ℕ → ℕ
pin m ws q = word ws (6 * m + q)

-- and one more than the next pin and than the last pin before it on the same signal, or 0 for none.
abbrev pub next : ℕ → List ℕ → ℕ → ℕ
next m ws q = word ws (10 * m + q)

abbrev pub back : ℕ → List ℕ → ℕ → ℕ
back m ws q = word ws (14 * m + q)

-- what is told of the first pin on a signal: none on what is no signal
abbrev pub first_told : ℕ → List ℕ → ℕ → ℕ
first_told m ws a = cond (nat_lt a m) (first m ws a) 0

-- what is told of pin i of a signal: its word, or 0 where there is no such signal or pin
abbrev pub pin_told : ℕ → List ℕ → ℕ → ℕ → ℕ
pin_told m ws s i = cond (nat_lt i 4) (cond (nat_lt s m) (pin m ws (4 * s + i)) 0) 0

-- how many words these are
abbrev pub needed : ℕ → ℕ
needed m = 18 * m

-- how many words for each signal stand before a field
abbrev pub start_of : Field → ℕ
start_of Kind = 0
start_of Output = 1
start_of Value = 2
start_of Seat = 3
start_of Holder = 4
start_of First = 5
start_of Pin = 6
start_of Next = 10
start_of Back = 14

-- which word a field has for a signal, a place or a pin
abbrev pub cell_of : ℕ → Field → ℕ → ℕ
cell_of m Kind n = n
cell_of m Output n = m + n
cell_of m Value n = 2 * m + n
cell_of m Seat n = 3 * m + n
cell_of m Holder n = 4 * m + n
cell_of m First n = 5 * m + n
cell_of m Pin n = 6 * m + n
cell_of m Next n = 10 * m + n
cell_of m Back n = 14 * m + n
