-- What an editor answers to a question.
use Rattle.std.specs.Prelude.{◌≡◌, ℕ, ◌-◌, ◌<◌, ◌≤◌, Bool, List, [], ◌∷◌, length, take, Some, None, Option, MatchOption, Decides, slice_index}
use Rattle.words.specs.Meaning.{Meaning, levels}
use Rattle.table.specs.Table.{IsTable}
use Rattle.table.specs.declared.shape.Table.{Table}
use Rattle.netlist.specs.Netlist.{Driver, absent, input, gate, latch, driver_of, output_of, pins_of}
use Rattle.netlist.specs.Places.{place}
use Rattle.board.specs.declared.kind.Kind.{Kind}
use Rattle.board.specs.Kinds.{kind_of}
use Rattle.board.specs.Layout.{pin_told}
use Rattle.board.specs.Board.{nets, netlist_of, order_of}
use Rattle.editor.specs.Calls.{Missing}
use Rattle.editor.specs.declared.questions.Pins.{Pins}

-- How many signals there are; how many levels are open, whether a batch is, and how many marks are; of a signal what drives it, its output mark,
-- its pins, its table, its start value and its place; the signal at a place; the smallest absent signal in use.
pub data Question : Type 0 where
  asks_signals : Question
  asks_levels : Question
  asks_batch : Question
  asks_marks : Question
  asks_kind : ℕ → Question
  asks_output : ℕ → Question
  asks_pins : ℕ → Question
  asks_table : ℕ → Question
  asks_start : ℕ → Question
  asks_place : ℕ → Question
  asks_signal : ℕ → Question
  asks_missing : Question

abbrev pub Answer : Question → Type 0
Answer asks_signals = ℕ
Answer asks_levels = ℕ
Answer asks_batch = Bool
Answer asks_marks = ℕ
Answer (asks_kind s) = Option Kind
Answer (asks_output s) = Option Bool
Answer (asks_pins s) = Option Pins
Answer (asks_table s) = Option Table
Answer (asks_start s) = Option ℕ
Answer (asks_place s) = Option ℕ
Answer (asks_signal p) = Option ℕ
Answer asks_missing = Option ℕ

-- Of a number below m something is told, of which P holds; of any other nothing.
abbrev pub Tells : {A : Type 0} → ℕ → ℕ → (A → Type 0) → Option A → Type 0
Tells m s P r = MatchOption r (m ≤ s) (λ x. (s < m) × P x)

-- a table of these bits for so many pins
abbrev pub IsTableOf : ℕ → ℕ → Table → Type 0
IsTableOf bits pins t = (t.bits ≡ bits) × (t.pins ≡ pins)

-- the signals that pins are on, with 0 behind the last: room for four
pub record AreOn (pins : Pins) (on : List ℕ) : Type 0 where
  pub few : pins.count ≤ 4
  pub room : length pins.nets ≡ 4
  pub nets : take pins.count pins.nets ≡ on
  pub rest : (k : ℕ) → pins.count ≤ k → slice_index pins.nets k ≡ 0

-- the table of a gate, and of nothing else
abbrev pub HasTable : Driver → Option Table → Type 0
HasTable absent r = r ≡ None
HasTable input r = r ≡ None
HasTable (gate table pins) r = MatchOption r ⊥ (λ t. IsTableOf table (length pins) t)
HasTable (latch start pin) r = r ≡ None

-- the start of a latch, and of nothing else
abbrev pub start_of : Driver → Option ℕ
start_of absent = None
start_of input = None
start_of (gate table pins) = None
start_of (latch start pin) = Some start

-- the smallest number of which P holds, or none where it holds of none
abbrev pub IsSmallest : (ℕ → Type 0) → Option ℕ → Type 0
IsSmallest P r = MatchOption r ((s : ℕ) → P s → ⊥) (λ s. P s × ((t : ℕ) → t < s → P t → ⊥))

-- What is answered by M, D, the number of open levels and the words.
abbrev pub Says : ℕ → ℕ → ℕ → List ℕ → (q : Question) → Answer q → Type 0
Says m d open' ws asks_signals r = r ≡ m
Says m d open' ws asks_levels r = r ≡ open'
Says m d open' ws asks_batch r = Decides r (0 < open')
Says m d open' ws asks_marks r = r ≡ open' - 1
Says m d open' ws (asks_kind s) r = Tells m s (λ k. k ≡ kind_of (driver_of (netlist_of m ws) s)) r
Says m d open' ws (asks_output s) r = Tells m s (λ o. o ≡ output_of (netlist_of m ws) s) r
Says m d open' ws (asks_pins s) r = Tells m s (λ p. AreOn p (pins_of (driver_of (netlist_of m ws) s))) r
Says m d open' ws (asks_table s) r = HasTable (driver_of (netlist_of m ws) s) r
Says m d open' ws (asks_start s) r = r ≡ start_of (driver_of (netlist_of m ws) s)
Says m d open' ws (asks_place s) r = Tells m s (λ p. p ≡ place (order_of m ws) s) r
Says m d open' ws (asks_signal p) r = Tells m p (λ s. s ≡ slice_index (order_of m ws) p) r
Says m d open' ws asks_missing r = IsSmallest (Missing m (netlist_of m ws)) r

-- What an editor of M signals over a store answers. Nothing but this is asked: at M = 0 nothing is told of a signal or a place, and the open levels
-- are the store's.
abbrev pub Answers : ℕ → Meaning → (q : Question) → Answer q → Type 0
Answers m a q r = Says m a.limit (levels a) a.image q r

-- ---- what the words of a signal tell

-- the words of its four pins
abbrev pub pin_words_lem : ℕ → List ℕ → ℕ → List ℕ
pin_words_lem m ws s = pin_told m ws s 0 ∷ pin_told m ws s 1 ∷ pin_told m ws s 2 ∷ pin_told m ws s 3 ∷ []

-- bits as a table of as many pins as are on something by these words, if they fit those
abbrev pub Tabled : ℕ → List ℕ → Option Table → Type 0
Tabled bits words r = MatchOption r (IsTable (length (nets words)) bits → ⊥) (λ t. IsTableOf bits (length (nets words)) t)
