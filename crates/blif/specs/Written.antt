-- The file that a netlist is written as.
use Rattle.std.specs.Prelude.{◌≡◌, ◌≢◌, ℕ, ◌+◌, ◌<◌, Bool, true, false, List, [], ◌∷◌, ◌++◌, map, length, codes, filter}
use Rattle.std.specs.List.{flat_map, range_with_len, join_with_byte, list_all}
use Rattle.reach.specs.Reach.{Among}
use Rattle.table.specs.Written.{lines_of}
use Rattle.netlist.specs.Netlist.{Netlist, Driver, driver_of, output_of, pins_of}
use Rattle.netlist.specs.Netlist as net
use Rattle.netlist.specs.Places.{Order, Ordered, Arranges}
use Rattle.blif.specs.Statement.{Name, Words, Statement, inputs, outputs, latch, names, cover_words, is_name, is_line, IsFile}
use Rattle.names.specs.Names.{Apart}
use Rattle.board.specs.Standing.{Fitting}
use Rattle.blif.specs.Description.{name_of, In, Claim, ClaimAll, seen, Describes, SameByName}

abbrev pub is_input : Driver → Bool
is_input net.absent = false
is_input net.input = true
is_input (net.gate table pins) = false
is_input (net.latch start pin) = false

-- the statement of a latch, and of nothing else
abbrev pub latch_statement : List Name → ℕ → Driver → List Statement
latch_statement ns s net.absent = []
latch_statement ns s net.input = []
latch_statement ns s (net.gate table pins) = []
latch_statement ns s (net.latch start pin) = latch (name_of ns pin) (name_of ns s) start ∷ []

-- the statement of a gate, with the lines of its 1-minterms
abbrev pub gate_statement : List Name → ℕ → Driver → List Statement
gate_statement ns s net.absent = []
gate_statement ns s net.input = []
gate_statement ns s (net.gate table pins) = names (map (name_of ns) pins) (name_of ns s)
    (lines_of (length pins) table) ∷ []
gate_statement ns s (net.latch start pin) = []

-- a statement of names, if there are any
abbrev pub listing : (List Name → Statement) → List Name → List Statement
listing f [] = []
listing f (x ∷ xs) = f (x ∷ xs) ∷ []

-- inputs, outputs and latches ascending by number; gates by place
abbrev pub statements_of : ℕ → List Name → Netlist → Order → List Statement
statements_of m ns n o =
    listing inputs (map (name_of ns) (filter (λ s. is_input (driver_of n s)) (range_with_len 0 m)))
    ++ listing outputs (map (name_of ns) (filter (λ s. output_of n s) (range_with_len 0 m)))
    ++ flat_map (λ s. latch_statement ns s (driver_of n s)) (range_with_len 0 m)
    ++ flat_map (λ s. gate_statement ns s (driver_of n s)) o

-- ---- spelling

abbrev pub lines_of_statement : Statement → List Words
lines_of_statement (inputs xs) = (codes ".inputs" ∷ xs) ∷ []
lines_of_statement (outputs xs) = (codes ".outputs" ∷ xs) ∷ []
lines_of_statement (latch a x start) = (codes ".latch" ∷ a ∷ x ∷ ((48 + start) ∷ []) ∷ []) ∷ []
lines_of_statement (names pins x cover) = (codes ".names" ∷ (pins ++ x ∷ [])) ∷ map (cover_words (length pins)) cover

abbrev pub lines_of_file : Name → List Statement → List Words
lines_of_file model ss = (codes ".model" ∷ model ∷ []) ∷ (flat_map lines_of_statement ss ++ (codes ".end" ∷ []) ∷ [])

-- words parted by one blank (32), and byte 10 at the end
abbrev pub spelled_line : Words → List ℕ
spelled_line ws = join_with_byte 32 ws ++ 10 ∷ []

abbrev pub spelled : List Words → List ℕ
spelled ls = flat_map spelled_line ls

-- the file of a netlist of m signals whose names are ns, in this order
abbrev pub file_of : Name → ℕ → List Name → Netlist → Order → List ℕ
file_of model m ns n o = spelled (lines_of_file model (statements_of m ns n o))

-- What may be written: each driven signal has a name of its own, none but signals below m is driven or an
-- output, every signal has a place, and the netlist is whole.
pub record Writable (m : ℕ) (ns : List Name) (n : Netlist) (o : Order) : Type 0 where
  pub apart : Apart ns
  pub named : (s : ℕ) → driver_of n s ≢ net.absent → s < length ns
  pub below : (s : ℕ) → driver_of n s ≢ net.absent → s < m
  pub outputs : (s : ℕ) → output_of n s ≡ true → driver_of n s ≢ net.absent
  pub placed : (s : ℕ) → s < m → In s o
  pub fits : (s : ℕ) → Fitting (driver_of n s)

-- What is written claims the netlist, name by name.
abbrev pub WrittenDescribes : Type 0
WrittenDescribes =
    (m : ℕ) (ns : List Name) (n : Netlist) (o : Order) (cs : List Claim) → Writable m ns n o
    → ClaimAll (statements_of m ns n o) cs → Describes cs (seen ns n)

-- Claims that describe two netlists describe them as one.
abbrev pub DescribesOne : Type 0
DescribesOne = (cs : List Claim) (ns ns' : List Name) (n n' : Netlist) → Describes cs (seen ns n)
    → Describes cs (seen ns' n') → SameByName ns n ns' n'

-- all names are words of a file, and each pin is on a driven signal
pub record Nameable (ns : List Name) (n : Netlist) : Type 0 where
  pub words : list_all is_name ns ≡ true
  pub pins : (s a : ℕ) → Among a (pins_of (driver_of n s)) → driver_of n a ≢ net.absent

-- What is written is a file of words, of the statements that are written.
abbrev pub WrittenIsFile : Type 0
WrittenIsFile =
    (model : Name) (m : ℕ) (ns : List Name) (n : Netlist) (o : Order) → is_name model ≡ true → Nameable ns n
    → Writable m ns n o
    → (list_all is_line (lines_of_file model (statements_of m ns n o)) ≡ true)
    × IsFile (lines_of_file model (statements_of m ns n o)) model (statements_of m ns n o)

-- names behind a blank each
abbrev pub spelled_names : List Name → List ℕ
spelled_names ns = flat_map (λ x. 32 ∷ x) ns

-- ---- the order of the gates

abbrev pub fed_by : Statement → List Name
fed_by (inputs xs) = []
fed_by (outputs xs) = []
fed_by (latch a x start) = []
fed_by (names pins x cover) = pins

abbrev pub gate_in : Statement → List Name
gate_in (inputs xs) = []
gate_in (outputs xs) = []
gate_in (latch a x start) = []
gate_in (names pins x cover) = x ∷ []

-- each gate stands below the gates that feed it: none that is its own or stands below it feeds it
abbrev pub FedFromAbove : List Statement → Type 0
FedFromAbove [] = Unit {0}
FedFromAbove (s ∷ ss) = ((x : Name) → In x (fed_by s) → In x (flat_map gate_in (s ∷ ss)) → ⊥) × FedFromAbove ss

abbrev pub WrittenFedFromAbove : Type 0
WrittenFedFromAbove =
    (m : ℕ) (ns : List Name) (n : Netlist) (o : Order) → Writable m ns n o → Nameable ns n → Arranges m o
    → Ordered n o → FedFromAbove (statements_of m ns n o)
