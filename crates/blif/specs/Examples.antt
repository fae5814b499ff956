-- Small files, and what they say.
use Rattle.std.specs.Prelude.{◌≡◌, ℕ, true, false, List, [], ◌∷◌, ◌++◌, codes, Some, Err}
use Prim.Native.String.{String}
use Rattle.std.specs.List.{flat_map}
use Rattle.text.specs.Rules.{file_rules}
use Rattle.text.specs.declared.faults.TextFault.TheVariants.{WrongByte}
use Rattle.table.specs.Laws.{text}
use Rattle.netlist.specs.Netlist.{Netlist, Driver, Signal, empty_netlist}
use Rattle.netlist.specs.Netlist as net
use Rattle.blif.specs.declared.fault.FormFault.TheVariants.{UnknownWord, WordCount, Malformed, TooManyNames, Misplaced}
use Rattle.blif.specs.declared.fault.FileFault.TheVariants as file_fault
use Rattle.blif.specs.Statement.{Name, Words, Statement, inputs, outputs, latch, names, IsFile}
use Rattle.blif.specs.Form.{nothing, statements, ended, says}
use Rattle.blif.specs.Rows.{AreLines, all_rows}
use Rattle.blif.specs.Description.{Claim, ClaimAll, seen, Describes}
use Rattle.blif.specs.Written.{file_of, statements_of, lines_of_file}
use Rattle.blif.specs.File.{Met, at, Lines, form}

abbrev pub lined : List String → List ℕ
lined ls = flat_map (λ l. codes l ++ 10 ∷ []) ls

-- ---- two gates

abbrev pub ten : List ℕ
ten = lined (".model t" ∷ ".inputs a b" ∷ ".outputs y" ∷ ".names a b n" ∷ "11 1" ∷ ".names n y" ∷ "1 1" ∷ ".end" ∷ [])

abbrev pub ten_statements : List Statement
ten_statements =
    inputs (codes "a" ∷ codes "b" ∷ []) ∷ outputs (codes "y" ∷ []) ∷ names (codes "a" ∷ codes "b" ∷ [])
    (codes "n") (text "11" "1" ∷ [])
    ∷ names (codes "n" ∷ []) (codes "y") (text "1" "1" ∷ []) ∷ []

abbrev pub signal : Driver → Signal
signal d = record { driver = d; output = false }

abbrev pub ten_netlist : Netlist
ten_netlist =
    signal net.input ∷ signal net.input ∷ (record { driver = net.gate 2 (3 ∷ []); output = true })
    ∷ signal (net.gate 8 (0 ∷ 1 ∷ [])) ∷ signal net.absent ∷ []

abbrev pub ten_names : List Name
ten_names = codes "a" ∷ codes "b" ∷ codes "y" ∷ codes "n" ∷ []

pub record Ten : Type 0 where
  pub rows : AreLines (all_rows file_rules ten) (lines_of_file (codes "t") ten_statements)
  pub file : IsFile (lines_of_file (codes "t") ten_statements) (codes "t") ten_statements
  pub written : statements_of 5 ten_names ten_netlist (0 ∷ 1 ∷ 3 ∷ 2 ∷ 4 ∷ []) ≡ ten_statements
  pub spelling : file_of (codes "t") 5 ten_names ten_netlist (0 ∷ 1 ∷ 3 ∷ 2 ∷ 4 ∷ []) ≡ ten
  pub described : (cs : List Claim) → ClaimAll ten_statements cs → Describes cs (seen ten_names ten_netlist)

-- ---- comments, blanks and tabs, a latch without a start, a constant, names used before they are driven

abbrev pub clock : List ℕ
clock = lined ("# a comment" ∷ "  .model c # and a name" ∷ "" ∷ ".latch  d q" ∷ ".names d" ∷ "1" ∷ ".outputs q q" ∷ [])
    ++ codes ".end"

abbrev pub clock_statements : List Statement
clock_statements = latch (codes "d") (codes "q") 3 ∷ names [] (codes "d")
    (text "" "1" ∷ []) ∷ outputs (codes "q" ∷ codes "q" ∷ []) ∷ []

abbrev pub clock_lines : List Words
clock_lines =
    (codes ".model" ∷ codes "c" ∷ []) ∷ (codes ".latch" ∷ codes "d" ∷ codes "q" ∷ []) ∷ (codes ".names" ∷ codes "d" ∷ []) ∷ (codes "1" ∷ [])
    ∷ (codes ".outputs" ∷ codes "q" ∷ codes "q" ∷ []) ∷ (codes ".end" ∷ []) ∷ []

pub record Clock : Type 0 where
  pub rows : AreLines (all_rows file_rules clock) clock_lines
  pub file : IsFile clock_lines (codes "c") clock_statements
  pub written :
      file_of (codes "c") 2 (codes "d" ∷ codes "q" ∷ [])
      (signal (net.gate 1 []) ∷ (record { driver = net.latch 3 0; output = true }) ∷ []) (0 ∷ 1 ∷ [])
      ≡ lined (".model c" ∷ ".outputs q" ∷ ".latch d q 3" ∷ ".names d" ∷ "1" ∷ ".end" ∷ [])

-- ---- nothing but a name

pub record Empty : Type 0 where
  pub file : IsFile (lines_of_file (codes "top") []) (codes "top") []
  pub written : file_of (codes "top") 3 [] (empty_netlist 3) (0 ∷ 1 ∷ 2 ∷ []) ≡ lined (".model top" ∷ ".end" ∷ [])
  pub rows : AreLines (all_rows file_rules (lined (".model top" ∷ ".end" ∷ []))) (lines_of_file (codes "top") [])

-- ---- faults of a line

abbrev pub at_b : List Name
at_b = codes "b" ∷ []

pub record Faults : Type 0 where
  pub unknown : says 5 at_b statements (codes "1" ∷ codes "1" ∷ []) ≡ Err UnknownWord
  pub count : says 5 at_b nothing (codes ".model" ∷ []) ≡ Err WordCount
  pub again : says 5 at_b statements (codes ".model" ∷ codes "u" ∷ codes "v" ∷ []) ≡ Err WordCount
  pub pins : says 5 at_b ended (codes ".names" ∷ codes "a" ∷ codes "b" ∷ codes "c" ∷ codes "d" ∷ codes "e" ∷ codes "f" ∷ []) ≡ Err WordCount
  pub start : says 5 at_b ended (codes ".latch" ∷ codes "a" ∷ codes "b" ∷ codes "4" ∷ []) ≡ Err Malformed
  pub many : says 2 at_b nothing (codes ".inputs" ∷ codes "a" ∷ codes "c" ∷ []) ≡ Err TooManyNames
  pub early : says 3 at_b nothing (codes ".inputs" ∷ codes "a" ∷ codes "c" ∷ []) ≡ Err Misplaced
  pub end_word : says 5 at_b statements (codes ".end" ∷ codes "x" ∷ []) ≡ Err WordCount
  pub late : says 5 at_b ended (codes ".end" ∷ []) ≡ Err Misplaced

-- ---- faults of a file

abbrev pub new_met : Met
new_met = record { model = codes "top"; signals = [] }

-- a cover line of another length than the plane, on line 3: the names of line 2 stay
pub record FaultyCover : Type 0 where
  pub lines : Lines 5 (at nothing) new_met (all_rows file_rules (lined (".model t" ∷ ".names a y" ∷ "11 1" ∷ ".end" ∷ []))) []
      (record { model = codes "t"; signals = codes "a" ∷ codes "y" ∷ [] }) 0 (Some (form Malformed 3))

-- a wrong byte in a comma on line 2, before the missing `.end`
pub record FaultyByte : Type 0 where
  pub lines : Lines 5 (at nothing) new_met (all_rows file_rules (lined (".model t" ∷ ".inputs a,b" ∷ [])))
      [] (record { model = codes "t"; signals = [] }) 0
      (Some (file_fault.Text (record { fault = WrongByte; line = 2; first_byte = Some 46 })))
