-- How a fault is told.
use Rattle.std.specs.Prelude.{ℕ, List, [], ◌∷◌, ◌++◌, cond, codes, Some, None, Option, ◌==◌}
use Rattle.std.specs.Fmt.{decimal}
use Rattle.std.specs.List.{flat_map}
use Rattle.text.specs.Numbers.{text_fault}
use Rattle.text.specs.Printed.{bytes_text}
use Rattle.netlist.specs.Refusals.{number}
use Rattle.blif.specs.Statement.{Name}
use Rattle.blif.specs.Description.{name_of}
use Rattle.blif.specs.Faults.{form_number, layer_text}
use Rattle.blif.specs.declared.fault.Layer.{Layer}
use Rattle.blif.specs.declared.fault.Layer.TheVariants as layer
use Rattle.netedit.specs.declared.report.Fault.{Fault}
use Rattle.netedit.specs.declared.report.Fault.TheVariants as fault

abbrev pub layer_of : Fault → Layer
layer_of (fault.Text f) = layer.Text
layer_of (fault.Form e) = layer.Form
layer_of (fault.Editor e) = layer.Editor

abbrev pub number_of : Fault → ℕ
number_of (fault.Text f) = text_fault f.fault
number_of (fault.Form e) = form_number e.fault
number_of (fault.Editor e) = number e.refusal

abbrev pub line_of : Fault → ℕ
line_of (fault.Text f) = f.line
line_of (fault.Form e) = e.line
line_of (fault.Editor e) = e.line

-- the first signal of the refused call, or the smallest absent signal in use
abbrev pub signal_of : Fault → Option ℕ
signal_of (fault.Text f) = None
signal_of (fault.Form e) = None
signal_of (fault.Editor e) = e.signal

-- the name of a signal, if there is one
abbrev pub name_at : List Name → Option ℕ → Name
name_at ns None = []
name_at ns (Some s) = name_of ns s

-- the names of a loop, each behind a comma (44), and byte 10
abbrev pub loop_text : List Name → List ℕ → List ℕ
loop_text ns ss = codes "loop" ++ flat_map (λ s. 44 ∷ bytes_text (name_of ns s)) ss ++ 10 ∷ []

-- a line of its fields, of which the last, a pin, is empty, and behind 25 the line of the loop
abbrev pub report_text : Fault → List Name → List ℕ → List ℕ
report_text f ns shown = codes "fault,file," ++ layer_text (layer_of f) ++ codes "," ++ decimal (number_of f) ++ codes ","
    ++ decimal (line_of f) ++ codes "," ++ bytes_text (name_at ns (signal_of f)) ++ 44 ∷ 10
    ∷ cond (number_of f == 25) (loop_text ns shown) []
