-- The number of what is wrong with a file, and what finds it.
use Rattle.std.specs.Prelude.{ℕ, List, codes, Some, None, Option}
use Rattle.text.specs.Numbers.{text_fault}
use Rattle.netlist.specs.Refusals.{number}
use Rattle.blif.specs.declared.fault.FormFault.{FormFault}
use Rattle.blif.specs.declared.fault.FormFault.TheVariants.{UnknownWord, WordCount, Malformed, TooManyNames, BothWays, Misplaced, Driven}
use Rattle.blif.specs.declared.fault.Layer.{Layer}
use Rattle.blif.specs.declared.fault.Layer.TheVariants as layer
use Rattle.blif.specs.declared.fault.FileFault.{FileFault}
use Rattle.blif.specs.declared.fault.FileFault.TheVariants as file_fault

abbrev pub form_number : FormFault → ℕ
form_number UnknownWord = 33
form_number WordCount = 34
form_number Malformed = 35
form_number TooManyNames = 36
form_number BothWays = 37
form_number Misplaced = 38
form_number Driven = 40

-- want of memory has no number, and nothing finds it
abbrev pub file_number : FileFault → Option ℕ
file_number file_fault.Memory = None
file_number (file_fault.Text e) = Some (text_fault e.fault)
file_number (file_fault.Form e) = Some (form_number e.fault)
file_number (file_fault.Editor e) = Some (number e.refusal)

abbrev pub file_layer : FileFault → Option Layer
file_layer file_fault.Memory = None
file_layer (file_fault.Text e) = Some layer.Text
file_layer (file_fault.Form e) = Some layer.Form
file_layer (file_fault.Editor e) = Some layer.Editor

-- how a layer is printed
abbrev pub layer_text : Layer → List ℕ
layer_text layer.Text = codes "text"
layer_text layer.Form = codes "form"
layer_text layer.Editor = codes "editor"
