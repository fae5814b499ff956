-- How words, lines and faults are printed.
use Rattle.std.specs.Prelude.{ℕ, List, ◌∷◌, ◌++◌, codes, encode_utf8, vec_items}
use Rattle.std.specs.Fmt.{decimal}
use Rattle.std.specs.List.{flat_map}
use Rattle.text.specs.Numbers.{text_fault, number_fault}
use Rattle.text.specs.declared.words.Word.{Word}
use Rattle.text.specs.declared.words.Line.{Line}
use Rattle.text.specs.declared.faults.TextFault.{TextFault}
use Rattle.text.specs.declared.faults.LineFault.{LineFault}
use Rattle.text.specs.declared.faults.ReadFault.{ReadFault}
use Rattle.text.specs.declared.faults.ReadFault.TheVariants.{Text, Memory}
use Rattle.text.specs.declared.numbers.NumberFault.{NumberFault}

-- each byte as the character of its number, so that the bytes of words, 33 to 126, stand as they are
abbrev pub bytes_text : List ℕ → List ℕ
bytes_text bs = flat_map encode_utf8 bs

abbrev pub word_text : Word → List ℕ
word_text w = bytes_text w.bytes.now

-- the line's number, and each word behind a blank
abbrev pub line_text : Line → List ℕ
line_text l = codes "line " ++ decimal l.number ++ codes ":" ++ flat_map (λ w. 32 ∷ word_text w) (vec_items l.words)

abbrev pub fault_text : TextFault → List ℕ
fault_text f = codes "fault " ++ decimal (text_fault f)

abbrev pub line_fault_text : LineFault → List ℕ
line_fault_text f = fault_text f.fault ++ codes " line " ++ decimal f.line

abbrev pub read_fault_text : ReadFault → List ℕ
read_fault_text (Text f) = line_fault_text f
read_fault_text Memory = codes "no memory"

abbrev pub number_fault_text : NumberFault → List ℕ
number_fault_text f = codes "fault " ++ decimal (number_fault f)
