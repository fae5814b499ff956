-- The number of each fault.
use Rattle.std.specs.Prelude.{ℕ}
use Rattle.text.specs.declared.faults.TextFault.{TextFault}
use Rattle.text.specs.declared.faults.TextFault.TheVariants.{TooLong, WrongByte, WrongWord}
use Rattle.text.specs.declared.numbers.NumberFault.{NumberFault}
use Rattle.text.specs.declared.numbers.NumberFault.TheVariants.{Malformed}

abbrev pub text_fault : TextFault → ℕ
text_fault TooLong = 30
text_fault WrongByte = 31
text_fault WrongWord = 32

abbrev pub number_fault : NumberFault → ℕ
number_fault Malformed = 35
