use Rattle.std.proofs.Common.{◌^◌}
use Rattle.std.proofs.lemmas.Nat.Bits.{bit_at_above}
use Rattle.table.proofs.Bit.{bits_fit}
use Rattle.table.proofs.laws.fits_by_bits.Goals as goal

pub returns : goal.returns
returns c = λ pins bits. ((λ fits m past. bit_at_above bits (2 ^ pins) m fits past), bits_fit (2 ^ pins) bits)
