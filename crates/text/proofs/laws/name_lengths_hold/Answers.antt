use Rattle.std.proofs.Common.{refl}
use Rattle.text.proofs.laws.name_lengths_hold.Goals as goal

pub returns : goal.returns
returns c = record { longest = refl; too_long = refl }
