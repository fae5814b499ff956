use Rattle.netlist.proofs.Determined.{edits_determined}
use Rattle.netlist.proofs.laws.edits_are_determined.Goals as goal

pub returns : goal.returns
returns c = edits_determined
