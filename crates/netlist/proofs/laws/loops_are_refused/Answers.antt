use Rattle.netlist.proofs.Loops.{refused-for-loops}
use Rattle.netlist.proofs.laws.loops_are_refused.Goals as goal

pub returns : goal.returns
returns c = refused-for-loops
