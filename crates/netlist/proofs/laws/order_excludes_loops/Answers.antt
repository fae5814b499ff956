use Rattle.netlist.proofs.Loops.{order-excludes-loops}
use Rattle.netlist.proofs.laws.order_excludes_loops.Goals as goal

pub returns : goal.returns
returns c = order-excludes-loops
