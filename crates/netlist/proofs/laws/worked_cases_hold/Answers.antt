use Rattle.netlist.proofs.Examples.{worked}
use Rattle.netlist.proofs.laws.worked_cases_hold.Goals as goal

pub returns : goal.returns
returns c = worked
