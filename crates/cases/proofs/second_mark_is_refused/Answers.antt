use Rattle.cases.proofs.Marking.{second_refused}
use Rattle.cases.proofs.second_mark_is_refused.Goals as goal

pub returns : goal.returns
returns c = second_refused
