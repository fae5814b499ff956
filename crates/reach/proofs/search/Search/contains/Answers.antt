use Rattle.reach.specs.Listed.{listed}
use Rattle.reach.proofs.Answered.{flag_answers}
use Rattle.reach.proofs.search.Search.contains.Goals as goal

pub returns-clause-reached : goal.returns-clause-reached
returns-clause-reached c = λ next start searched. flag_answers next start _ (listed c.args.self.now.queue) searched c.args.number _ c.is_marked.ensures
