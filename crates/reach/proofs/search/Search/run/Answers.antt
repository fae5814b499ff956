use Rattle.std.proofs.Common.{◌-◌, [], reverse, get_or, ap, ◌∙◌}
use Rattle.reach.specs.Listed.{listed}
use Rattle.reach.proofs.Answered.{met_shown}
use Rattle.reach.proofs.search.Search.run.Goals as goal

pub returns-in-Err-clause-answers : goal.returns-in-Err-clause-answers
returns-in-Err-clause-answers g c =
    let found = listed c.fill.new.self.queue in (
      met_shown (g.R.Relation.follows c.args.relation.now) c.args.start c.args.sought found _ c.in-Err.ensures.outcome
          (c.path-path.ensures ∙ ap (λ n. reverse (get_or found (n - 1) [])) c.len-in-Err.ensures.len),
      c.clear.ensures.clear,
      c.clear.ensures.empty,
    )
