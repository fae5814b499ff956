use Rattle.std.proofs.Common.{◌∙◌, arith}
use Rattle.std.proofs.lemmas.Result.{MatchResult-from_err}
use Rattle.reach.specs.Listed.{listed}
use Rattle.reach.proofs.Standing.{telling_ends, telling_goes, telling_more, arrived}
use Rattle.reach.proofs.search.Search.hear_all.Goals as goal

pub returns-in_err-note-clause-outcome : goal.returns-in_err-note-clause-outcome
returns-in_err-note-clause-outcome g c =
    let next = g.R.Relation.follows c.args.query.now.relation.now in
    let heard = c.in_err-note.ensures in
    MatchResult-from_err c.from_residual.result _ _ c.from_residual.ensures.0
    (λ _. arrived next c.args.query.now.start c.args.query.now.sought c.note.new.self.flags.now (listed c.note.new.self.queue) heard.stand heard.sought
    (telling_more next c.args.query.now.start c.args.place _ (listed c.loop-neighbour.self.queue) c.loop-neighbour.invariant.telling
    c.in-Some.neighbour _ _ c.in-Some.ensures.steps heard.heard))

pub loop-neighbour-preserved : goal.loop-neighbour-preserved
loop-neighbour-preserved g c =
    let next = g.R.Relation.follows c.args.query.now.relation.now in
    let heard = c.in_ok-note.ensures in
    record {
      lent = heard.lent ∙ c.loop-neighbour.invariant.lent;
      kept = record { stand = heard.stand; unmet = heard.sought };
      telling =
          telling_goes next c.args.query.now.start c.args.place _ (listed c.loop-neighbour.self.queue) c.loop-neighbour.invariant.telling
          c.in-Some.neighbour _ _ c.in-Some.ensures.steps heard.heard;
    }

pub returns-clause-outcome : goal.returns-clause-outcome
returns-clause-outcome g c =
    let next = g.R.Relation.follows c.args.query.now.relation.now in
    let loop = c.loop-neighbour.invariant in (
      loop.kept,
      record {
        is = telling_ends next c.args.query.now.start c.args.place _ (listed c.loop-neighbour.self.queue) loop.telling c.in-None.ensures.steps.0;
        few = omega (arith, loop.telling.few);
      },
    )
