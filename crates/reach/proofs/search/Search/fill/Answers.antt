use Rattle.std.proofs.Common.{refl, sym, subst, arith}
use Rattle.std.proofs.lemmas.Result.{MatchResult-from_err}
use Rattle.reach.specs.Listed.{listed}
use Rattle.reach.specs.Order.{order, More}
use Rattle.reach.proofs.Finds.{order_more}
use Rattle.reach.proofs.Standing.{kept_clear, begun, telling_begins, arrived}
use Rattle.reach.proofs.Answered.{whole}
use Rattle.reach.proofs.search.Search.fill.Goals as goal

pub note-requires-clause-kept : goal.note-requires-clause-kept
note-requires-clause-kept g c = kept_clear c.args.query.now.sought _ _ c.clear.ensures.clear c.clear.ensures.empty

pub returns-in_err-note-clause-outcome : goal.returns-in_err-note-clause-outcome
returns-in_err-note-clause-outcome g c =
    let next = g.R.Relation.follows c.args.query.now.relation.now in
    let start = c.args.query.now.start in
    let heard = c.in_err-note.ensures in
    MatchResult-from_err c.from_residual.result _ _ c.from_residual.ensures.0
    (λ _. arrived next start c.args.query.now.sought c.note.new.self.flags.now (listed c.note.new.self.queue) heard.stand heard.sought
    (subst (λ found. More found (order next start)) (sym (begun next start _ _ c.clear.ensures.empty heard.heard)) (order_more next start 0 (omega arith))))

pub loop-place-init : goal.loop-place-init
loop-place-init g c =
    let next = g.R.Relation.follows c.args.query.now.relation.now in
    let heard = c.in_ok-note.ensures in
    record {
      lent = refl;
      kept = record { stand = heard.stand; unmet = heard.sought };
      round = record { is = begun next c.args.query.now.start _ _ c.clear.ensures.empty heard.heard; few = omega arith };
    }

pub hear_all-requires-clause-telling : goal.hear_all-requires-clause-telling
hear_all-requires-clause-telling g c =
    let next = g.R.Relation.follows c.args.query.now.relation.now in
    let at = c.in-Some.ensures in
    telling_begins next c.args.query.now.start c.loop-place.place c.in-Some.number (listed c.loop-place.self.queue) c.loop-place.invariant.round
    (omega (arith, c.loop-place-test.true)) at.0 at.1

pub returns-after-loop-place-clause-outcome : goal.returns-after-loop-place-clause-outcome
returns-after-loop-place-clause-outcome g c =
    let loop = c.loop-place.invariant in
    whole (g.R.Relation.follows c.args.query.now.relation.now) c.args.query.now.start c.args.query.now.sought c.loop-place.self.flags.now
    (listed c.loop-place.self.queue) c.loop-place.place loop.kept loop.round (omega (arith, loop.kept.stand.room, c.loop-place-test.false))

pub returns-in_default-clause-outcome : goal.returns-in_default-clause-outcome
returns-in_default-clause-outcome g c =
    let loop = c.loop-place.invariant in
    whole (g.R.Relation.follows c.args.query.now.relation.now) c.args.query.now.start c.args.query.now.sought c.loop-place.self.flags.now
    (listed c.loop-place.self.queue) c.loop-place.place loop.kept loop.round c.in_default.ensures
