use Rattle.std.proofs.Common.{◌≡◌}
use Rattle.reach.specs.Listed.{listed}
use Rattle.reach.specs.Steps.{Kept, Round}
use Rattle.reach.proofs.search.Search.fill.Given as goal

abbrev pub invariant-loop-place : goal.invariant-loop-place
invariant-loop-place g l =
    record {
      lent : l.self.flags.ghost_name ≡ l.initial.self.flags.ghost_name;
      kept : Kept l.query.sought l.self.flags.now (listed l.self.queue);
      round : Round (g.R.Relation.follows l.query.relation.now) l.query.start l.place (listed l.self.queue);
    }
