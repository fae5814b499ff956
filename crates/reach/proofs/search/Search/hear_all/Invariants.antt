use Rattle.std.proofs.Common.{◌≡◌}
use Rattle.reach.specs.Listed.{listed}
use Rattle.reach.specs.Steps.{Kept, Telling}
use Rattle.reach.proofs.search.Search.hear_all.Given as goal

abbrev pub invariant-loop-neighbour : goal.invariant-loop-neighbour
invariant-loop-neighbour g l =
    let left = l.neighbour-iterator in
    record {
      lent : l.self.flags.ghost_name ≡ l.initial.self.flags.ghost_name;
      kept : Kept l.query.sought l.self.flags.now (listed l.self.queue);
      telling :
          Telling (g.R.Relation.follows l.query.relation.now) l.query.start l.place (g.R.Relation.rest left.relation.now left.edge) (listed l.self.queue);
    }
