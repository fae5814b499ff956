use Rattle.std.proofs.Common.{sym, subst, rules}
use Rattle.reach.specs.Told.{Earlier}
use Rattle.reach.proofs.Listed.{earlier_push}
use Rattle.reach.proofs.queue.Queue.push.Goals as goal

pub invariant_of-self : goal.invariant_of-self
invariant_of-self c =
    record { earlier = subst Earlier (sym (search rules)) (earlier_push c.args.self.now.found.items c.args.found c.args.self.now.earlier c.requires.told) }
