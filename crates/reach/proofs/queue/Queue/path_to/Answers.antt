use Rattle.std.proofs.Common.{rules}
use Rattle.reach.proofs.Answered.{look_up}
use Rattle.reach.proofs.queue.Queue.path_to.Goals as goal

pub returns : goal.returns
returns c = λ next start flags searched.
    look_up next start c.args.number flags c.args.self.now.found.items c.place_of.result c.map.result searched c.place_of.ensures (search rules)
