use Rattle.std.proofs.Common.{arith}
use Rattle.words.proofs.Shots.{set_told}
use Rattle.words.proofs.snapshot.SnapshotStore.set.Goals as goal

pub returns-clause-sets : goal.returns-clause-sets
returns-clause-sets c =
    let self = c.args.self.now in
    set_told self.words.now self.shape.size self.shape.limit c.put.new.words self.depth c.args.at c.args.word (omega arith) c.put.ensures
