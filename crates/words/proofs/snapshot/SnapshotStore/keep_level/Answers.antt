use Rattle.std.proofs.Common.{◌-◌, arith}
use Rattle.words.proofs.Shots.{keeps}
use Rattle.words.proofs.snapshot.SnapshotStore.keep_level.Goals as goal

pub returns-clause-keeps : goal.returns-clause-keeps
returns-clause-keeps c =
    let self = c.args.self.now in
    keeps self.words.now self.shape.size self.shape.limit self.depth (c.open_levels-depth.result - 1) (omega arith)
