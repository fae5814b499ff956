use Rattle.words.proofs.Shots.{laid-shot}
use Rattle.words.proofs.snapshot.SnapshotOverMemory.over.Goals as goal

pub returns-clause-laid : goal.returns-clause-laid
returns-clause-laid c = laid-shot c.args.size c.args.limit c.args.words.now c.requires
