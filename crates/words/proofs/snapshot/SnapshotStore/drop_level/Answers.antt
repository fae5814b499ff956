use Rattle.std.proofs.Common.{◌≡◌, suc, ◌+◌, ◌-◌, ◌*◌, ◌<◌, min, drop, ap, ◌∙◌, arith}
use native.Mathlib.Nat.{min-le_right}
use lib.Seq.{paste}
use Rattle.words.proofs.Shots.{drops, drops_lent}
use Rattle.words.proofs.snapshot.SnapshotStore.drop_level.Goals as goal

pub returns-clause-drops : goal.returns-clause-drops
returns-clause-drops c =
    let self = c.args.self.now in
    let level = c.open_levels-depth.result - 1 in
    let some : min self.depth self.shape.limit ≡ suc level = omega arith in
    drops self.words.now self.shape.size self.shape.limit c.restore.new.words self.depth level some
    (c.restore.ensures ∙ ap (λ n. paste self.words.now 0 (drop ((level + 1) * n) self.words.now) n) c.part_size-size.ensures)

pub returns-clause-behind : goal.returns-clause-behind
returns-clause-behind c =
    let self = c.args.self.now in
    let level = c.open_levels-depth.result - 1 in
    let below : level < self.shape.limit = omega (arith, min-le_right self.depth self.shape.limit) in
    drops_lent self.words.now self.shape.size self.shape.limit self.words.ghost_name c.restore.new.words level below
    (c.restore.ensures ∙ ap (λ n. paste self.words.now 0 (drop ((level + 1) * n) self.words.now) n) c.part_size-size.ensures)
