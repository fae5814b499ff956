use Rattle.std.proofs.Common.{◌+◌, ◌*◌, refl, ap, ◌∙◌, arith}
use lib.Seq.{paste}
use Rattle.words.proofs.Shots.{opens, opens_lent, opens_none}
use Rattle.words.proofs.snapshot.SnapshotStore.open_level.Goals as goal

pub returns-then-from-self-clause-opens : goal.returns-then-from-self-clause-opens
returns-then-from-self-clause-opens c =
    let self = c.args.self.now in
    (refl, opens_none self.words.now self.shape.size self.shape.limit self.depth (omega (arith, c.from.ensures, c.if-from-self.true)), refl)

pub returns-clause-opens : goal.returns-clause-opens
returns-clause-opens c =
    let self = c.args.self.now in
    opens self.words.now self.shape.size self.shape.limit c.save.new.words self.depth (omega (arith, c.from.ensures, c.if-from-self.false))
    (c.save.ensures ∙ ap (λ n. paste self.words.now ((self.depth + 1) * n) self.words.now n) c.part_size-size.ensures)

pub returns-clause-behind : goal.returns-clause-behind
returns-clause-behind c =
    let self = c.args.self.now in
    opens_lent self.words.now self.shape.size self.shape.limit self.words.ghost_name c.save.new.words self.depth (omega (arith, c.from.ensures, c.if-from-self.false))
    (c.save.ensures ∙ ap (λ n. paste self.words.now ((self.depth + 1) * n) self.words.now n) c.part_size-size.ensures)
