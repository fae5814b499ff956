use Rattle.std.proofs.Common.{◌-◌, length, Ok, sym, subst, arith}
use Rattle.words.specs.Meaning.{Drops}
use Rattle.words.specs.LogSteps.{meaning_of}
use Rattle.words.proofs.Logs.{meaning-fewer}
use Rattle.words.proofs.inverse_log.InverseLogStore.drop_level.Goals as goal

pub returns-clause-drops : goal.returns-clause-drops
returns-clause-drops c =
    let after = c.take_back.new.self in
    subst (λ m. Drops (meaning_of c.args.self.now) m (Ok tt))
    (sym (meaning-fewer after.words.now after.shape.size after.shape.limit (length after.noted.items - 1) after.noted.items c.pop.new.self.items (omega arith) c.pop.ensures.rest))
    c.take_back.ensures.drops
