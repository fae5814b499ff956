use Rattle.std.proofs.Common.{◌-◌, length, Ok, sym, subst, arith}
use Rattle.words.specs.Meaning.{Keeps}
use Rattle.words.specs.LogSteps.{meaning_of}
use Rattle.words.proofs.Logs.{meaning-fewer}
use Rattle.words.proofs.inverse_log.InverseLogStore.keep_level.Goals as goal

pub returns-clause-keeps : goal.returns-clause-keeps
returns-clause-keeps c =
    let after = c.hand_down.new.self in
    subst (λ m. Keeps (meaning_of c.args.self.now) m (Ok tt))
    (sym (meaning-fewer after.words.now after.shape.size after.shape.limit (length after.noted.items - 1) after.noted.items c.pop.new.self.items (omega arith) c.pop.ensures.rest))
    c.hand_down.ensures.keeps
