use Rattle.std.proofs.Common.{rules, sym}
use Rattle.memory.proofs.Returned.{view-returned}
use Rattle.memory.proofs.Memory.snapshot.Goals as goal

pub returns : goal.returns
returns c = ((sym c.new.ensures.lender, λ ws. view-returned c.self.inside c.args.self.now ws c.self.view_is), record { lends = tt; gives = search rules })
