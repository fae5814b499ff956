use Rattle.std.proofs.Common.{◌≡◌, length, refl, arith}
use Rattle.words.proofs.Logs.{opens, opens_none}
use Rattle.words.proofs.inverse_log.InverseLogStore.open_level.Goals as goal

pub returns-then-len-self-clause-opens : goal.returns-then-len-self-clause-opens
returns-then-len-self-clause-opens c =
    let self = c.args.self.now in
    let full : self.shape.limit ≡ length self.noted.items = omega (arith, self.shallow, c.len.ensures.value) in
    (refl, opens_none self full, refl)

pub returns-clause-opens : goal.returns-clause-opens
returns-clause-opens c =
    let self = c.args.self.now in
    opens self c.push.new.self.items c.push.ensures.items (omega (arith, c.len.ensures.value))
