use Rattle.std.proofs.Common.{ℕ, eqb, rules, subst}
use Rattle.table.specs.Bit.{bit}
use Rattle.table.specs.Line.{Holds}
use Rattle.table.specs.Row.{IsOne}
use Rattle.table.proofs.Build.{holds_passing}
use Rattle.table.proofs.Lines.{known_cover, known-means}
use Rattle.table.proofs.shape.Cover.table.Goals as goal

pub returns-clause-gives : goal.returns-clause-gives
returns-clause-gives c =
    let self = c.args.self.now in
    let one : ℕ → Type 0 = λ m. IsOne self.output (eqb (bit self.listed.bits m) 1) in
    let built =
    subst (λ pins. Holds pins c.passing.result.bits one) c.passing.ensures.pins
    (holds_passing c.passing.result one (rw c.passing.ensures.pins (λ m l. let told = c.passing.ensures.each m l in search rules))) in
    λ lines read. (
      known_cover self.listed.pins self.listed.bits self.output lines read,
      known-means self.listed.pins self.listed.bits c.passing.result.bits self.output lines read built,
    )
