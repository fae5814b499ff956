use Rattle.std.proofs.Common.{◌≡◌, ◌+◌, ◌-◌, ◌*◌, ◌^◌, length, get_or, drop, sym, ap, ◌∙◌, arith}
use Rattle.text.specs.Decimal.{value}
use Rattle.text.proofs.Digits.{value_more, digit_more, value_all, below_more}
use Rattle.text.proofs.numbers.value_of.Goals as goal

pub overflow_sub-d : goal.overflow_sub-d
overflow_sub-d c = (digit_more c.args.digits.now c.loop-d.d-index (omega arith) c.loop-d.invariant.1).0

pub loop-d-preserved : goal.loop-d-preserved
loop-d-preserved c =
    let ds = c.args.digits.now in
    let i = c.loop-d.d-index in
    let at = digit_more ds i (omega arith) c.loop-d.invariant.1 in
    let is : c.from.result ≡ get_or ds i 0 - 48 = c.from.ensures in (
      below_more c.loop-d.n c.from.result i c.loop-d.invariant.0 (omega (arith, is, at.0, at.1)),
      at.2,
      ap (λ d. (c.loop-d.n * 10 + d) * 10 ^ length (drop (i + 1) ds) + value (drop (i + 1) ds)) is ∙ sym (value_more ds i (omega arith) c.loop-d.n) ∙ c.loop-d.invariant.2,
    )

pub returns : goal.returns
returns c = sym (value_all c.args.digits.now c.loop-d.d-index c.loop-d.n (omega arith)) ∙ c.loop-d.invariant.2
