use Rattle.std.proofs.Common.{◌≡◌, ℕ, ◌^◌, ◌<◌, ◌≤◌, true, false, eqb, Some, None, Option, MatchOption, arith, rules, tests}
use Rattle.std.proofs.lemmas.Bool.{eqb-true, eqb-false}
use Rattle.std.proofs.lemmas.Iterator.{first_from_Range}
use Rattle.table.specs.Bit.{bit}
use Rattle.table.specs.Written.{NextOne}
use Rattle.std.proofs.lemmas.Nat.Bits.{bit_at-lt}
use Rattle.table.proofs.shape.Table.next_one.Goals as goal

none_is_zero : (bits m : ℕ) → eqb (bit bits m) 1 ≡ false → bit bits m ≡ 0
none_is_zero bits m none = omega (arith, bit_at-lt bits m, eqb-false (bit bits m) 1 none)

next_found :
    (pins rows bits from : ℕ) (r : Option ℕ)
    → MatchOption r ((m : ℕ) → from ≤ m → m < rows → eqb (bit bits m) 1 ≡ false)
    (λ one. (from ≤ one) × (one < rows) × (eqb (bit bits one) 1 ≡ true) × ((m : ℕ) → from ≤ m → m < one → eqb (bit bits m) 1 ≡ false))
    → rows ≡ 2 ^ pins → NextOne pins bits from r
next_found pins rows bits from None none all = λ m l h. none_is_zero bits m (none m l (omega arith))
next_found pins rows bits from (Some one) found all =
    (found.0, omega (arith, found.1), eqb-true _ 1 found.2, λ m l h. none_is_zero bits m (found.3 m l h))

pub returns : goal.returns
returns c =
    let bits = c.args.self.bits in
    next_found c.args.self.pins _ bits c.args.from c.find.result
    (first_from_Range _ _ _ c.find.result (λ m. eqb (bit bits m) 1 ≡ true) (λ m. eqb (bit bits m) 1 ≡ false) c.find.ensures.ran
    (λ m q k. search (rules, tests)) (λ m q k. search (rules, tests)))
    (omega (arith, c.rows.ensures.value))
