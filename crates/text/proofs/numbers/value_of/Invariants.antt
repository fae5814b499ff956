use Rattle.std.proofs.Common.{◌≡◌, ◌+◌, ◌*◌, ◌^◌, ◌<◌, true, length, drop}
use Rattle.std.specs.List.{list_all}
use Rattle.text.specs.Decimal.{is_digit_lem, value}
use Rattle.text.proofs.numbers.value_of.Given as goal

abbrev pub invariant-loop-d : goal.invariant-loop-d
invariant-loop-d l = (l.n < 10 ^ l.d-index) × (list_all is_digit_lem (drop l.d-index l.digits) ≡ true) × (l.n * 10 ^ length (drop l.d-index l.digits) + value (drop l.d-index l.digits) ≡ value l.digits)
