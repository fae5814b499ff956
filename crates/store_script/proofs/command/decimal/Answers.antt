use Rattle.std.proofs.Common.{◌<◌, length, arith, rules, tests}
use Rattle.std.proofs.lemmas.Bool.Decides.{nat_tests}
use Rattle.std.proofs.lemmas.Iterator.{YieldsList-from_slice}
use Rattle.store_script.proofs.Folding.{decimal_read}
use Rattle.store_script.proofs.command.decimal.Goals as goal

pub returns : goal.returns
returns c =
    let text = c.args.text.now in
    let some : 0 < length text = grind (arith, nat_tests, c.if-is_empty.ensures) in
    decimal_read _ _ (λ b. b.now) _ _ (λ n x r q k. search (rules, tests)) text _ _ c.try_fold.result some (YieldsList-from_slice text (cc)) (search rules) c.try_fold.ensures.ran
