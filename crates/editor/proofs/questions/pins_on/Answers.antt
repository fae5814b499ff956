use Rattle.std.proofs.Common.{◌≡◌, length, get_or, arith, rules}
use Rattle.editor.proofs.Pinned.{got_none, got_more, got_end, got_all}
use Rattle.editor.proofs.questions.pins_on.Goals as goal

pub loop-word-init : goal.loop-word-init
loop-word-init c = got_none c.args.words c.none-pins.result c.none-pins.ensures

pub push-requires : goal.push-requires
push-requires c =
    let four : length c.args.words ≡ 4 = search rules in
    omega (arith, four, c.loop-word.invariant.many, c.loop-word-test.true)

pub loop-word-preserved : goal.loop-word-preserved
loop-word-preserved c =
    let four : length c.args.words ≡ 4 = search rules in
    got_more c.args.words c.loop-word.pins c.loop-word.word-index c.push.new.self c.in-Some.net (omega (arith, four, c.loop-word-test.true))
    c.in-Some.ensures.0 c.in-Some.ensures.1 c.push.ensures c.loop-word.invariant

pub returns-in_default : goal.returns-in_default
returns-in_default c =
    let four : length c.args.words ≡ 4 = search rules in
    let none : get_or c.args.words c.loop-word.word-index 0 ≡ 0 = omega (arith, c.in_default.ensures) in
    got_end c.args.words c.loop-word.pins c.loop-word.word-index (omega (arith, four, c.loop-word-test.true)) none c.loop-word.invariant

pub returns-after-loop-word : goal.returns-after-loop-word
returns-after-loop-word c =
    let four : length c.args.words ≡ 4 = search rules in
    got_all c.args.words c.loop-word.pins c.loop-word.word-index (omega (arith, four, c.loop-word-test.false)) c.loop-word.invariant
