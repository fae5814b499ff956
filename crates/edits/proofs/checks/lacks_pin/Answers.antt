use Rattle.std.proofs.Common.{◌<◌, ◌∙◌, arith}
use Rattle.std.proofs.lemmas.Bool.{lt-ltb, cond-true}
use Rattle.board.proofs.Drivers.{tells_pin, few_pins}
use Rattle.edits.proofs.checks.lacks_pin.Goals as goal

pub returns-then-pin-gt3-clause-lacks : goal.returns-then-pin-gt3-clause-lacks
returns-then-pin-gt3-clause-lacks g c = λ sound. (
  λ _. few_pins c.args.board.now.signals c.args.board.now.words.image sound c.args.signal c.args.pin c.requires (omega arith),
  λ _. lt-ltb 3 c.args.pin c.if-pin-gt3.true,
)

pub returns-else-pin-gt3-clause-lacks : goal.returns-else-pin-gt3-clause-lacks
returns-else-pin-gt3-clause-lacks g c = λ sound.
    let b = c.args.board.now in
    let four : c.args.pin < 4 = omega arith in
    let told = c.pin.ensures ∙ cond-true _ _ _ (lt-ltb c.args.pin 4 four) ∙ cond-true _ _ _ (lt-ltb c.args.signal b.signals c.requires) in
    tells_pin b.signals b.words.image sound c.args.signal c.args.pin c.pin.result c.requires four told
