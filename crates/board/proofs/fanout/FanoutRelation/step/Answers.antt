use Rattle.std.proofs.Common.{◌≡◌, ◌∙◌, inl, arith}
use Rattle.board.proofs.Upward.{rest-none, step-none, step_some}
use Rattle.board.proofs.fanout.FanoutRelation.step.Goals as goal

pub returns-in_err-pin : goal.returns-in_err-pin
returns-in_err-pin g c =
    let b = c.args.self.now.board.now in
    let none : c.args.edge ≡ 0 = omega (arith, c.in_err-pin.ensures) in
    rw c.from_residual.ensures (rest-none b.signals b.words.image c.args.self.now.upto c.args.self.now.start c.args.edge (inl none))

pub returns-then-not-has_pin : goal.returns-then-not-has_pin
returns-then-not-has_pin g c =
    let b = c.args.self.now.board.now in
    step-none b.signals b.words.image c.args.self.now.upto c.args.self.now.start c.args.edge c.in_ok-pin.pin (c.in_ok-pin.ensures.1) c.if-not-has_pin.ensures

pub returns : goal.returns
returns g c =
    let b = c.args.self.now.board.now in
    step_some b.signals b.words.image c.args.self.now.upto c.args.self.now.start c.args.edge c.in_ok-pin.pin c.read-link.result c.unwrap_or.result c.upward.result
    c.in_ok-pin.ensures.0 c.in_ok-pin.ensures.1 c.if-not-has_pin.ensures c.read-link.ensures (c.unwrap_or.ensures ∙ c.gate_of.ensures) c.upward.ensures
