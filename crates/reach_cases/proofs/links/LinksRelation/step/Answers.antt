use Rattle.std.proofs.Common.{◌<◌, ◌≤◌, length, rules, arith}
use Rattle.reach_cases.proofs.Upward.{rest-none, rest_behind}
use Rattle.reach_cases.proofs.links.LinksRelation.step.Goals as goal

pub returns-then-edge-eq-END : goal.returns-then-edge-eq-END
returns-then-edge-eq-END c = rest-none c.args.self.now.links.now c.args.edge (omega (arith, c.if-edge-eq-END.true))

pub returns-in_err-link : goal.returns-in_err-link
returns-in_err-link c =
    let past : length c.args.self.now.links.now ≤ c.args.edge = search rules in
    rw c.from_residual.ensures (rest-none c.args.self.now.links.now c.args.edge (omega (arith, past)))

pub returns-then-edge-link : goal.returns-then-edge-link
returns-then-edge-link c =
    let inside : c.args.edge < length c.args.self.now.links.now = search rules in
    rest_behind c.args.self.now.links.now c.args.edge _ c.in_ok-link.link.now (omega (arith, inside)) (search rules) (search rules)

pub returns-else-edge-link : goal.returns-else-edge-link
returns-else-edge-link c =
    let inside : c.args.edge < length c.args.self.now.links.now = search rules in
    rest_behind c.args.self.now.links.now c.args.edge _ c.in_ok-link.link.now (omega (arith, inside)) (search rules) (search rules)
