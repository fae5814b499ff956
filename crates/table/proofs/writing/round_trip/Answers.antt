use Rattle.std.proofs.Common.{rules, tests, ap, ◌∙◌}
use Rattle.std.specs.Iterator.Adapters.{filter_callee}
use Rattle.table.specs.Written.{ones_below}
use Rattle.table.proofs.Rewritten.{lines, cut-plane, ones_yielded, wrote-more, wrote-refused, wrote-all}
use Rattle.table.proofs.writing.round_trip.Goals as goal

pub returns-in_err-line : goal.returns-in_err-line
returns-in_err-line c =
    let table = c.args.table in
    let ones = c.loop-minterm.yielded in
    let inv = c.loop-minterm.invariant in
    let told = c.in_err-line.ensures in
    let is = cut-plane table.pins c.in-Some.minterm c.plane-plane.result table.few c.plane-plane.ensures in
    absurd (wrote-refused table ones c.loop-minterm.cover inv c.in-Some.minterm c.line.new.self.listed.pins _ _ is told.same.0 (told.takes (lines table ones c.loop-minterm.cover inv) inv.read))

pub loop-minterm-preserved : goal.loop-minterm-preserved
loop-minterm-preserved c =
    let table = c.args.table in
    let ones = c.loop-minterm.yielded in
    let inv = c.loop-minterm.invariant in
    let told = c.in_ok-line.ensures in
    let is = cut-plane table.pins c.in-Some.minterm c.plane-plane.result table.few c.plane-plane.ensures in
    wrote-more table ones c.loop-minterm.cover inv c.in-Some.minterm _ c.line.new.self is told.same.0 (told.takes (lines table ones c.loop-minterm.cover inv) inv.read).2

pub returns : goal.returns
returns c =
    let table = c.args.table in
    let ones = c.loop-minterm.yielded in
    let inv = c.loop-minterm.invariant in
    let told = c.table.ensures in
    let all = ones_yielded _ table.bits c.rows.result ones c.into_iter-minterm-iterator.result c.loop-minterm.minterm-iterator c.next.new.self c.next.result (cc) (ap filter_callee c.into_iter-minterm-iterator.ensures.into_iter_gives ∙ c.filter-minterm-items.ensures.closure) c.loop-minterm.yielded_by c.in-None.is c.next.ensures.steps (λ x b q k. search (rules, tests)) in
    (told.pins ∙ inv.same, wrote-all table ones c.loop-minterm.cover inv c.table.result.bits (all ∙ ap (ones_below table.bits) c.rows.ensures.value) told.gives)
