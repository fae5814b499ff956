use Rattle.std.proofs.Common.{◌++◌, ap, ◌∙◌, arith}
use Rattle.std.proofs.lemmas.List.{take_all}
use Rattle.board.specs.Board.{netlist_of, order_of}
use Rattle.blif_io.specs.Writing.{spelled_statements, gates_along}
use Rattle.blif_io.proofs.writing.push_gates.Goals as goal

pub returns : goal.returns
returns g c =
    let m = c.args.editor.now.signals in
    let o = order_of m c.args.editor.now.words.image in
    let long = c.signals-place-end.ensures.order.permutes.long in
    c.loop-place.invariant
    ∙ ap (λ l. c.args.out.now.items ++ spelled_statements (gates_along c.args.names.now.signals (netlist_of m c.args.editor.now.words.image) l))
    (take_all c.loop-place.place o (omega (arith, long, c.signals-place-end.ensures.count, c.loop-place-test.false)))
