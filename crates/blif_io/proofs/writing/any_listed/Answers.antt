use Rattle.std.proofs.Common.{sym, ◌∙◌, arith}
use Rattle.board.specs.Board.{netlist_of}
use Rattle.blif_io.specs.Writing.{lists}
use Rattle.blif_io.proofs.Listing.{some_listed, none_listed}
use Rattle.blif_io.proofs.writing.any_listed.Goals as goal

pub returns-then-is_listed : goal.returns-then-is_listed
returns-then-is_listed g c =
    some_listed (λ s. lists c.args.listing (netlist_of c.args.editor.now.signals c.args.editor.now.words.image) s) c.args.editor.now.signals c.loop-signal.signal
    (omega (arith, c.loop-signal-test.true, c.signals-signal-end.ensures.count)) (sym c.is_listed.ensures ∙ c.if-is_listed.true)

pub returns : goal.returns
returns g c =
    none_listed (λ s. lists c.args.listing (netlist_of c.args.editor.now.signals c.args.editor.now.words.image) s) c.args.editor.now.signals
    (λ k lt. c.loop-signal.invariant k (omega (arith, c.loop-signal-test.false, c.signals-signal-end.ensures.count)))
