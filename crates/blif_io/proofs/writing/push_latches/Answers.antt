use Rattle.std.proofs.Common.{ℕ, List, ◌++◌, sym, ap, ◌∙◌}
use Rattle.std.specs.List.{flat_map}
use Rattle.netlist.specs.Netlist.{driver_of}
use Rattle.board.specs.Board.{netlist_of}
use Rattle.blif.specs.Statement.{Statement}
use Rattle.blif.specs.Written.{latch_statement}
use Rattle.blif_io.specs.Writing.{spelled_statements}
use Rattle.blif_io.proofs.Listing.{grown_range, each-join, each-one}
use Rattle.blif_io.proofs.writing.push_latches.Goals as goal

pub loop-signal-preserved : goal.loop-signal-preserved
loop-signal-preserved g c =
    let each : ℕ → List Statement = λ s. latch_statement c.args.names.now.signals s (driver_of (netlist_of c.args.editor.now.signals c.args.editor.now.words.image) s) in
    grown_range (λ xs. spelled_statements (flat_map each xs)) (each-join each) c.loop-signal.signal _ _ _ c.loop-signal.invariant
    (c.in_ok-push_latch.ensures ∙ ap (λ l. c.loop-signal.out.items ++ l) (sym (each-one each c.loop-signal.signal)))
