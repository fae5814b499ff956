use Rattle.std.proofs.Common.{[], ◌∷◌, ◌++◌, map, codes, ap, ◌∙◌}
use Rattle.std.specs.Prelude.{vec_items}
use Rattle.std.specs.List.{flat_map, range_with_len}
use Rattle.netlist.specs.Netlist.{driver_of}
use Rattle.board.specs.Board.{netlist_of, order_of}
use Rattle.blif_io.specs.declared.calls.Listing.TheVariants.{Inputs, Outputs}
use Rattle.blif.specs.Statement.{Name, inputs, outputs}
use Rattle.blif.specs.Description.{name_of}
use Rattle.blif.specs.Written.{listing, latch_statement, gate_statement, spelled_line}
use Rattle.blif_io.specs.Writing.{listed_below}
use Rattle.blif_io.proofs.Pushing.{file_spelled}
use Rattle.blif_io.proofs.writing.file_text.Goals as goal

pub returns : goal.returns
returns g c =
    let m = c.args.editor.now.signals in
    let n = (netlist_of c.args.editor.now.signals c.args.editor.now.words.image) in
    let ns = c.args.names.now.signals in
    file_spelled (vec_items c.args.names.now.model) (listing inputs (map (name_of ns) (listed_below Inputs n m))) (listing outputs (map (name_of ns) (listed_below Outputs n m)))
    (flat_map (λ s. latch_statement ns s (driver_of n s)) (range_with_len 0 m)) (flat_map (λ s. gate_statement ns s (driver_of n s)) (order_of m c.args.editor.now.words.image))
    _ _ _ _ _ _ _ c.new-out.ensures.items
    (c.in_ok-push_line.ensures ∙ ap (λ (x : Name). vec_items c.new-out.result ++ spelled_line (codes ".model" ∷ x ∷ [])) c.model.ensures)
    c.in_ok-push_listing.ensures c.in_ok-push_listing-2.ensures c.in_ok-push_latches.ensures c.in_ok-push_gates.ensures c.in_ok-push_line-2.ensures
