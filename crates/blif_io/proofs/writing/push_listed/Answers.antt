use Rattle.std.proofs.Common.{ℕ, Bool, List, map, sym, ap, ◌∙◌}
use Rattle.board.specs.Board.{netlist_of}
use Rattle.blif.specs.Description.{name_of}
use Rattle.blif.specs.Written.{spelled_names}
use Rattle.blif_io.specs.Writing.{lists}
use Rattle.blif_io.proofs.Listing.{grown_if, grown_not, names-join}
use Rattle.blif_io.proofs.writing.push_listed.Goals as goal
use Rattle.blif_io.proofs.writing.push_listed.Goals.{then-is_listed+in_ok-push_signals, else-is_listed}

pub loop-signal-preserved : goal.loop-signal-preserved
loop-signal-preserved g c =
    let f = name_of c.args.names.now.signals in
    let p : ℕ → Bool = λ s. lists c.args.listing (netlist_of c.args.editor.now.signals c.args.editor.now.words.image) s in
    let text : List ℕ → List ℕ = λ xs. spelled_names (map f xs) in
    elim c.if-is_listed.branch [
      | then-is_listed+in_ok-push_signals w ↦
          grown_if text (names-join f) p c.loop-signal.signal _ _ _ c.loop-signal.invariant (sym c.is_listed.ensures ∙ w.if-is_listed.true) (ap (λ o. o.items) w.out-is ∙ w.in_ok-push_signals.ensures)
      | else-is_listed w ↦ grown_not text (names-join f) p c.loop-signal.signal _ _ _ c.loop-signal.invariant (sym c.is_listed.ensures ∙ w.if-is_listed.false) (ap (λ o. o.items) w.out-is)
    ]
