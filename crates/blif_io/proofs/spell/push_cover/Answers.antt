use Rattle.std.proofs.Common.{ℕ, Bool, List, ◌++◌, map, sym, ap, ◌∙◌}
use Rattle.std.specs.Prelude.{nat_eq}
use Rattle.std.proofs.lemmas.List.{append-nil}
use Rattle.table.specs.Bit.{bit}
use Rattle.table.specs.Written.{line_at}
use Rattle.blif.specs.Statement.{cover_words}
use Rattle.blif.specs.Written.{spelled_line, spelled}
use Rattle.blif_io.proofs.Listing.{grown_if, grown_not, covers-join}
use Rattle.blif_io.proofs.spell.push_cover.Goals as goal
use Rattle.blif_io.proofs.spell.push_cover.Goals.{then-value+in_ok-push_minterm, else-value}

pub loop-minterm-preserved : goal.loop-minterm-preserved
loop-minterm-preserved c =
    let k = c.args.table.pins in
    let p : ℕ → Bool = λ m. nat_eq (bit c.args.table.bits m) 1 in
    let text : List ℕ → List ℕ = λ xs. spelled (map (cover_words k) (map (line_at k) xs)) in
    elim c.if-value.branch [
      | then-value+in_ok-push_minterm w ↦
          grown_if text (covers-join k) p c.loop-minterm.minterm _ _ _ c.loop-minterm.invariant (sym c.value.ensures ∙ w.if-value.true)
          (ap (λ o. o.items) w.out-is ∙ w.in_ok-push_minterm.ensures
          ∙ ap (λ j. c.loop-minterm.out.items ++ spelled_line (cover_words j (line_at j c.loop-minterm.minterm))) w.pins.ensures ∙ ap (λ l. c.loop-minterm.out.items ++ l) (sym (append-nil (spelled_line (cover_words k (line_at k c.loop-minterm.minterm))))))
      | else-value w ↦ grown_not text (covers-join k) p c.loop-minterm.minterm _ _ _ c.loop-minterm.invariant (sym c.value.ensures ∙ w.if-value.false) (ap (λ o. o.items) w.out-is)
    ]
