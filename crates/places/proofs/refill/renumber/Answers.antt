use Rattle.std.proofs.Common.{◌+◌, ◌*◌, sym, ap, ◌∙◌, subst, arith}
use Rattle.board.specs.Layout.{word}
use Rattle.board.proofs.Writes.{only_words-trans, only_words-set}
use Rattle.places.specs.Refill.{Renumbered}
use Rattle.places.proofs.Seating.{seated_more}
use Rattle.places.proofs.refill.renumber.Goals as goal

pub loop-place-preserved : goal.loop-place-preserved
loop-place-preserved g c =
    let b = c.args.board.now in
    let l = c.loop-place.board in
    let same = c.loop-place.invariant.1.stays.signals in (
      λ range perm.
          subst (Renumbered b.signals b.words.image c.args.span.low (c.loop-place.place + 1)) (sym (ap (λ x. x.words.image) c.write.ensures))
          (seated_more b.signals b.words.image c.args.span.low c.args.span.high range perm c.loop-place.place (3 * l.signals + c.read-signal.result) c.read-signal.result
          l.words.image c.loop-place.auto.place (omega (arith, range.within, range.few, c.loop-place-test.true, c.end-place-end.ensures.next (omega (arith, range.within, range.few))))
          (c.loop-place.invariant.0 range perm) (c.read-signal.ensures ∙ ap (λ k. word l.words.image (4 * k + c.loop-place.place)) same) (ap (λ k. 3 * k + c.read-signal.result) same)),
      only_words-trans b l c.write.new.self c.loop-place.invariant.1 (only_words-set l c.write.new.self _ _ c.write.ensures),
    )
