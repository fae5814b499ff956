use Rattle.std.proofs.Common.{◌≡◌, suc, ◌+◌, ◌-◌, ◌*◌, ◌≤◌, length, sym, ap, ◌∙◌, subst, arith}
use Rattle.board.specs.Layout.{word}
use Rattle.board.proofs.Writes.{only_words-refl, only_words-trans, only_words-set}
use Rattle.places.specs.Refill.{Range, Walked, flagged}
use Rattle.places.proofs.Counting.{told-flagged}
use Rattle.places.proofs.Filling.{walked_none, walked_holds, walked_writes}
use Rattle.places.proofs.refill.fill_others.Goals as goal
use Rattle.places.proofs.refill.fill_others.Goals.{then-moves, else-moves}

pub loop-place-init : goal.loop-place-init
loop-place-init g c =
    let b = c.args.board.now in
    let low = c.args.span.low in (
      λ range.
          let none : low - low ≡ 0 = omega arith in
          subst (λ k. Walked (flagged c.args.search.now.flags.now) b.signals b.words.image low k b.words.image low c.new-held.result.items) (sym none)
          (walked_none (flagged c.args.search.now.flags.now) b.signals b.words.image low c.args.span.high range c.new-held.result.items c.new-held.ensures),
      omega (arith, ap length c.new-held.ensures),
      omega arith,
      omega (arith, ap length c.new-held.ensures),
      only_words-refl b,
    )

pub loop-place-preserved : goal.loop-place-preserved
loop-place-preserved g c =
    let b = c.args.board.now in
    let l = c.loop-place.board in
    let m = b.signals in
    let ws = b.words.image in
    let low = c.args.span.low in
    let high = c.args.span.high in
    let f = flagged c.args.search.now.flags.now in
    let same = c.loop-place.invariant.4.stays.signals in
    let read : c.read-signal.result ≡ word l.words.image (4 * m + c.loop-place.place) =
    c.read-signal.ensures ∙ ap (λ k. word l.words.image (4 * k + c.loop-place.place)) same in
    let told = told-flagged c.args.search.now.flags.now c.read-signal.result c.contains-moves.result c.contains-moves.ensures.flag in
    let inside : Range m ws low high → c.loop-place.place ≤ high =
    λ range. omega (arith, range.within, range.few, c.loop-place-test.true, c.end-place-end.ensures.next (omega (arith, range.within, range.few))) in
    elim c.if-moves.branch [
      | then-moves w ↦
          rw (w.board-is, w.held-is, w.next-is) (
            λ range.
                walked_holds f m ws low high range c.loop-place.place c.loop-place.next l.words.image c.loop-place.held.items
                c.loop-place.auto.place (inside range) (c.loop-place.invariant.0 range) c.read-signal.result w.push.new.self.items read
                (told ∙ w.if-moves.true) w.push.ensures.items,
            omega (arith, c.loop-place.invariant.1, w.push.ensures.len),
            omega (arith, c.loop-place-test.true, c.end-place-end.ensures.few),
            omega (arith, c.loop-place.invariant.1, w.push.ensures.len, c.loop-place-test.true, c.end-place-end.ensures.few),
            c.loop-place.invariant.4,
          )
      | else-moves w ↦
          rw (w.board-is, w.held-is, w.next-is) (
            λ range.
                subst (λ words. Walked f m ws low (c.loop-place.place + 1 - low) words (c.loop-place.next + 1) c.loop-place.held.items)
                (sym (ap (λ x. x.words.image) w.write.ensures))
                (walked_writes f m ws low high range c.loop-place.place c.loop-place.next l.words.image c.loop-place.held.items
                c.loop-place.auto.place (inside range) (c.loop-place.invariant.0 range) c.read-signal.result (4 * l.signals + c.loop-place.next) read
                (told ∙ w.if-moves.false) (ap (λ k. 4 * k + c.loop-place.next) same)),
            omega (arith, c.loop-place.invariant.1),
            omega (arith, c.loop-place-test.true, c.end-place-end.ensures.few),
            c.loop-place.invariant.3,
            only_words-trans b l w.write.new.self c.loop-place.invariant.4 (only_words-set l w.write.new.self _ _ w.write.ensures),
          )
    ]

pub returns : goal.returns
returns g c =
    let b = c.args.board.now in
    record {
      walked = λ range.
          let next = c.end-place-end.ensures.next (omega (arith, range.within, range.few)) in
          let top : c.loop-place.place ≡ suc c.args.span.high =
          omega (arith, next, c.loop-place-test.false, c.loop-place.auto.place-end (omega (arith, next, range.upward))) in
          subst (λ p. Walked (flagged c.args.search.now.flags.now) b.signals b.words.image c.args.span.low (p - c.args.span.low)
          c.loop-place.board.words.image c.loop-place.next c.loop-place.held.items) top (c.loop-place.invariant.0 range);
      few = c.loop-place.invariant.3;
      room = omega (arith, c.loop-place.invariant.1, c.loop-place.invariant.2);
      only = c.loop-place.invariant.4;
    }
