use Rattle.std.proofs.Common.{◌+◌, ◌*◌, refl, ap, arith}
use Rattle.board.proofs.Writes.{only_words-refl, only_words-trans, only_words-set}
use Rattle.editor.proofs.Written.{size_more, seated_none, seated_more}
use Rattle.editor.proofs.making.seat_all.Goals as goal

pub loop-signal-init : goal.loop-signal-init
loop-signal-init g c = (only_words-refl c.args.board.now, refl, λ _. seated_none c.args.board.now.signals c.args.board.now.words.image)

pub loop-signal-preserved : goal.loop-signal-preserved
loop-signal-preserved g c =
    let b = c.args.board.now in
    let m = b.signals in
    let n = c.loop-signal.signal in
    let l = c.loop-signal.board in
    let d = c.write.new.self in
    let f = c.write-in-loop-signal.new.self in
    let only = c.loop-signal.invariant.0 in
    let first = only_words-trans b l d only (only_words-set l d _ _ c.write.ensures) in
    let one = ap (λ x. x.words) c.write.ensures in
    let two = ap (λ x. x.words) c.write-in-loop-signal.ensures in (
      only_words-trans b d f first (only_words-set d f _ _ c.write-in-loop-signal.ensures),
      size_more b.words d.words f.words (4 * d.signals + n) n two (size_more b.words l.words d.words (3 * l.signals + n) n one c.loop-signal.invariant.1),
      λ room. seated_more m n b.words.image l.words d.words f.words (3 * l.signals + n) (4 * d.signals + n) (omega (arith, c.loop-signal-test.true, c.signals-signal-end.ensures))
          (omega (arith, c.loop-signal.invariant.1, room)) one two (ap (λ k. 3 * k + n) only.stays.signals) (ap (λ k. 4 * k + n) first.stays.signals)
          (c.loop-signal.invariant.2 room),
    )
