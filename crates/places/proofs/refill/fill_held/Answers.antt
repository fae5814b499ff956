use Rattle.std.proofs.Common.{◌≡◌, ◌+◌, ◌*◌, length, sym, refl, ap, subst, arith}
use Rattle.board.proofs.Writes.{only_words-refl, only_words-trans, only_words-set}
use Rattle.places.specs.Refill.{Reordered}
use Rattle.places.proofs.Filling.{pasted_none, pasted_more, pasted_all}
use Rattle.places.proofs.refill.fill_held.Goals as goal

pub loop-i-init : goal.loop-i-init
loop-i-init g c = (
  λ long room. pasted_none c.args.board.now.signals c.args.board.now.words.image c.args.from c.args.held.now long,
  only_words-refl c.args.board.now,
)

pub loop-i-preserved : goal.loop-i-preserved
loop-i-preserved g c =
    let b = c.args.board.now in
    let l = c.loop-i.board in (
      λ long room.
          subst (Reordered b.signals b.words.image _) (sym (ap (λ x. x.words.image) c.write.ensures))
          (pasted_more b.signals b.words.image c.args.from c.args.held.now long c.loop-i.i (4 * l.signals + (c.args.from + c.loop-i.i)) _ l.words.image
          (omega arith) (omega (arith, room)) (ap (λ k. 4 * k + (c.args.from + c.loop-i.i)) c.loop-i.invariant.1.stays.signals) refl (c.loop-i.invariant.0 long room)),
      only_words-trans b l c.write.new.self c.loop-i.invariant.1 (only_words-set l c.write.new.self _ _ c.write.ensures),
    )

pub returns : goal.returns
returns g c =
    record {
      writes = λ long room.
          let all : c.loop-i.i ≡ length c.args.held.now = omega arith in
          pasted_all c.args.board.now.signals c.args.board.now.words.image c.args.from c.args.held.now long
          (length c.args.held.now) c.loop-i.board.words.image refl c.loop-i.i all (c.loop-i.invariant.0 long room);
      only = c.loop-i.invariant.1;
    }
