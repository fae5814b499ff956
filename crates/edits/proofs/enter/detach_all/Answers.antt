use Rattle.std.proofs.Common.{◌≡◌, ◌<◌, subst, arith}
use Rattle.board.proofs.Writes.{only_words-refl, only_words-trans}
use Rattle.edits.specs.Cells.{Changed, cell_at, as_unwired}
use Rattle.edits.proofs.Carried.{releases-same}
use Rattle.edits.proofs.Writing.{unwired_none, unwired_more}
use Rattle.edits.proofs.enter.detach_all.Goals as goal

pub loop-pin-init : goal.loop-pin-init
loop-pin-init g c =
    let b = c.args.board.now in (λ site. unwired_none b.signals b.words.image c.args.signal.number site, only_words-refl b)

pub loop-pin-preserved : goal.loop-pin-preserved
loop-pin-preserved g c =
    let b = c.args.board.now in
    let l = c.loop-pin.board in
    let i = c.loop-pin.pin in (
      λ site.
          let four : i < 4 = omega arith in
          unwired_more b.signals b.words.image c.args.signal.number site i c.pin.result
          l.words.image c.release.new.board.words.image four c.pin.ensures (c.loop-pin.invariant.0 site)
          (releases-same l.signals b.signals l.words.image c.pin.result c.release.new.board.words.image c.loop-pin.invariant.1.stays.signals c.release.ensures.releases),
      only_words-trans b l c.release.new.board c.loop-pin.invariant.1 c.release.ensures.only,
    )

pub returns : goal.returns
returns g c =
    let b = c.args.board.now in
    record {
      detaches = λ site.
          let all : c.loop-pin.pin ≡ 4 = omega arith in
          subst (λ k. Changed b.signals b.words.image c.args.signal.number (as_unwired (cell_at b.signals b.words.image c.args.signal.number) k) c.loop-pin.board.words.image) all
          (c.loop-pin.invariant.0 site);
      only = c.loop-pin.invariant.1;
    }
