use Rattle.std.proofs.Common.{◌≡◌, ◌<◌, length, subst, arith, rules}
use Rattle.std.proofs.lemmas.List.{get_or-take, length-take-le}
use Rattle.board.proofs.Writes.{only_words-refl, only_words-trans}
use Rattle.edits.specs.Cells.{Changed, cell_at, as_wired}
use Rattle.edits.proofs.Carried.{Attaches, attaches-same}
use Rattle.edits.proofs.Writing.{wired_none, wired_more}
use Rattle.edits.proofs.enter.attach_all.Goals as goal

pub loop-pin-init : goal.loop-pin-init
loop-pin-init g c =
    let b = c.args.board.now in (λ w. wired_none b.signals b.words.image c.args.signal.number c.args.pins c.args.nets w, only_words-refl b)

pub loop-pin-preserved : goal.loop-pin-preserved
loop-pin-preserved g c =
    let b = c.args.board.now in
    let l = c.loop-pin.board in
    let i = c.loop-pin.pin in
    let q = c.pin.result in
    let row : length c.args.nets ≡ 4 = search rules in
    let counted = length-take-le c.min.result c.args.nets (omega (arith, row)) in
    let four : i < 4 = omega (arith, counted) in
    let few : i < c.args.pins = omega (arith, counted) in (
      λ w.
          wired_more b.signals b.words.image c.args.signal.number c.args.pins c.args.nets w i q
          l.words.image c.attach.new.self.words.image few c.pin.ensures (c.loop-pin.invariant.0 w)
          (subst (λ a. Attaches b.signals l.words.image q a c.attach.new.self.words.image) (get_or-take c.min.result c.args.nets i 0 (omega (arith, counted)))
          (attaches-same l.signals b.signals l.words.image q _ c.attach.new.self.words.image c.loop-pin.invariant.1.stays.signals c.attach.ensures.attaches)),
      only_words-trans b l c.attach.new.self c.loop-pin.invariant.1 c.attach.ensures.only,
    )

pub returns : goal.returns
returns g c =
    let b = c.args.board.now in
    let row : length c.args.nets ≡ 4 = search rules in
    let counted = length-take-le c.min.result c.args.nets (omega (arith, row)) in
    record {
      attaches = λ w.
          let all : c.loop-pin.pin ≡ c.args.pins = omega (arith, w.most, counted) in
          subst (λ k. Changed b.signals b.words.image c.args.signal.number (as_wired (cell_at b.signals b.words.image c.args.signal.number) k c.args.nets) c.loop-pin.board.words.image) all
          (c.loop-pin.invariant.0 w);
      only = c.loop-pin.invariant.1;
    }
