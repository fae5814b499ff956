use Rattle.std.proofs.Common.{◌≡◌, ◌+◌, ◌*◌, set, ap, ◌∙◌}
use Rattle.board.specs.Kinds.{word_of}
use Rattle.board.proofs.Writes.{only_words-trans, only_words-set}
use Rattle.edits.proofs.Carried.{wires-same}
use Rattle.edits.proofs.Writing.{still_wirable, driver_entered}
use Rattle.edits.proofs.enter.enter_driver.Goals as goal

pub returns : goal.returns
returns g c =
    let b = c.args.board.now in
    let m = b.signals in
    let ws = b.words.image in
    let s = c.args.signal.number in
    let kinded = c.set_kind.new.self in
    let headed = c.write.new.self in
    let kind = word_of c.args.kind in
    let first = only_words-set b kinded _ _ c.set_kind.ensures in
    let both = only_words-trans b kinded headed first (only_words-set kinded headed _ _ c.write.ensures) in
    let written : headed.words.image ≡ set (set ws s kind) (2 * m + s) c.args.value =
    ap (λ x. x.words.image) c.write.ensures
    ∙ (λ i. set (c.set_kind.ensures i).words.image (2 * (first.stays.signals i) + s) c.args.value) in
    record {
      enters = λ w.
          driver_entered m ws s c.args.pins c.args.nets w kind c.args.value headed.words.image written c.attach_all.new.board.words.image
          (wires-same headed.signals m headed.words.image s c.args.pins c.args.nets c.attach_all.new.board.words.image both.stays.signals c.attach_all.ensures.attaches
          (still_wirable m ws s c.args.pins c.args.nets w kind c.args.value headed.words.image written));
      only = only_words-trans b headed c.attach_all.new.board both c.attach_all.ensures.only;
    }
