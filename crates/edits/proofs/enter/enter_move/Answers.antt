use Rattle.board.proofs.Writes.{only_words-trans}
use Rattle.edits.proofs.Carried.{attaches-same}
use Rattle.edits.proofs.Writing.{moved}
use Rattle.edits.proofs.enter.enter_move.Goals as goal

pub returns : goal.returns
returns g c =
    let b = c.args.board.now in
    let s = c.args.signal.number in
    let off = c.release.new.board in
    record {
      enters = λ site lt.
          moved b.signals b.words.image s site c.args.pin.index c.pin-number.result c.args.net off.words.image c.attach.new.self.words.image
          c.args.pin.few lt c.pin-number.ensures c.release.ensures.releases
          (attaches-same off.signals b.signals off.words.image c.pin-number.result c.args.net c.attach.new.self.words.image c.release.ensures.only.stays.signals c.attach.ensures.attaches);
      only = only_words-trans b off c.attach.new.self c.release.ensures.only c.attach.ensures.only;
    }
