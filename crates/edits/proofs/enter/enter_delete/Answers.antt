use Rattle.std.proofs.Common.{ap}
use Rattle.board.proofs.Writes.{only_words-trans, only_words-set}
use Rattle.edits.proofs.Writing.{deleted}
use Rattle.edits.proofs.enter.enter_delete.Goals as goal

pub returns : goal.returns
returns g c =
    let b = c.args.board.now in
    let off = c.detach_all.new.board in
    record {
      enters = λ site.
          deleted b.signals b.words.image c.args.signal.number site off.words.image c.set_kind.new.self.words.image (c.detach_all.ensures.detaches site)
          (ap (λ x. x.words.image) c.set_kind.ensures);
      only = only_words-trans b off c.set_kind.new.self c.detach_all.ensures.only (only_words-set off c.set_kind.new.self _ _ c.set_kind.ensures);
    }
