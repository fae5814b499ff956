use Rattle.std.proofs.Common.{◌≡◌, suc, length, refl, arith}
use Rattle.words.proofs.Logs.{remembered}
use Rattle.words.proofs.inverse_log.InverseLog.remember.Goals as goal

pub returns : goal.returns
returns c =
    let before = c.args.self.now in
    let after = c.note.new.self in
    let h = c.note.ensures in
    let level = c.in-Some.level in
    let depth : length before.noted.items ≡ suc level = omega (arith, c.in-Some.ensures) in
    record {
      image = h.notes.image;
      saved =
          remembered before after.words.now after.noted.items level c.args.at _ depth refl (omega arith) h.notes;
      stays = h.stays;
    }
