use Rattle.std.proofs.Common.{◌≡◌, length, set, ap, ◌∙◌, arith}
use Rattle.words.specs.Meaning.{size}
use Rattle.words.specs.InverseLog.{log_meaning}
use Rattle.words.proofs.Logs.{set_told}
use Rattle.words.proofs.inverse_log.InverseLogStore.set.Goals as goal

pub returns : goal.returns
returns c =
    let noted = c.remember.new.self in
    let written = c.write.new.self in
    let h = c.remember.ensures in
    let w = c.write.ensures in
    let told = set_told c.args.self.now noted c.args.at c.args.word (omega arith) h.image h.saved h.stays in
    let same
    : log_meaning written.words.now written.shape.size written.shape.limit (length written.noted.items) written.noted.items
    ≡ log_meaning (set noted.words.now c.args.at c.args.word) noted.shape.size noted.shape.limit (length noted.noted.items) noted.noted.items =
    λ i. log_meaning (w.words i) (w.stays.shape i).size (w.stays.shape i).limit (length (w.noted i).items) (w.noted i).items in
    record { sets = (told.0, same ∙ told.1, ap size same ∙ told.2); behind = w.stays.lent ∙ h.stays.lent }
