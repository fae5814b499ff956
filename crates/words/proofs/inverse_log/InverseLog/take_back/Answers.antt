use Rattle.std.proofs.Common.{◌≡◌, suc, ◌-◌, length, Ok, sym, subst, arith}
use Rattle.words.specs.Meaning.{Drops}
use Rattle.words.specs.InverseLog.{log_meaning}
use Rattle.words.specs.LogSteps.{meaning_of}
use Rattle.words.proofs.Logs.{drops}
use Rattle.words.proofs.inverse_log.InverseLog.take_back.Goals as goal

pub returns : goal.returns
returns c =
    let before = c.args.self.now in
    let after = c.undo_notes.new.self in
    let h = c.undo_notes.ensures in
    let level = c.len-level.result - 1 in
    let depth : length before.noted.items ≡ suc level = omega (arith, c.len-level.ensures.value) in
    let newest : length after.noted.items - 1 ≡ level = omega (arith, depth, h.stays.depth) in
    let told = drops before after.words.now level depth h.image h.rest in
    record {
      drops =
          subst (λ m. Drops (meaning_of before) m (Ok tt))
          (sym (λ i. log_meaning after.words.now (h.stays.shape i).size (h.stays.shape i).limit (newest i) (h.noted i).items)) told;
      stays = h.stays;
    }
