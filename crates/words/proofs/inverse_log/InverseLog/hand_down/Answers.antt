use Rattle.std.proofs.Common.{◌≡◌, suc, ◌-◌, length, Ok, sym, subst, arith}
use Rattle.words.specs.Meaning.{Keeps}
use Rattle.words.specs.InverseLog.{log_meaning}
use Rattle.words.specs.LogSteps.{meaning_of}
use Rattle.words.proofs.Logs.{handed, keeps}
use Rattle.words.proofs.inverse_log.InverseLog.hand_down.Goals as goal

pub returns-then-level-gt0 : goal.returns-then-level-gt0
returns-then-level-gt0 c =
    let before = c.args.self.now in
    let after = c.merge_down.new.self in
    let h = c.merge_down.ensures in
    let level = c.len-level.result - 1 in
    let depth : length before.noted.items ≡ suc level = omega (arith, c.len-level.ensures.value) in
    let newest : length after.noted.items - 1 ≡ level = omega (arith, depth, h.stays.depth) in
    let saved =
    handed before after.words.now after.noted.items level (omega arith) (omega (arith, depth)) h.notes in
    let told =
    keeps before after.words.now after.noted.items level depth h.notes.image saved in
    record {
      keeps =
          subst (λ m. Keeps (meaning_of before) m (Ok tt))
          (sym (λ i. log_meaning after.words.now (h.stays.shape i).size (h.stays.shape i).limit (newest i) after.noted.items)) told;
      stays = h.stays;
    }
