use Rattle.std.proofs.Common.{◌-◌, get_or, ap, ◌∙◌, arith}
use Rattle.words.specs.declared.shape.Shape.{Shape}
use Rattle.words.specs.InverseLog.{word_at, value_at}
use Rattle.words.proofs.Logs.{stays_then}
use Rattle.words.proofs.Steps.{handed_more}
use Rattle.words.proofs.inverse_log.InverseLog.merge_down.Goals as goal

pub loop-place-preserved : goal.loop-place-preserved
loop-place-preserved c =
    let log = c.args.self.now in
    let now = c.loop-place.self in
    let so_far = c.loop-place.invariant in
    let size = ap (λ (s : Shape). s.size) so_far.stays.shape in
    let few = log.counted c.args.level (omega arith) in
    let count = ap (λ xs. get_or xs c.args.level 0) c.deref.ensures.0 in
    record {
      notes =
          handed_more log.shape.size log.shape.limit now.shape.size now.shape.limit (c.args.level - 1) c.args.level c.loop-place.place _ _
          log.words.now log.noted.items now.words.now now.noted.items c.note.new.self.words.now c.note.new.self.noted.items
          size (ap (λ (s : Shape). s.limit) so_far.stays.shape) (omega arith) (omega (arith, few, count))
          (c.noted_at-word.ensures.word ∙ ap (λ m. word_at now.words.now m c.args.level c.loop-place.place) size)
          (c.noted_at-word.ensures.value ∙ ap (λ m. value_at now.words.now m c.args.level c.loop-place.place) size)
          so_far.notes c.note.ensures.notes;
      stays = stays_then log now c.note.new.self so_far.stays c.note.ensures.stays;
    }
