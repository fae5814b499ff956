use Rattle.std.proofs.Common.{◌≡◌, ◌+◌, ◌-◌, ◌<◌, length, get_or, take, ap, subst, arith}
use Rattle.arrayvec.specs.ArrayVec.{ArrayVec}
use Rattle.words.specs.declared.shape.Shape.{Shape}
use Rattle.words.specs.InverseLog.{undo}
use Rattle.words.proofs.Logs.{stays_rest}
use Rattle.words.proofs.Steps.{rest_taken, taken_more}
use Rattle.words.proofs.inverse_log.InverseLog.undo_notes.Goals as goal

pub loop-place-preserved : goal.loop-place-preserved
loop-place-preserved c =
    let log = c.args.self.now in
    let now = c.loop-place.self in
    let so_far = c.loop-place.invariant in
    let size = ap (λ (s : Shape). s.size) so_far.shape in
    let depth = ap (λ (v : ArrayVec _). length v.items) so_far.noted in
    let count = ap (λ (v : ArrayVec _). get_or v.items c.args.level 0) so_far.noted in
    let counted = ap (λ xs. get_or xs c.args.level 0) c.deref.ensures.0 in
    let used : c.args.level < length now.noted.items = omega (arith, depth) in
    let noted : c.loop-place.place - 1 < get_or now.noted.items c.args.level 0 = omega (arith, count, counted) in
    let last : c.loop-place.place ≡ c.loop-place.place - 1 + 1 = omega arith in
    let left =
    subst (λ m. undo log.words.now log.shape.size c.args.level m (take log.shape.size now.words.now) ≡ undo log.words.now log.shape.size c.args.level (get_or log.noted.items c.args.level 0) (take log.shape.size log.words.now))
    last so_far.image in
    record {
      image = taken_more now c.args.level (c.loop-place.place - 1) c.noted_at-word.result.0 c.noted_at-word.result.1 used noted c.noted_at-word.ensures.word c.noted_at-word.ensures.value log.shape.size log.words.now _ size so_far.rest left;
      rest = rest_taken now c.args.level (c.loop-place.place - 1) c.noted_at-word.result.0 c.noted_at-word.result.1 used noted c.noted_at-word.ensures.word c.noted_at-word.ensures.value log.shape.size log.words.now size so_far.rest;
      shape = so_far.shape;
      noted = so_far.noted;
      lender = so_far.lender;
    }

pub returns-clause-stays : goal.returns-clause-stays
returns-clause-stays c =
    let loop = c.loop-place.invariant in stays_rest c.args.self.now c.loop-place.self loop.shape loop.lender loop.noted loop.rest
