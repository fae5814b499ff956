use Rattle.std.proofs.Common.{◌≡◌, get_or, take, drop}
use Rattle.words.specs.InverseLog.{undo}
use Rattle.words.proofs.inverse_log.InverseLog.undo_notes.Given as goal

abbrev pub invariant-loop-place : goal.invariant-loop-place
invariant-loop-place l =
    let ws = l.initial.self.words.now in
    let n = l.initial.self.shape.size in
    record {
      image : undo ws n l.level l.place (take n l.self.words.now) ≡ undo ws n l.level (get_or l.initial.self.noted.items l.level 0) (take n ws);
      rest : drop n l.self.words.now ≡ drop n ws;
      shape : l.self.shape ≡ l.initial.self.shape;
      noted : l.self.noted ≡ l.initial.self.noted;
      lender : l.self.words.ghost_name ≡ l.initial.self.words.ghost_name;
    }
