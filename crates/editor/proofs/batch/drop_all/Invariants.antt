use Rattle.std.proofs.Common.{◌≡◌}
use Rattle.words.specs.Meaning.{levels}
use Rattle.board.specs.Stored.{Stays}
use Rattle.editor.specs.Calls.{emptied}
use Rattle.editor.proofs.batch.drop_all.Given as goal

abbrev pub invariant-loop : goal.invariant-loop
invariant-loop g l = (emptied l.board.words ≡ emptied l.initial.board.words) × Stays l.initial.board l.board

abbrev pub decreases-loop : goal.decreases-loop
decreases-loop g l = levels l.board.words
