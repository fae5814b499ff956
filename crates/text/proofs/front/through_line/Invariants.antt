use Rattle.std.proofs.Common.{◌≡◌, ◌≤◌, ◌-◌, length}
use Rattle.text.proofs.Through.{goal_from}
use Rattle.text.proofs.front.through_line.Given as goal

abbrev pub invariant-loop-at : goal.invariant-loop-at
invariant-loop-at g l =
    record {
      within : l.at ≤ length l.text;
      left : goal_from g.T.Text.rules l.word l.text l.at ≡ goal_from g.T.Text.rules l.word l.text 0;
    }

abbrev pub decreases-loop-at : goal.decreases-loop-at
decreases-loop-at g l = length l.text - l.at
