use Rattle.std.proofs.Common.{◌≡◌, ◌+◌, length}
use Rattle.std.specs.Option.{option_map_or}
use Rattle.text.specs.Words.{left_words}
use Rattle.text.proofs.cut.WordsIterator.next.Given as goal

abbrev pub invariant-loop-self : goal.invariant-loop-self
invariant-loop-self g l =
    left_words g.T.Text.rules l.self.at.line l.self.at.place l.self.rest
    ≡ left_words g.T.Text.rules l.fn.self.at.line l.fn.self.at.place l.fn.self.rest

abbrev pub decreases-loop-self : goal.decreases-loop-self
decreases-loop-self g l = option_map_or (λ r. length r.now + 1) l.self.rest 0
