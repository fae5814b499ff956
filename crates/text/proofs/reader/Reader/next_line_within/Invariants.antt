use Rattle.std.proofs.Common.{◌≡◌, ◌-◌, length}
use Rattle.text.specs.Lines.{rest}
use Rattle.text.proofs.reader.Reader.next_line_within.Given as goal

abbrev pub invariant-loop-self : goal.invariant-loop-self
invariant-loop-self g l =
    record {
      text : l.self.text.now ≡ l.fn.self.text.now;
      limit : l.self.limit ≡ l.fn.self.limit;
      left : rest g.T.Text.rules l.self.text.now l.self.at.place l.self.at.line ≡ rest g.T.Text.rules l.fn.self.text.now l.fn.self.at.place l.fn.self.at.line;
    }

abbrev pub decreases-loop-self : goal.decreases-loop-self
decreases-loop-self g l = length l.self.text.now - l.self.at.place
