use Rattle.std.proofs.Common.{◌≡◌, ◌++◌, map, length, vec_items}
use Rattle.text.specs.Lines.{contents, told}
use Rattle.text.specs.Ahead.{ahead}
use Rattle.text.proofs.reader.read_lines.Given as goal

abbrev pub invariant-loop-all : goal.invariant-loop-all
invariant-loop-all g l = contents g.T.Text.rules l.limit l.text ≡ map told (vec_items l.all) ++ ahead g.T.Text.rules l.reader

abbrev pub decreases-loop-all : goal.decreases-loop-all
decreases-loop-all g l = length (ahead g.T.Text.rules l.reader)
