use Rattle.std.proofs.Common.{◌≡◌, length}
use Rattle.std.specs.Prelude.{replicate}
use Rattle.text.specs.Rules.{file_rules}
use Rattle.text.specs.Lines.{rest}
use Rattle.text.specs.Ahead.{ahead}
use Rattle.blif_io.specs.Taking.{met}
use Rattle.blif_io.proofs.Running.{Run}
use Rattle.blif_io.proofs.reader.take_lines.Given as goal

abbrev pub invariant-lines : goal.invariant-lines
invariant-lines g l =
    Run l.initial.desk (met l.initial.names) (rest file_rules l.text 0 1) (ahead file_rules l.reader) l.total l.place l.desk l.names
    × (l.initial.flags ≡ replicate 1024 0 → l.flags ≡ replicate 1024 0)

abbrev pub decreases-lines : goal.decreases-lines
decreases-lines g l = length (ahead file_rules l.reader)
