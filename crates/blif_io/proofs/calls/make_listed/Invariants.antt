use Rattle.std.proofs.Common.{◌≡◌, ◌≤◌, ◌*◌}
use Rattle.std.specs.Prelude.{replicate}
use Rattle.blif.specs.Calls.{number_of}
use Rattle.blif_io.specs.Taking.{listed}
use Rattle.blif_io.proofs.Making.{Half}
use Rattle.blif_io.proofs.calls.make_listed.Given as goal

abbrev pub invariant-loop-word : goal.invariant-loop-word
invariant-loop-word g l =
    Half (λ x. listed l.listing (number_of l.names.signals x)) l.initial.desk l.words l.word-index l.total l.desk × (l.total ≤ 4294967295 * l.word-index)
    × (l.initial.flags ≡ replicate 1024 0 → l.flags ≡ replicate 1024 0)
