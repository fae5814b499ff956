use Rattle.table.proofs.Rewritten.{Wrote}
use Rattle.table.proofs.writing.round_trip.Given as goal

abbrev pub invariant-loop-minterm : goal.invariant-loop-minterm
invariant-loop-minterm l = Wrote l.fn.table l.yielded l.cover
