use Rattle.std.proofs.Common.{ℕ, ◌<◌, get_or}
use Rattle.table.specs.Bit.{bit}
use Rattle.table.specs.Line.{Agrees}
use Rattle.table.proofs.cover.covers.Given as goal

-- The characters so far agree with the minterm.
abbrev pub invariant-loop-i : goal.invariant-loop-i
invariant-loop-i l = (j : ℕ) → j < l.i → Agrees (get_or l.plane j 0) (bit l.minterm j)
