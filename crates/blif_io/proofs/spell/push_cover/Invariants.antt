use Rattle.std.proofs.Common.{◌≡◌, ◌++◌, map}
use Rattle.table.specs.Written.{ones_below, line_at}
use Rattle.blif.specs.Statement.{cover_words}
use Rattle.blif.specs.Written.{spelled}
use Rattle.blif_io.proofs.spell.push_cover.Given as goal

abbrev pub invariant-loop-minterm : goal.invariant-loop-minterm
invariant-loop-minterm l =
    l.out.items ≡ l.initial.out.items ++ spelled (map (cover_words l.table.pins) (map (line_at l.table.pins) (ones_below l.table.bits l.minterm)))
