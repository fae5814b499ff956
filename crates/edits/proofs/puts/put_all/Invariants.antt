use Rattle.std.proofs.Common.{◌≡◌}
use Rattle.board.specs.Stored.{OnlyWords}
use Rattle.edits.specs.Puts.{ReadyAll}
use Rattle.edits.proofs.Putting.{PutSoFar}
use Rattle.edits.proofs.puts.put_all.Given as goal

abbrev pub invariant-loop-net : goal.invariant-loop-net
invariant-loop-net g l =
    let m = l.initial.board.signals in
    let ws = l.initial.board.words.image in
    (ReadyAll m ws l.gate l.nets → PutSoFar m ws l.gate l.nets l.net-index l.board.words.image l.total)
    × OnlyWords l.initial.board l.board × (l.flags.table.ghost_name ≡ l.initial.flags.table.ghost_name)
