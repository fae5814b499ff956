use Rattle.names.proofs.Entering.{Stand}
use Rattle.names.proofs.signals.Signals.enter.Given as goal

abbrev pub invariant-loop-word : goal.invariant-loop-word
invariant-loop-word l = Stand l.room l.initial.self l.self l.words l.word-index
