use Rattle.editor.proofs.Pinned.{Got}
use Rattle.editor.proofs.questions.pins_on.Given as goal

abbrev pub invariant-loop-word : goal.invariant-loop-word
invariant-loop-word l = Got l.word-items l.pins l.word-index
