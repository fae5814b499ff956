use Rattle.std.proofs.Common.{◌≡◌, ◌++◌, drop, map}
use Rattle.blif.specs.Written.{spelled_names}
use Rattle.blif_io.proofs.spell.push_words.Given as goal

abbrev pub invariant-loop-word : goal.invariant-loop-word
invariant-loop-word l = l.out.items ++ spelled_names (map (λ x. x.now) (drop l.word-index l.words)) ≡ l.initial.out.items ++ spelled_names (map (λ x. x.now) l.words)
