use Rattle.std.proofs.Common.{◌≡◌, ◌++◌, map, vec_items}
use Rattle.text.specs.Words.{spelled, words, left_words}
use Rattle.text.proofs.line.split.Given as goal

abbrev pub invariant-loop-word : goal.invariant-loop-word
invariant-loop-word g l =
    map spelled (vec_items l.words) ++ left_words g.T.Text.rules l.word-iterator.at.line l.word-iterator.at.place l.word-iterator.rest
    ≡ words g.T.Text.rules l.fn.line.at.line l.fn.line.at.place l.fn.line.bytes.now
