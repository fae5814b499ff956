use Rattle.text.proofs.Bounds.{words-bounded}
use Rattle.text.proofs.laws.words_bounded.Goals as goal

pub returns : goal.returns
returns c = words-bounded
