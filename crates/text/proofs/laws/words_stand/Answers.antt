use Rattle.text.proofs.Standing.{words-stand}
use Rattle.text.proofs.laws.words_stand.Goals as goal

pub returns : goal.returns
returns c = words-stand
