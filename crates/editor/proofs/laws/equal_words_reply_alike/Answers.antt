use Rattle.editor.proofs.Alike.{alike}
use Rattle.editor.proofs.laws.equal_words_reply_alike.Goals as goal

pub returns : goal.returns
returns c = alike
