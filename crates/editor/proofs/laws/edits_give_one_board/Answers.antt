use Rattle.editor.proofs.Given.{one_board}
use Rattle.editor.proofs.laws.edits_give_one_board.Goals as goal

pub returns : goal.returns
returns c = one_board
