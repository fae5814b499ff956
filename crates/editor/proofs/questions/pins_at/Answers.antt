use Rattle.editor.proofs.Told.{gate-pins, latch-pins}
use Rattle.editor.proofs.questions.pins_at.Goals as goal

pub returns-in-Gate : goal.returns-in-Gate
returns-in-Gate g c =
    gate-pins c.args.board.now.signals c.args.board.now.words.image c.args.signal c.pins_on.result c.pin_words.result c.pin_words.ensures c.pins_on.ensures
    c.in-Gate.ensures

pub returns-in-Latch : goal.returns-in-Latch
returns-in-Latch g c =
    latch-pins c.args.board.now.signals c.args.board.now.words.image c.args.signal c.one_pin.result c.pin_words-in-Latch.result c.pin_words-in-Latch.ensures c.one_pin.ensures
    c.in-Latch.ensures
