use Rattle.names.specs.Names.{spellings}
use Rattle.names.proofs.Entering.{enters_stays, enters_front}
use Rattle.names.proofs.table.NameTable.enter.Goals as goal

pub returns-clause-stay : goal.returns-clause-stay
returns-clause-stay c = enters_stays c.args.room c.args.self.now.signals c.enter.new.self (spellings c.args.words.now) c.enter.result c.enter.ensures

pub returns-clause-front : goal.returns-clause-front
returns-clause-front c = enters_front c.args.room c.args.self.now.signals c.enter.new.self (spellings c.args.words.now) c.enter.result c.enter.ensures
