use Rattle.names.proofs.Places.{name_numbered}
use Rattle.names.proofs.table.NameTable.name.Goals as goal

pub returns-clause-number : goal.returns-clause-number
returns-clause-number c = name_numbered c.args.self.now.signals c.name.ensures.apart c.args.number c.name.result c.name.ensures.value
