use Rattle.std.proofs.Common.{refl, arith}
use Rattle.names.proofs.Places.{no_room, adds-push}
use Rattle.names.proofs.signals.Signals.append.Goals as goal

pub returns-then-next-room : goal.returns-then-next-room
returns-then-next-room c = ((refl, no_room c.args.self.now c.args.name.now c.requires c.args.room (omega arith)), refl)

pub returns : goal.returns
returns c = adds-push c.args.self.now c.args.name.now c.requires c.args.room c.push.new.self (omega arith) c.push.result c.push.ensures
