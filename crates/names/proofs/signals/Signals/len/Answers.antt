use Rattle.std.proofs.Common.{subst}
use Rattle.names.specs.Names.{Apart}
use Rattle.names.proofs.signals.Signals.len.Goals as goal

pub returns-clause-apart : goal.returns-clause-apart
returns-clause-apart c = subst Apart c.self.view_is c.self.invariant.apart
