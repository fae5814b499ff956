use Rattle.std.proofs.Common.{◌∙◌}
use Rattle.blif.specs.Calls.{number_of}
use Rattle.blif_io.proofs.Opening.{at_number}
use Rattle.blif_io.proofs.calls.net.Goals as goal

pub returns-in-Some : goal.returns-in-Some
returns-in-Some c = c.number.ensures ∙ at_number (number_of c.args.names.now.signals) c.args.words.now c.args.at c.in-Some.word.now c.in-Some.ensures.lookup.3.0 c.in-Some.ensures.lookup.1
