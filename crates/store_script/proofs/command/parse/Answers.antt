use Rattle.std.proofs.Common.{codes, Some}
use Rattle.std.proofs.lemmas.Bool.Decides.{Decides-eqb}
use Rattle.std.proofs.lemmas.Slice.Eq.{strip_prefix_is}
use Rattle.store_script.proofs.Reading.{spelled}
use Rattle.store_script.proofs.command.parse.Goals as goal

pub returns-in_ok-strip_prefix-in_default : goal.returns-in_ok-strip_prefix-in_default
returns-in_ok-strip_prefix-in_default c =
    let rest = c.in_ok-strip_prefix-in_default in
    spelled c.args.line.now rest.field-0.now c.parse_set.result (strip_prefix_is Decides-eqb c.args.line.now (codes "set ") (Some rest.field-0) rest.ensures.cases) c.parse_set.ensures
