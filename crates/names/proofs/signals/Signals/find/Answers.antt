use Rattle.std.proofs.Common.{ap, ◌∙◌, rules}
use Rattle.names.specs.Names.{position, listed}
use Rattle.names.proofs.Maps.{numbered_find}
use Rattle.names.proofs.signals.Signals.find.Goals as goal

pub returns : goal.returns
returns c =
    let s = c.self.inside in
    c.copied.ensures ∙ c.get.ensures.value ∙ numbered_find s.numbers (listed s.names) s.names.alloc c.args.name.now (search rules) c.self.invariant ∙ ap (λ ns. position ns c.args.name.now) c.self.view_is
