use Rattle.std.proofs.Common.{◌≡◌, leb, Decides, length, take, sym, ap, ◌∙◌, subst, rules}
use Rattle.std.specs.List.{list_any}
use Rattle.netlist.specs.Edits.{Beyond}
use Rattle.edits.proofs.Netted.{any-beyond, take_four}
use Rattle.edits.proofs.checks.net_beyond.Goals as goal

pub returns : goal.returns
returns c =
    let four : length c.args.nets ≡ 4 = search rules in
    let same : take c.min.result c.args.nets ≡ take c.args.pins c.args.nets = ap (λ k. take k c.args.nets) c.min.ensures ∙ take_four c.args.pins c.args.nets four in
    subst (λ r. Decides r (Beyond c.args.signals (take c.args.pins c.args.nets))) (sym (c.any_beyond.ensures ∙ ap (list_any (λ x. leb c.args.signals x)) same))
    (any-beyond c.args.signals (take c.args.pins c.args.nets))
