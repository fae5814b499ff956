use Rattle.std.proofs.Common.{◌≡◌, ◌++◌, subst}
use Rattle.std.specs.Prelude.{OnOk}
use Rattle.blif.specs.Written.{spelled_line}
use Rattle.blif_io.proofs.Pushing.{minterm_line}
use Rattle.blif_io.proofs.spell.push_minterm.Goals as goal

pub returns : goal.returns
returns c =
    subst (λ l. OnOk c.push_line-2.result (c.push_line-2.new.out.items ≡ c.args.out.now.items ++ spelled_line l))
    (minterm_line c.args.pins c.args.minterm c.plane-plane.result c.if-pins-eq0.false c.requires c.plane-plane.ensures) c.push_line-2.ensures
