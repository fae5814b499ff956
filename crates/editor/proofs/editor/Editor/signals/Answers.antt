use Rattle.std.proofs.Common.{subst}
use Rattle.editor.specs.Steps.{InOrder}
use Rattle.editor.proofs.Ordering.{in_order}
use Rattle.editor.proofs.editor.Editor.signals.Goals as goal

pub returns-clause-order : goal.returns-clause-order
returns-clause-order g c =
    let b = c.self.inside.board in subst (λ s. InOrder s.signals s.words) c.self.view_is (in_order b.signals b.words c.self.invariant)
