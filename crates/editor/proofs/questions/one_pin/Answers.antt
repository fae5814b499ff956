use Rattle.std.proofs.Common.{[], ◌∷◌, ◌∙◌, subst}
use Rattle.editor.specs.Questions.{AreOn}
use Rattle.editor.proofs.Pinned.{first-net}
use Rattle.editor.proofs.questions.one_pin.Goals as goal

pub returns : goal.returns
returns c =
    subst (λ x. AreOn c.push.new.self (x ∷ [])) (c.saturating_sub.ensures ∙ first-net c.args.words) (c.push.ensures [] c.none-pins.ensures)
