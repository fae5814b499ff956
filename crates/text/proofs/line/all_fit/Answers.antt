use Rattle.std.proofs.Common.{rules}
use borrow.Author.Tests.{tests}
use Rattle.std.proofs.lemmas.Iterator.Consumers.{YieldsList-from_first}
use Rattle.std.proofs.lemmas.Iterator.Search.{all_from_yields_List}
use Rattle.text.specs.Words.{spelled, fits, left_words}
use Rattle.text.proofs.line.all_fit.Goals as goal

pub returns : goal.returns
returns g c =
    all_from_yields_List (λ p. fits p.bytes) c.all.new.self _ c.all.result c.all.ensures.ran (YieldsList-from_first spelled (λ s. left_words g.T.Text.rules s.at.line s.at.place s.rest) _ c.new.ensures) (λ x b q k. search (rules, tests))
