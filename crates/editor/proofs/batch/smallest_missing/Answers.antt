use Rattle.std.proofs.Common.{ℕ, ◌<◌, rules, tests}
use Rattle.std.proofs.lemmas.Iterator.{first_from_Range}
use Rattle.board.specs.Board.{netlist_of}
use Rattle.editor.specs.Calls.{Missing}
use Rattle.editor.proofs.Scanned.{first_of_all}
use Rattle.editor.proofs.batch.smallest_missing.Goals as goal

pub returns : goal.returns
returns g c = λ sound.
    let m = c.args.board.now.signals in
    let P : ℕ → Type 0 = Missing m (netlist_of m c.args.board.now.words.image) in
    first_of_all m c.signals.result P c.find.result c.signals.ensures.signals (λ s p. p.signal)
    (first_from_Range _ _ _ _ (λ s. s < m → P s) (λ s. s < m → P s → ⊥) c.find.ensures.ran
    (λ x q k. search (rules, tests))
    (λ x q k. (search rules, search (rules, tests))))
