use Rattle.std.proofs.Common.{rules, ◌≡◌, ◌∷◌, length, take, sym, ap, ◌∙◌}
use Rattle.std.proofs.lemmas.Bool.{cond-true}
use Rattle.text.specs.Words.{left_words, part}
use Rattle.text.proofs.Splits.{words_cut}
use Rattle.text.proofs.cut.WordsIterator.next.Given as given
use Rattle.text.proofs.cut.WordsIterator.next.Goals as goal

-- a word is cut off, and the others are left
next_word : (g : given.Over) (c : goal.Then-is_word g)
    → left_words g.T.Text.rules c.args.self.now.at.line c.args.self.now.at.place c.args.self.now.rest
    ≡ part c.loop-self.self.at.place c.loop-self.self.at.line (take c.part_length-length.result c.in-Some.rest.now) ∷ left_words g.T.Text.rules c.on-self.result.line c.on-self.result.place c.get-self.result
next_word g c =
    let k = g.T.Text.rules in
    let at = c.loop-self.self.at in
    let m = c.part_length-length.result in
    let stops = c.part_length-length.ensures.value in
    sym c.loop-self.invariant ∙ ap (left_words k at.line at.place) c.in-Some.is
    ∙ words_cut k at.line at.place c.in-Some.rest m stops c.part_length-length.ensures.within c.get-self.result c.get-self.ensures.lookup.0
    ∙ cond-true _ _ _ (sym c.if-is_word.ensures) ∙ rw (← c.on-self.ensures.0, ← c.on-self.ensures.1)

pub returns-then-is_word-clause-steps : goal.returns-then-is_word-clause-steps
returns-then-is_word-clause-steps g c = next_word g c

pub returns-then-is_word-clause-goes : goal.returns-then-is_word-clause-goes
returns-then-is_word-clause-goes g c = let shorter = ap length (next_word g c) in search rules
