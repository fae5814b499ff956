use Rattle.std.proofs.Common.{◌≡◌, ℕ, ◌+◌, ◌-◌, ◌<◌, List, [], ◌∷◌, map, length, take, drop, min, Ok, Err, vec_items, sym, refl, ap, ◌∙◌, subst, arith}
use Rattle.std.proofs.lemmas.List.{take_rest, nil_from_length, length-map}
use Rattle.std.proofs.lemmas.Result.{err_from_is_err_and}
use Rattle.std.proofs.lemmas.Bool.{eqb-true, eqb-false}
use Rattle.text.specs.Words.{spelled}
use Rattle.text.specs.Lines.{rest, Gives, holds}
use Rattle.text.proofs.Cuts.{Step, skips, gives_line, gives_fault}
use Rattle.text.proofs.reader.Reader.next_line_within.Given as given
use Rattle.text.proofs.reader.Reader.next_line_within.Goals as goal
use Rattle.text.proofs.reader.Reader.next_line_within.Goals.{After-words_of}

-- what is left of the text, as the code cuts it
abbrev after : (g : given.Over) (c : After-words_of g) → List ℕ
after g c = take (length c.loop-self.self.text.now - c.loop-self.self.at.place) (drop c.loop-self.self.at.place c.loop-self.self.text.now)

step : (g : given.Over) (c : After-words_of g) (next : ℕ) → next ≡ c.loop-self.self.at.place + min (c.length_before-length.result + 1) (length (after g c)) → Step c.loop-self.self.text.now c.loop-self.self.at.place c.length_before-length.result next (after g c) (take c.length_before-length.result (after g c))
step g c next e =
    record {
      is = take_rest c.loop-self.self.text.now c.loop-self.self.at.place;
      inside = c.loop-self-test.true;
      stops = c.length_before-length.ensures.value;
      within = c.length_before-length.ensures.within;
      cut = refl;
      on = e;
    }

pub returns-in_err-words-clause-gives : goal.returns-in_err-words-clause-gives
returns-in_err-words-clause-gives g c =
    let d = (goal.at.returns-in_err-words-clause-gives g c).After-words_of in
    let text = c.loop-self.self.text.now in
    let start = c.loop-self.self.at in
    let was = c.args.self.now in
    let old = rest g.T.Text.rules was.text.now was.at.place was.at.line in
    let p = err_from_is_err_and c.from_residual.result c.from_residual.ensures.1 in
    subst (Gives old (rest g.T.Text.rules text start.place start.line)) (sym (p.1 ∙ ap Err p.2))
    (gives_fault g.T.Text.rules start.line (step g d _ refl) old c.loop-self.invariant.left c.in_err-words.field-0.0 c.in_err-words.ensures)

pub returns-then-not-is_empty-clause-gives : goal.returns-then-not-is_empty-clause-gives
returns-then-not-is_empty-clause-gives g c =
    let d = (goal.at.returns-then-not-is_empty-clause-gives g c).After-words_of in
    let k = g.T.Text.rules in
    let n = c.loop-self.self.at.line in
    let next = c.next_line-self.result in
    let v = c.in_ok-words.words in
    let ws = map spelled (vec_items v) in
    let some : 0 < length ws = omega (arith, length-map (vec_items v) spelled, v.ok.0, eqb-false _ 0 (sym c.if-not-is_empty.ensures)) in
    let on = c.next_line-self.ensures.0 ∙ ap (λ j. c.loop-self.self.at.place + j) c.min.ensures in
    gives_line k n (step g d next.place on) _ c.loop-self.invariant.left ws c.in_ok-words.ensures some ∙ ap (λ j. holds n ws ∷ rest k c.loop-self.self.text.now next.place j) (sym c.next_line-self.ensures.1)

pub loop-self-preserved : goal.loop-self-preserved
loop-self-preserved g c =
    let d = (goal.at.loop-self-preserved g c).After-words_of in
    let k = g.T.Text.rules in
    let n = c.loop-self.self.at.line in
    let next = c.next_line-self.result in
    let v = c.in_ok-words.words in
    let empty : length (vec_items v) ≡ 0 = sym v.ok.0 ∙ eqb-true _ 0 (sym c.if-not-is_empty.ensures) in
    let none : map spelled (vec_items v) ≡ [] = ap (map spelled) (nil_from_length (vec_items v) empty) in
    let on = c.next_line-self.ensures.0 ∙ ap (λ j. c.loop-self.self.at.place + j) c.min.ensures in
    record {
      text = c.loop-self.invariant.text;
      limit = c.loop-self.invariant.limit;
      left = ap (rest k c.loop-self.self.text.now next.place) c.next_line-self.ensures.1 ∙ skips k n (step g d next.place on) _ c.loop-self.invariant.left (c.in_ok-words.ensures ∙ ap Ok none);
    }
