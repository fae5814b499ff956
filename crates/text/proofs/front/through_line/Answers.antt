use Rattle.std.proofs.Common.{ℕ, ◌+◌, ◌-◌, List, length, take, drop, sym, refl, ap, ◌∙◌, arith}
use Rattle.std.proofs.lemmas.List.{take_rest}
use Rattle.text.proofs.Cuts.{Step}
use Rattle.text.proofs.Through.{ends, goes, from_start}
use Rattle.text.proofs.front.through_line.Given as given
use Rattle.text.proofs.front.through_line.Goals as goal
use Rattle.text.proofs.front.through_line.Goals.{After-opens_with}

-- what is left of the text, as the code cuts it
abbrev after : (g : given.Over) (c : After-opens_with g) → List ℕ
after g c = take (length c.args.text.now - c.loop-at.at) (drop c.loop-at.at c.args.text.now)

step : (g : given.Over) (c : After-opens_with g) → Step c.args.text.now c.loop-at.at c.length_before-length.result (c.loop-at.at + c.min-at.result) (after g c) (take c.length_before-length.result (after g c))
step g c =
    record {
      is = take_rest c.args.text.now c.loop-at.at;
      inside = c.loop-at-test.true;
      stops = c.length_before-length.ensures.value;
      within = c.length_before-length.ensures.within;
      cut = refl;
      on = ap (λ j. c.loop-at.at + j) c.min-at.ensures;
    }

pub returns-then-opens_with : goal.returns-then-opens_with
returns-then-opens_with g c =
    let d = (goal.at.returns-then-opens_with g c).After-opens_with in
    ends g.T.Text.rules c.args.word.now (step g d) (sym c.opens_with.ensures ∙ c.if-opens_with.true) ∙ c.loop-at.invariant.left ∙ from_start g.T.Text.rules c.args.word.now c.args.text.now

pub loop-at-preserved : goal.loop-at-preserved
loop-at-preserved g c =
    let d = (goal.at.loop-at-preserved g c).After-opens_with in
    let s = step g d in
    let size = ap length s.is in
    record {
      within = omega (arith, c.min-at.ensures, c.loop-at-test.true);
      left = goes g.T.Text.rules c.args.word.now s (sym c.opens_with.ensures ∙ c.if-opens_with.false) ∙ c.loop-at.invariant.left;
    }
