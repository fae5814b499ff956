use Rattle.std.proofs.Common.{length, ap, ◌∙◌, arith}
use Rattle.std.proofs.lemmas.List.{length-set}
use Rattle.board.specs.Layout.{word}
use Rattle.board.proofs.Writes.{only_words-trans, only_words-set, zeros_more, zeros_all}
use Rattle.board.proofs.stored.StoredBoard.clear.Goals as goal

pub loop-at-preserved : goal.loop-at-preserved
loop-at-preserved g c =
    let l = c.loop-at.self in
    let image = ap (λ b. b.words.image) c.put.ensures in (
      only_words-trans c.args.self.now l c.put.new.self c.loop-at.invariant.0 (only_words-set l c.put.new.self _ _ c.put.ensures),
      ap length image ∙ length-set l.words.image c.loop-at.at 0 ∙ c.loop-at.invariant.1,
      λ k lt. ap (λ ws. word ws k) image ∙ zeros_more l.words.image c.loop-at.at c.loop-at.invariant.2 k lt,
    )

pub returns : goal.returns
returns g c = record {
  cleared = zeros_all c.args.self.now c.loop-at.self c.loop-at.at c.loop-at.invariant.0 c.loop-at.invariant.1 c.loop-at.invariant.2
      (omega (arith, c.size-at-end.ensures.size, c.loop-at-test.false));
  only = c.loop-at.invariant.0;
}
