use Rattle.std.proofs.Common.{ap, sym, subst, ◌∙◌, Ok, arith}
use Rattle.blif.specs.Calls.{number_of}
use Rattle.blif_io.specs.Taking.{Replied, listed}
use Rattle.blif_io.proofs.Making.{half-more, half-stops, half-all}
use Rattle.blif_io.proofs.calls.make_listed.Goals as goal

pub loop-word-preserved : goal.loop-word-preserved
loop-word-preserved g c = (
  half-more (λ x. listed c.args.listing (number_of c.args.names.now.signals x)) c.args.desk.now c.loop-word.desk c.make.new.desk c.args.words.now c.loop-word.word-index c.loop-word.total _ c.loop-word.invariant.0
      c.listed_edit-edit.result c.loop-word-test.true (ap (listed c.args.listing) (sym c.number.ensures) ∙ sym c.listed_edit-edit.ensures) c.make.ensures.plays.0 c.from-total.result c.make.ensures.plays.1
      (subst (λ k. Replied c.listed_edit-edit.result c.make.ensures.plays.0 (Ok k)) (sym c.from-total.ensures) (subst (λ r. Replied c.listed_edit-edit.result c.make.ensures.plays.0 r) c.in-Ok.is c.make.ensures.plays.2)),
  omega (arith, c.loop-word.invariant.1),
  λ h. c.in-Ok.ensures.clean,
)

pub returns-in-Err-clause-plays : goal.returns-in-Err-clause-plays
returns-in-Err-clause-plays g c =
    half-stops (λ x. listed c.args.listing (number_of c.args.names.now.signals x)) c.args.desk.now c.loop-word.desk c.make.new.desk c.args.words.now c.loop-word.word-index c.loop-word.total _ c.loop-word.invariant.0
    c.listed_edit-edit.result c.loop-word-test.true (ap (listed c.args.listing) (sym c.number.ensures) ∙ sym c.listed_edit-edit.ensures) c.make.ensures.plays.0 c.in-Err.refused c.make.ensures.plays.1
    (subst (λ r. Replied c.listed_edit-edit.result c.make.ensures.plays.0 r) c.in-Err.is c.make.ensures.plays.2)

pub returns-clause-plays : goal.returns-clause-plays
returns-clause-plays g c =
    half-all (λ x. listed c.args.listing (number_of c.args.names.now.signals x)) c.args.desk.now c.loop-word.desk c.args.words.now c.loop-word.word-index c.loop-word.total c.loop-word.invariant.0 c.loop-word-test.false
