use Rattle.std.proofs.Common.{refl, subst}
use Rattle.words.specs.Meaning.{levels}
use Rattle.board.specs.Board.{netlist_of}
use Rattle.edits.specs.Checks.{Passes}
use Rattle.edits.specs.Entered.{Entered}
use Rattle.edits.proofs.Whole.{passes, plain_placing, made_ok}
use Rattle.edits.proofs.make.make_plain.Goals as goal

pub returns : goal.returns
returns g c =
    let b = c.args.board.now in
    let b₁ = c.enter.new.board in
    record {
      makes = λ w.
          let checks = c.in_ok-checked.ensures.checks w.few w.stands.sound in
          let p = passes b.signals (levels b.words) (netlist_of b.signals b.words.image) c.args.edit checks in
          made_ok b.signals b.words b₁.words c.args.edit 0 w checks c.enter.ensures.only.inside
          (plain_placing b.signals b.words.image c.args.edit b₁.words.image c.requires w.few w.stands p (subst (λ e. Passes b.signals (netlist_of b.signals b.words.image) e → Entered b.signals b.words.image e b₁.words.image) c.in_ok-checked.ensures.same
          (c.enter.ensures.enters w.few w.stands) p));
      early = λ w. refl;
      stays = c.enter.ensures.only.stays;
    }
