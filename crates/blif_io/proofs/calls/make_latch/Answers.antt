use Rattle.std.proofs.Common.{sym, subst, Ok, Err}
use Rattle.std.specs.Prelude.{[], ◌∷◌}
use Rattle.blif_io.specs.Taking.{Replied, Plays}
use Rattle.blif_io.proofs.Making.{one-made, one-stops}
use Rattle.blif_io.proofs.calls.make_latch.Goals as goal

pub returns-in-Ok-clause-plays : goal.returns-in-Ok-clause-plays
returns-in-Ok-clause-plays g c =
    subst (λ e. Plays c.args.desk.now (e ∷ []) c.make.new.desk (Ok c.from.result)) c.latch_edit.ensures
    (one-made c.latch_edit.result c.args.desk.now c.make.new.desk c.make.ensures.plays.0 c.from.result c.make.ensures.plays.1
    (subst (λ k. Replied c.latch_edit.result c.make.ensures.plays.0 (Ok k)) (sym c.from.ensures) (subst (λ r. Replied c.latch_edit.result c.make.ensures.plays.0 r) c.in-Ok.is c.make.ensures.plays.2)))

pub returns-in-Err-clause-plays : goal.returns-in-Err-clause-plays
returns-in-Err-clause-plays g c =
    subst (λ e. Plays c.args.desk.now (e ∷ []) c.make.new.desk (Err c.in-Err.refused)) c.latch_edit.ensures
    (one-stops c.latch_edit.result c.args.desk.now c.make.new.desk c.make.ensures.plays.0 c.in-Err.refused c.make.ensures.plays.1
    (subst (λ r. Replied c.latch_edit.result c.make.ensures.plays.0 r) c.in-Err.is c.make.ensures.plays.2))
