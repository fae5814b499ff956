use Rattle.std.proofs.Common.{subst}
use Rattle.editor.specs.Plain.{plain}
use Rattle.editor.specs.declared.call.Call.TheVariants.{Keep}
use Rattle.desk.specs.Plays.{Plays}
use Rattle.blif_io.proofs.Sessions.{keep-fails, Told}
use Rattle.blif_io.proofs.reading.keep_open.Goals as goal

pub returns-in-Err : goal.returns-in-Err
returns-in-Err g c pos one =
    keep-fails c.args.desk.now c.keep.new.self c.drop_open.new.desk c.in-Err.refusal c.missing-missing.result pos one
    (subst (λ r. Plays c.args.desk.now Keep c.keep.new.self (plain r)) c.in-Err.is c.keep.ensures.plays) c.drop_open.ensures
    (subst (λ e. Told e c.missing-missing.result) c.editor.ensures c.missing-missing.ensures)
