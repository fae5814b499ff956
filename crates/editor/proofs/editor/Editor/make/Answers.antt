use Rattle.std.proofs.Common.{Ok, Err}
use Rattle.netlist.specs.declared.edit.Refusal.TheVariants.{Looped}
use Rattle.board.specs.Board.{netlist_of}
use Rattle.editor.proofs.Calling.{called_edit, called_early, reached_edit}
use Rattle.editor.proofs.Stepping.{shows_loop}
use Rattle.editor.proofs.editor.Editor.make.Goals as goal

pub invariant_of-self-in-Ok : goal.invariant_of-self-in-Ok
invariant_of-self-in-Ok g c = reached_edit _ _ c.args.edit _ c.self.invariant c.in_ok-serves.ensures c.in-Ok.ensures.makes c.in-Ok.ensures.stays

pub returns-in-Ok-clause-called : goal.returns-in-Ok-clause-called
returns-in-Ok-clause-called g c =
    called_edit _ c.self.inside.board _ _ _ c.args.edit (Ok c.in-Ok.count) c.self.view_is c.self.invariant c.in_ok-serves.ensures c.in-Ok.ensures.makes c.in-Ok.ensures.stays
    (λ _. c.clear.ensures)

pub returns-in-Err-Refused-clause-called : goal.returns-in-Err-Refused-clause-called
returns-in-Err-Refused-clause-called g c =
    called_early _ c.self.inside.board _ _ _ c.args.edit (Err c.in-Err-Refused.refusal) c.self.view_is c.self.invariant c.in_ok-serves.ensures
    (record {
      makes = rw c.in-Err-Refused.field-0-is at c.in-Err-Refused.ensures.makes;
      early = rw c.in-Err-Refused.field-0-is at c.in-Err-Refused.ensures.faults;
      stays = c.in-Err-Refused.ensures.stays;
    })
    c.clear.ensures

pub returns-clause-called : goal.returns-clause-called
returns-clause-called g c =
    let b = c.self.inside.board in
    called_edit _ b _ _ _ c.args.edit (Err Looped) c.self.view_is c.self.invariant c.in_ok-serves.ensures
    (rw c.in-Err-Looped.field-0-is at c.in-Err-Looped.ensures.makes) c.in-Err-Looped.ensures.stays
    (λ w. shows_loop (netlist_of b.signals b.words.image) c.args.edit c.in-Err-Looped.path _ ((rw c.in-Err-Looped.field-0-is at c.in-Err-Looped.ensures.faults) w) c.show.ensures)
