use Rattle.std.proofs.Common.{subst, sym, ◌∙◌, Ok}
use Rattle.table.specs.Line.{Gives}
use Rattle.netlist.specs.declared.edit.Edit.TheVariants.{Gate}
use Rattle.blif_io.specs.Taking.{Replied}
use Rattle.blif_io.proofs.Gates.{closed, unclosed}
use Rattle.blif_io.proofs.calls.close_gate.Goals as goal

pub returns-in-Ok-clause-takes : goal.returns-in-Ok-clause-takes
returns-in-Ok-clause-takes g c m p h =
    closed m c.args.desk.now c.make.new.desk c.args.names.now c.args.gate p h c.pins.result c.bits.result (c.pins.ensures ∙ c.table-table.ensures.pins)
    (λ ls r. subst (Gives c.args.gate.cover.listed.pins ls) (sym c.bits.ensures) (c.table-table.ensures.gives ls r)) c.make.ensures.plays.0 c.from.result c.make.ensures.plays.1
    (subst (λ k. Replied (Gate c.args.gate.signal c.pins.result c.args.gate.nets c.bits.result) c.make.ensures.plays.0 (Ok k)) (sym c.from.ensures) (subst (λ r. Replied (Gate c.args.gate.signal c.pins.result c.args.gate.nets c.bits.result) c.make.ensures.plays.0 r) c.in-Ok.is c.make.ensures.plays.2))

pub returns-in-Err-clause-takes : goal.returns-in-Err-clause-takes
returns-in-Err-clause-takes g c m p h =
    unclosed m c.args.desk.now c.make.new.desk c.args.names.now c.args.gate p h c.pins.result c.bits.result (c.pins.ensures ∙ c.table-table.ensures.pins)
    (λ ls r. subst (Gives c.args.gate.cover.listed.pins ls) (sym c.bits.ensures) (c.table-table.ensures.gives ls r)) c.make.ensures.plays.0 c.in-Err.refused c.make.ensures.plays.1
    (subst (λ r. Replied (Gate c.args.gate.signal c.pins.result c.args.gate.nets c.bits.result) c.make.ensures.plays.0 r) c.in-Err.is c.make.ensures.plays.2)
