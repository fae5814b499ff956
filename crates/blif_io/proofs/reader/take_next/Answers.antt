use Rattle.std.proofs.Common.{sym, subst, ◌∙◌}
use Rattle.blif_io.specs.Taking.{Stands}
use Rattle.blif_io.proofs.reader.take_next.Goals as goal

pub returns-then-is_dotted-clause-takes : goal.returns-then-is_dotted-clause-takes
returns-then-is_dotted-clause-takes g c p h =
    c.take_behind_gate.ensures.takes p (subst (λ q. Stands c.args.names.now.signals q p) c.in-Covering.is h) (sym c.is_dotted.ensures ∙ c.if-is_dotted.true)

pub returns-else-is_dotted-clause-takes : goal.returns-else-is_dotted-clause-takes
returns-else-is_dotted-clause-takes g c p h =
    c.take_cover_line.ensures.plain c.args.desk.now.editor.signals c.args.desk.now c.args.names.now p (subst (λ q. Stands c.args.names.now.signals q p) c.in-Covering.is h) (sym c.is_dotted.ensures ∙ c.if-is_dotted.false)
