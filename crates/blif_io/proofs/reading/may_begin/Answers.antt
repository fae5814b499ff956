use Rattle.std.proofs.Common.{◌≡◌, true, false, sym, subst, ◌∙◌, arith}
use Rattle.words.specs.Meaning.{levels}
use Rattle.board.specs.Board.{netlist_of}
use Rattle.blif.specs.File.{Bars, no_editor, batch_open, too_long, occupied}
use Rattle.blif_io.specs.Session.{HasDriven}
use Rattle.blif.proofs.Giving.{none_open}
use Rattle.blif_io.proofs.reading.may_begin.Goals as goal

pub returns-then-signals-eq0-clause-bars : goal.returns-then-signals-eq0-clause-bars
returns-then-signals-eq0-clause-bars g c =
    subst (Bars c.args.editor.now.signals (levels c.args.editor.now.words) c.args.limit (netlist_of c.args.editor.now.signals c.args.editor.now.words.image) c.args.text.now) (sym c.barred_by.ensures)
    (no_editor (sym c.signals.ensures.count ∙ c.if-signals-eq0.true))

pub returns-then-batch_open-clause-bars : goal.returns-then-batch_open-clause-bars
returns-then-batch_open-clause-bars g c =
    subst (Bars c.args.editor.now.signals (levels c.args.editor.now.words) c.args.limit (netlist_of c.args.editor.now.signals c.args.editor.now.words.image) c.args.text.now) (sym c.barred_by-then-batch_open.ensures)
    (batch_open (let s = c.signals.ensures.count in let f = c.if-signals-eq0.false in omega arith) (c.batch_open.ensures.0 c.if-batch_open.true))

pub returns-then-text-limit-clause-bars : goal.returns-then-text-limit-clause-bars
returns-then-text-limit-clause-bars g c =
    too_long (let s = c.signals.ensures.count in let f = c.if-signals-eq0.false in omega arith)
    (none_open (levels c.args.editor.now.words) (λ lt. let w : true ≡ false = sym (c.batch_open.ensures.1 lt) ∙ c.if-batch_open.false in absurd (cc))) c.if-text-limit.true

pub returns-then-any_driven-clause-bars : goal.returns-then-any_driven-clause-bars
returns-then-any_driven-clause-bars g c =
    let some = subst (HasDriven (netlist_of c.args.editor.now.signals c.args.editor.now.words.image)) c.if-any_driven.true c.any_driven.ensures in
    subst (Bars c.args.editor.now.signals (levels c.args.editor.now.words) c.args.limit (netlist_of c.args.editor.now.signals c.args.editor.now.words.image) c.args.text.now) (sym c.form_error.ensures)
    (occupied some.0 (let s = c.signals.ensures.count in let f = c.if-signals-eq0.false in omega arith)
    (none_open (levels c.args.editor.now.words) (λ lt. let w : true ≡ false = sym (c.batch_open.ensures.1 lt) ∙ c.if-batch_open.false in absurd (cc))) c.if-text-limit.false some.1)

pub returns-clause-bars : goal.returns-clause-bars
returns-clause-bars g c = record {
  some = let s = c.signals.ensures.count in let f = c.if-signals-eq0.false in omega arith;
  closed = none_open (levels c.args.editor.now.words) (λ lt. let w : true ≡ false = sym (c.batch_open.ensures.1 lt) ∙ c.if-batch_open.false in absurd (cc));
  within = c.if-text-limit.false;
  empty = subst (HasDriven (netlist_of c.args.editor.now.signals c.args.editor.now.words.image)) c.if-any_driven.false c.any_driven.ensures;
}
