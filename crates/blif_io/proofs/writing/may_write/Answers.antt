use Rattle.std.proofs.Common.{◌≡◌, true, false, sym, subst, ◌∙◌, arith}
use Rattle.words.specs.Meaning.{levels}
use Rattle.board.specs.Board.{netlist_of}
use Rattle.blif_io.specs.Taking.{met}
use Rattle.blif_io.specs.Session.{HasNameless}
use Rattle.blif_io.proofs.Barring.{bar-one, bar-eleven, bar-names, bar-text}
use Rattle.blif_io.proofs.writing.may_write.Goals as goal

pub returns-then-signals-eq0-clause-bars : goal.returns-then-signals-eq0-clause-bars
returns-then-signals-eq0-clause-bars g c text room = bar-one c.args.editor.now.signals (levels c.args.editor.now.words) (netlist_of c.args.editor.now.signals c.args.editor.now.words.image) (met c.args.names.now) text room (omega (arith, c.signals.ensures.count, c.if-signals-eq0.true))

pub returns-then-batch_open-clause-bars : goal.returns-then-batch_open-clause-bars
returns-then-batch_open-clause-bars g c text room =
    bar-eleven c.args.editor.now.signals (levels c.args.editor.now.words) (netlist_of c.args.editor.now.signals c.args.editor.now.words.image) (met c.args.names.now) text room
    (λ e. let f = c.if-signals-eq0.false in let s = c.signals.ensures.count in absurd (omega arith)) (c.batch_open.ensures.0 c.if-batch_open.true)

pub returns-then-any_nameless-clause-bars : goal.returns-then-any_nameless-clause-bars
returns-then-any_nameless-clause-bars g c text room =
    let some = subst (HasNameless (netlist_of c.args.editor.now.signals c.args.editor.now.words.image) c.len.result) c.if-any_nameless.true c.any_nameless.ensures in
    bar-names c.args.editor.now.signals (levels c.args.editor.now.words) (netlist_of c.args.editor.now.signals c.args.editor.now.words.image) (met c.args.names.now) text room
    (λ e. let f = c.if-signals-eq0.false in let s = c.signals.ensures.count in absurd (omega arith))
    (λ lt. let u = c.batch_open.ensures.1 lt in let v = c.if-batch_open.false in let w : true ≡ false = sym u ∙ v in absurd (cc))
    some.0 some.1 (let e = c.len.ensures in let l = some.2 in omega arith)

pub returns-clause-bars : goal.returns-clause-bars
returns-clause-bars g c text room =
    let none = subst (HasNameless (netlist_of c.args.editor.now.signals c.args.editor.now.words.image) c.len.result) c.if-any_nameless.false c.any_nameless.ensures in
    bar-text c.args.editor.now.signals (levels c.args.editor.now.words) (netlist_of c.args.editor.now.signals c.args.editor.now.words.image) (met c.args.names.now) text room
    (λ e. let f = c.if-signals-eq0.false in let s = c.signals.ensures.count in absurd (omega arith))
    (λ lt. let u = c.batch_open.ensures.1 lt in let v = c.if-batch_open.false in let w : true ≡ false = sym u ∙ v in absurd (cc))
    (λ s le. none s (let e = c.len.ensures in omega arith))
