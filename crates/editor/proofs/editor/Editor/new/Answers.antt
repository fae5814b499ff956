use Rattle.editor.proofs.Starting.{starts, reached_new}
use Rattle.editor.proofs.editor.Editor.new.Goals as goal

pub invariant_of-result-2 : goal.invariant_of-result-2
invariant_of-result-2 g c =
    let a = g.S.Store.model c.args.store in
    let laid = c.lay_empty.new.board in
    let fits = c.fits.ensures.0 c.if-not-fits.false in
    reached_new c.args.signals laid.signals a laid.words fits (starts c.args.signals a _ c.new-board.result laid c.new-board.ensures fits c.lay_empty.ensures.only c.lay_empty.ensures.lays)

pub returns-clause-starts : goal.returns-clause-starts
returns-clause-starts g c =
    starts c.args.signals (g.S.Store.model c.args.store) _ c.new-board.result c.lay_empty.new.board c.new-board.ensures (c.fits.ensures.0 c.if-not-fits.false) c.lay_empty.ensures.only
    c.lay_empty.ensures.lays
