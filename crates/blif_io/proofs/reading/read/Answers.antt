use Rattle.std.proofs.Common.{min, subst, Err, arith}
use Rattle.words.specs.Meaning.{levels}
use Rattle.board.specs.Board.{netlist_of}
use Rattle.editor.specs.Steps.{InOrder}
use Rattle.blif.specs.File.{Bars}
use Rattle.blif_io.specs.Taking.{met}
use Rattle.blif_io.proofs.Sessions.{not_begun}
use Rattle.blif.proofs.Giving.{reads_give}
use Rattle.blif.proofs.Agreeing.{reads_accept}
use Rattle.blif.proofs.Keeping.{reads_keep_names}
use Rattle.blif_io.proofs.reading.read.Goals as goal

pub returns-in-Err-clause-exact : goal.returns-in-Err-clause-exact
returns-in-Err-clause-exact g c =
    not_begun (min c.args.limit 1048576) c.args.text.now c.args.desk.now (met c.args.names.now) c.in-Err.fault
    (subst (λ e. Bars e.signals (levels e.words) (min c.args.limit 1048576) (netlist_of e.signals e.words.image) c.args.text.now c.in-Err.fault) c.editor.ensures
    (subst (λ l. Bars c.editor.result.now.signals (levels c.editor.result.now.words) l (netlist_of c.editor.result.now.signals c.editor.result.now.words.image) c.args.text.now c.in-Err.fault) c.min.ensures c.in-Err.ensures.bars))

pub returns-in-Err-clause-accepts : goal.returns-in-Err-clause-accepts
returns-in-Err-clause-accepts g c =
    reads_accept (min c.args.limit 1048576) c.args.text.now c.args.desk.now c.args.desk.now (met c.args.names.now) (met c.args.names.now) (Err c.in-Err.fault)
    (record { order = subst (λ e. InOrder e.signals e.words) c.editor.ensures c.in-Err.ensures.order; apart = c.len-count.ensures.apart })
    (not_begun (min c.args.limit 1048576) c.args.text.now c.args.desk.now (met c.args.names.now) c.in-Err.fault
    (subst (λ e. Bars e.signals (levels e.words) (min c.args.limit 1048576) (netlist_of e.signals e.words.image) c.args.text.now c.in-Err.fault) c.editor.ensures
    (subst (λ l. Bars c.editor.result.now.signals (levels c.editor.result.now.words) l (netlist_of c.editor.result.now.signals c.editor.result.now.words.image) c.args.text.now c.in-Err.fault) c.min.ensures c.in-Err.ensures.bars)))

pub returns-clause-gives : goal.returns-clause-gives
returns-clause-gives g c =
    reads_give (min c.args.limit 1048576) c.args.text.now c.args.desk.now c.read_in_batch.new.desk (met c.args.names.now) (met c.read_in_batch.new.names) c.read_in_batch.result
    (record { order = subst (λ e. InOrder e.signals e.words) c.editor.ensures c.in_default.ensures.order; apart = c.len-count.ensures.apart })
    c.read_in_batch.ensures.reads

pub returns-clause-accepts : goal.returns-clause-accepts
returns-clause-accepts g c =
    reads_accept (min c.args.limit 1048576) c.args.text.now c.args.desk.now c.read_in_batch.new.desk (met c.args.names.now) (met c.read_in_batch.new.names) c.read_in_batch.result
    (record { order = subst (λ e. InOrder e.signals e.words) c.editor.ensures c.in_default.ensures.order; apart = c.len-count.ensures.apart })
    c.read_in_batch.ensures.reads

pub returns-clause-readable : goal.returns-clause-readable
returns-clause-readable g c words =
    reads_keep_names (min c.args.limit 1048576) c.args.text.now c.args.desk.now c.read_in_batch.new.desk (met c.args.names.now) (met c.read_in_batch.new.names) c.read_in_batch.result
    (omega arith) c.read_in_batch.ensures.reads words
