use Rattle.std.proofs.Common.{min, subst}
use Rattle.blif_io.specs.Taking.{met}
use Rattle.blif_io.specs.Session.{Closes}
use Rattle.blif_io.proofs.Sessions.{has-failed, closes-well, closes-badly}
use Rattle.blif_io.proofs.reading.read_in_batch.Goals as goal

pub returns-in-Ok-keep_open-clause-reads : goal.returns-in-Ok-keep_open-clause-reads
returns-in-Ok-keep_open-clause-reads g c =
    closes-well (min c.args.limit 1048576) c.args.text.now c.args.desk.now (met c.args.names.now) c.requires c.begin_new.new.desk c.take_lines.new.desk c.keep_open.new.desk (met c.take_lines.new.names)
    (c.begin_new.ensures c.requires.some c.requires.closed) c.in-Ok.total c.in-Ok-keep_open.field-0
    c.in-Ok.ensures.reads
    (λ pos one. subst (Closes c.take_lines.new.desk c.keep_open.new.desk) c.in-Ok-keep_open.is (c.keep_open.ensures pos one))

pub returns-in-Err-keep_open-clause-reads : goal.returns-in-Err-keep_open-clause-reads
returns-in-Err-keep_open-clause-reads g c =
    closes-badly (min c.args.limit 1048576) c.args.text.now c.args.desk.now (met c.args.names.now) c.requires c.begin_new.new.desk c.take_lines.new.desk c.keep_open.new.desk (met c.take_lines.new.names)
    (c.begin_new.ensures c.requires.some c.requires.closed) c.in-Ok.total c.in-Err-keep_open.fault
    c.in-Ok.ensures.reads
    (λ pos one. subst (Closes c.take_lines.new.desk c.keep_open.new.desk) c.in-Err-keep_open.is (c.keep_open.ensures pos one))

pub returns-in-Err-clause-reads : goal.returns-in-Err-clause-reads
returns-in-Err-clause-reads g c =
    has-failed (min c.args.limit 1048576) c.args.text.now c.args.desk.now (met c.args.names.now) c.requires c.begin_new.new.desk c.take_lines.new.desk c.drop_open.new.desk (met c.take_lines.new.names)
    (c.begin_new.ensures c.requires.some c.requires.closed) c.in-Err.fault
    c.in-Err.ensures.reads
    c.drop_open.ensures
