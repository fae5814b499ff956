use Rattle.blif_io.specs.Taking.{met}
use Rattle.blif_io.proofs.Barring.{wrote}
use Rattle.blif.proofs.Exporting.{writes_read_back}
use Rattle.blif_io.proofs.writing.write.Goals as goal
use Rattle.std.proofs.Common.{length, refl}
use Rattle.blif.specs.Promises.{text_of}

pub returns : goal.returns
returns g c =
    let writes = wrote c.args.editor.now (met c.args.names.now) c.args.buffer.now c.put_text.new.buffer c.in-Ok.text.items c.as_slice.result.now c.put_text.result
    c.in_default.ensures.bars c.in-Ok.ensures c.as_slice.ensures.value c.put_text.ensures in
    let more = writes_read_back c.args.editor.now (met c.args.names.now) c.args.buffer.now c.put_text.new.buffer c.put_text.result c.in_default.ensures.order c.in_default.ensures.apart writes in
    record { writes = writes; reads_back = more.0; orders_gates = more.1; same_again = more.2 }

pub returns-in-Err-clause-writes : goal.returns-in-Err-clause-writes
returns-in-Err-clause-writes g c = (c.in-Err.ensures.bars (text_of c.args.editor.now (met c.args.names.now)) (length c.args.buffer.now), refl)
