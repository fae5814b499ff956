use Rattle.std.proofs.Common.{subst}
use Rattle.table.specs.Cover.{Takes}
use Rattle.table.specs.Reading.{line_of}
use Rattle.names.specs.Names.{spellings}
use Rattle.blif.specs.Form.{cover_line}
use Rattle.blif_io.specs.Taking.{LineOf}
use Rattle.blif_io.proofs.CoverLines.{no_line, line_more, line_refused}
use Rattle.blif_io.proofs.covers.take_cover.Goals as goal

pub returns-in_default : goal.returns-in_default
returns-in_default c cover read =
    no_line c.args.gate (spellings c.args.words.now) c.pins.result c.pins.ensures cover (subst (LineOf (cover_line c.pins.result (spellings c.args.words.now))) c.in_default.is c.cover_line.ensures)

pub returns-in-Ok : goal.returns-in-Ok
returns-in-Ok c cover read =
    line_more c.args.gate (spellings c.args.words.now) c.pins.result c.pins.ensures cover c.in-Some.line
    (subst (LineOf (cover_line c.pins.result (spellings c.args.words.now))) c.in-Some.is c.cover_line.ensures) c.line.new.self c.line.ensures.same.0
    (subst (Takes cover (line_of c.in-Some.line) c.line.new.self) c.in-Ok.is (c.line.ensures.takes cover read))

pub returns-in-Err : goal.returns-in-Err
returns-in-Err c cover read =
    line_refused c.args.gate (spellings c.args.words.now) c.pins.result c.pins.ensures cover c.in-Some.line
    (subst (LineOf (cover_line c.pins.result (spellings c.args.words.now))) c.in-Some.is c.cover_line.ensures) c.line.new.self c.line.ensures.same.0 c.in-Err.fault
    (subst (Takes cover (line_of c.in-Some.line) c.line.new.self) c.in-Err.is (c.line.ensures.takes cover read)) c.form_fault.result c.form_fault.ensures
