-- What a reader still has to give.
use Rattle.std.specs.Prelude.{List}
use Rattle.text.specs.Rules.{Rules}
use Rattle.text.specs.Lines.{Item, left}
use Rattle.text.specs.declared.reader.Reader.{Reader}

-- the lines that count from where the reader stands on
abbrev pub ahead : {T : Type 0} → Rules → Reader T → List Item
ahead k r = left k r.limit r.text.now r.at.place r.at.line
