-- What clauses see of a desk.
use Rattle.std.specs.Prelude.{Option}
use Rattle.editor.specs.State.{State as EditorState}
use Rattle.editor.specs.declared.ticket.Ticket.{Ticket}

-- the editor, and the ticket at hand
pub record State : Type 0 where
  pub editor : EditorState
  pub held : Option Ticket
