-- What holds of an editor and the ticket at hand.
use Rattle.std.specs.Prelude.{◌≡◌, ℕ, ◌<◌, Some, None, Ok, Err, Option, Result}
use Rattle.words.specs.Meaning.{Meaning, levels}
use Rattle.editor.specs.declared.ticket.Ticket.{Ticket}
use Rattle.editor.specs.declared.ticket.Returned.{Returned}

-- a ticket is at hand exactly while a batch is open in an editor with signals
abbrev pub Backed : ℕ → Meaning → Option Ticket → Type 0
Backed m a None = 0 < m → levels a ≡ 0
Backed m a (Some ticket) = (0 < m) × (0 < levels a)

-- the ticket that a keep or a drop hands back
abbrev pub left : Result (Unit {0}) Returned → Option Ticket
left (Ok _) = None
left (Err back) = Some back.ticket
