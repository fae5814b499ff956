-- What a call at a desk replies and leaves.
use Rattle.std.specs.Prelude.{◌≡◌, ℕ, Bool, true, false, zero, suc, List, Some, None, Ok, Err, Option, IsSome, Result, replicate}
use Rattle.netlist.specs.declared.edit.Edit.{Edit}
use Rattle.netlist.specs.declared.edit.Edit.TheVariants.{Input, Output, Gate, Latch, Delete, Move}
use Rattle.netlist.specs.declared.edit.Refusal.{Refusal}
use Rattle.netlist.specs.Refusals.{number}
use Rattle.editor.specs.declared.call.Call.{Call}
use Rattle.editor.specs.declared.call.Call.TheVariants.{Begin, Mark, KeepMark, DropMark, Keep, Drop, Make}
use Rattle.editor.specs.declared.ticket.Ticket.{Ticket}
use Rattle.editor.specs.Calls.{emptied}
use Rattle.editor.specs.Steps.{Called}
use Rattle.editor.specs.State.{State as EditorState}
use Rattle.desk.specs.State.{State}

-- what an accepted call makes of the ticket at hand: a batch is begun only where there is none, and one that is closed takes it
abbrev pub Hands : Call → Option Ticket → Option Ticket → Type 0
Hands Begin held held' = (held ≡ None) × IsSome held'
Hands Mark held held' = held' ≡ held
Hands KeepMark held held' = held' ≡ held
Hands DropMark held held' = held' ≡ held
Hands Keep held held' = IsSome held × (held' ≡ None)
Hands Drop held held' = IsSome held × (held' ≡ None)
Hands (Make e) held held' = held' ≡ held

-- a refused one leaves it at hand
abbrev pub AtHand : Call → Option Ticket → Option Ticket → Result ℕ Refusal → Type 0
AtHand c held held' (Ok count) = Hands c held held'
AtHand c held held' (Err r) = held' ≡ held

-- The editor's call, and what it makes of the ticket at hand.
pub record Plays (d : State) (c : Call) (d' : State) (r : Result ℕ Refusal) : Type 0 where
  pub called : Called d.editor c d'.editor r
  pub hand : AtHand c d.held d'.held r

-- the number that a keep or a drop is refused with where no ticket is at hand: by an editor of no signals, and by any other
abbrev pub ticketless : ℕ → ℕ
ticketless zero = 1
ticketless (suc m) = 10

-- the flags after a call: those of an edit are cleared
abbrev pub Clears : Call → List ℕ → List ℕ → Type 0
Clears Begin flags flags' = flags' ≡ flags
Clears Mark flags flags' = flags' ≡ flags
Clears KeepMark flags flags' = flags' ≡ flags
Clears DropMark flags flags' = flags' ≡ flags
Clears Keep flags flags' = flags' ≡ flags
Clears Drop flags flags' = flags' ≡ flags
Clears (Make e) flags flags' = flags' ≡ replicate 1024 0

-- the flags after an edit by the call of its name: those of one that puts a pin are cleared, and no other is handed them
abbrev pub ClearsNamed : Edit → List ℕ → List ℕ → Type 0
ClearsNamed (Input s) flags flags' = flags' ≡ flags
ClearsNamed (Output s v) flags flags' = flags' ≡ flags
ClearsNamed (Gate s k nets table) flags flags' = flags' ≡ replicate 1024 0
ClearsNamed (Latch s net start) flags flags' = flags' ≡ flags
ClearsNamed (Delete s) flags flags' = flags' ≡ flags
ClearsNamed (Move s i a) flags flags' = flags' ≡ replicate 1024 0

-- the editor once the desk is closed: a batch that is open is dropped
abbrev pub closing : EditorState → Option Ticket → EditorState
closing e None = e
closing e (Some ticket) = record e { words = emptied e.words }

-- ---- tickets of another desk

-- What a desk that has no ticket at hand refuses another's with. Nothing is handed in where there is no ticket, or where the other desk has one.
abbrev pub returned_with : Option Ticket → ℕ → Option Ticket → Option ℕ
returned_with None m other = None
returned_with (Some ticket) m None = Some (ticketless m)
returned_with (Some ticket) m (Some other) = None

-- the number of a refusal, if there is one
abbrev pub number_told : Option Refusal → Option ℕ
number_told None = None
number_told (Some r) = Some (number r)

-- the desk with another ticket, or none, at hand
abbrev pub with_ticket : State → Option Ticket → State
with_ticket d held = record d { held = held }

-- tickets are exchanged exactly where each desk has one
abbrev pub Swaps : State → State → State → State → Bool → Type 0
Swaps d e d' e' true = IsSome d.held × IsSome e.held × (d' ≡ with_ticket d e.held) × (e' ≡ with_ticket e d.held)
Swaps d e d' e' false = (IsSome d.held → IsSome e.held → ⊥) × (d' ≡ d) × (e' ≡ e)
