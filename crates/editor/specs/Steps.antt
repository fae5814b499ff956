-- What every call of an editor promises.
use Rattle.std.specs.Prelude.{◌≡◌, ℕ, ◌<◌, ◌↔◌, List, [], ◌∷◌, ◌++◌, Ok, Err, Result}
use Rattle.words.specs.Meaning.{Meaning, size, levels}
use Rattle.netlist.specs.declared.edit.Refusal.{Refusal}
use Rattle.netlist.specs.Netlist.{HasLoop, Whole, driver_of}
use Rattle.netlist.specs.Places.{Arranges, Ordered}
use Rattle.netlist.specs.Edits.{asked, puts_of}
use Rattle.board.specs.Board.{netlist_of, order_of}
use Rattle.board.specs.Standing.{Fitting}
use Rattle.editor.specs.declared.call.Call.{Call}
use Rattle.editor.specs.declared.call.Call.TheVariants.{Begin, Mark, KeepMark, DropMark, Keep, Drop, Make}
use Rattle.editor.specs.declared.ticket.Ticket.{Ticket}
use Rattle.editor.specs.declared.ticket.Returned.{Returned}
use Rattle.editor.specs.Calls.{RefusedWith, Refuses, Serves}
use Rattle.editor.specs.Log.{Entry, Led}
use Rattle.editor.specs.Shown.{Shows}
use Rattle.editor.specs.State.{State}

-- For every log that led to where a call was made, the log with this call leads to what it left.
abbrev pub Steps : ℕ → Meaning → Call → Meaning → Result ℕ Refusal → Type 0
Steps m a c a' r = (log : List Entry) → Led m log a → Led m (log ++ (record { call = c; reply = r }) ∷ []) a'

-- The places are a permutation of the signals, each gate stands behind all signals that feed it, every table and start fits, and outside a batch
-- the netlist is whole.
pub record InOrder (m : ℕ) (a : Meaning) : Type 0 where
  pub permutes : Arranges m (order_of m a.image)
  pub ordered : Ordered (netlist_of m a.image) (order_of m a.image)
  pub fits : (s : ℕ) → Fitting (driver_of (netlist_of m a.image) s)
  pub whole : levels a ≡ 0 → Whole (netlist_of m a.image)

-- The loop that is shown after a call: an edit shows one of the netlist asked for, where it was refused for a loop, else none. Other calls leave it.
abbrev pub Displays : State → Call → Result ℕ Refusal → List ℕ → Type 0
Displays s Begin r shown = shown ≡ s.shown
Displays s Mark r shown = shown ≡ s.shown
Displays s KeepMark r shown = shown ≡ s.shown
Displays s DropMark r shown = shown ≡ s.shown
Displays s Keep r shown = shown ≡ s.shown
Displays s Drop r shown = shown ≡ s.shown
Displays s (Make e) r shown = Shows (netlist_of s.signals s.words.image) e r shown

-- An edit of an editor with signals to which no number below 25 applies is refused with 25 if and only if the netlist that it asks for has a loop.
abbrev pub RefusesLoops : State → Call → Result ℕ Refusal → Type 0
RefusesLoops s Begin r = Unit {0}
RefusesLoops s Mark r = Unit {0}
RefusesLoops s KeepMark r = Unit {0}
RefusesLoops s DropMark r = Unit {0}
RefusesLoops s Keep r = Unit {0}
RefusesLoops s Drop r = Unit {0}
RefusesLoops s (Make e) r =
    0 < s.signals → ((k : ℕ) → k < 25 → Refuses s.signals s.words (Make e) k → ⊥)
    → RefusedWith 25 r ↔ HasLoop (asked (netlist_of s.signals s.words.image) e)

-- An edit that puts no pin is never refused for a loop.
abbrev pub NoPinNoLoop : State → Call → Result ℕ Refusal → Type 0
NoPinNoLoop s Begin r = Unit {0}
NoPinNoLoop s Mark r = Unit {0}
NoPinNoLoop s KeepMark r = Unit {0}
NoPinNoLoop s DropMark r = Unit {0}
NoPinNoLoop s Keep r = Unit {0}
NoPinNoLoop s Drop r = Unit {0}
NoPinNoLoop s (Make e) r = puts_of (netlist_of s.signals s.words.image) e ≡ [] → RefusedWith 25 r → ⊥

-- The reply and what it leaves are those of the rules, whatever calls were made before, and the call adds its step to every log. Netlist and order
-- are right after it. M, N and the memory behind the store stay.
pub record Called (before : State) (c : Call) (after : State) (r : Result ℕ Refusal) : Type 0 where
  pub serves : Serves before.signals before.words c after.words r
  pub steps : Steps before.signals before.words c after.words r
  pub order : InOrder after.signals after.words
  pub loops : RefusesLoops before c r
  pub shown : Displays before c r after.shown
  pub signals : after.signals ≡ before.signals
  pub size : size after.words ≡ size before.words
  pub behind : after.lent ≡ before.lent
  pub pinless : NoPinNoLoop before c r

-- ---- replies that carry a ticket

abbrev pub begun : Result Ticket Refusal → Result ℕ Refusal
begun (Ok ticket) = Ok 0
begun (Err r) = Err r

abbrev pub closed : Result (Unit {0}) Returned → Result ℕ Refusal
closed (Ok _) = Ok 0
closed (Err back) = Err back.refusal

-- a refused call hands the ticket back
abbrev pub HandsBack : Ticket → Result (Unit {0}) Returned → Type 0
HandsBack ticket (Ok _) = Unit {0}
HandsBack ticket (Err back) = back.ticket ≡ ticket
