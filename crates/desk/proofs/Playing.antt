-- From what the editor's call says to what the desk's says.
use Rattle.std.proofs.Common.{◌≡◌, ◌∙◌, ℕ, Some, None, Option, IsSome, is_some, Ok, Err, Result, sym, refl, ap, subst}
use Rattle.netlist.specs.declared.edit.Refusal.{Refusal}
use Rattle.netlist.specs.Refusals.{number}
use Rattle.editor.specs.declared.call.Call.{Call}
use Rattle.editor.specs.declared.call.Call.TheVariants.{Keep, Drop}
use Rattle.editor.specs.declared.ticket.Ticket.{Ticket}
use Rattle.editor.specs.declared.ticket.Returned.{Returned}
use Rattle.editor.specs.State.{State as EditorState}
use Rattle.editor.specs.Steps.{Called, InOrder, HandsBack, closed}
use Rattle.desk.specs.Held.{Backed, left}
use Rattle.desk.specs.Plays.{AtHand, Hands, Plays, ticketless, with_ticket}
use Rattle.desk.specs.State.{State}
use Rattle.desk.proofs.Ticketless.{keep_without, drop_without}

-- a desk of an editor
abbrev pub desk_of : EditorState → Option Ticket → State
desk_of e held = record { editor = e; held = held }

pub plays : (d₀ : State) (e e' : EditorState) (held held' : Option Ticket) (c : Call) (r : Result ℕ Refusal) → desk_of e held ≡ d₀ → Called e c e' r → AtHand c held held' r
    → Plays d₀ c (desk_of e' held') r
plays d₀ e e' held held' c r is called hand = subst (λ x. Plays x c (desk_of e' held') r) is (record { called = called; hand = hand })

-- what a call leaves at hand, whatever it replies
pub stays_at_hand : (c : Call) (held : Option Ticket) (r : Result ℕ Refusal) → Hands c held held → AtHand c held held r
stays_at_hand c held (Ok count) h = h
stays_at_hand c held (Err e) h = refl

-- what a keep or a drop of the ticket at hand leaves there
pub closed_at_hand : (c : Call) (held held' : Option Ticket) (ticket : Ticket) (r : Result (Unit {0}) Returned) → (IsSome held → held' ≡ None → Hands c held held') → Some ticket ≡ held
    → held' ≡ left r → HandsBack ticket r → AtHand c held held' (closed r)
closed_at_hand c held held' ticket (Ok _) hands was is back = hands (ap is_some (sym was)) is
closed_at_hand c held held' ticket (Err b) hands was is back = is ∙ ap Some back ∙ was

-- nothing is handed in where no ticket is at hand
without : (d₀ d : State) (held' : Option Ticket) (c : Call) (r : Refusal) → d ≡ d₀ → None ≡ d.held → held' ≡ None → Called d.editor c d.editor (Err r)
    → Plays d₀ c (with_ticket d held') (Err r)
without d₀ d held' c r is none gone called = subst (λ x. Plays x c (with_ticket d held') (Err r)) is (record { called = called; hand = gone ∙ none })

pub keeps_without : (d₀ d : State) (held' : Option Ticket) (r : Refusal) → d ≡ d₀ → None ≡ d.held → held' ≡ None → number r ≡ ticketless d.editor.signals → InOrder d.editor.signals d.editor.words
    → Backed d.editor.signals d.editor.words d.held → Plays d₀ Keep (with_ticket d held') (Err r)
keeps_without d₀ d held' r is none gone reply order h =
    without d₀ d held' Keep r is none gone (keep_without d.editor r reply order (subst (Backed d.editor.signals d.editor.words) (sym none) h))

pub drops_without : (d₀ d : State) (held' : Option Ticket) (r : Refusal) → d ≡ d₀ → None ≡ d.held → held' ≡ None → number r ≡ ticketless d.editor.signals → InOrder d.editor.signals d.editor.words
    → Backed d.editor.signals d.editor.words d.held → Plays d₀ Drop (with_ticket d held') (Err r)
drops_without d₀ d held' r is none gone reply order h =
    without d₀ d held' Drop r is none gone (drop_without d.editor r reply order (subst (Backed d.editor.signals d.editor.words) (sym none) h))
