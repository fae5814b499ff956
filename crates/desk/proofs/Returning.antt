-- A ticket that another desk hands back.
use Rattle.std.proofs.Common.{◌≡◌, ◌∙◌, ℕ, zero, suc, ◌<◌, false, Some, None, Option, is_some, Ok, Err, Result, refl, ap, subst, ⊎_elim, arith}
use Rattle.std.proofs.lemmas.Bool.{cases_lt}
use Rattle.std.specs.Result.{result_err}
use Rattle.words.specs.Meaning.{Meaning, levels}
use Rattle.netlist.specs.declared.edit.Refusal.{Refusal}
use Rattle.netlist.specs.Refusals.{number}
use Rattle.editor.specs.declared.call.Call.{Call}
use Rattle.editor.specs.declared.ticket.Ticket.{Ticket}
use Rattle.editor.specs.declared.ticket.Returned.{Returned}
use Rattle.editor.specs.Calls.{RefusedWith, Refuses, Replies, Serves}
use Rattle.editor.specs.Plain.{plain}
use Rattle.editor.specs.State.{State as EditorState}
use Rattle.editor.specs.Steps.{Called, HandsBack, closed}
use Rattle.editor.proofs.Calling.{shown_kept}
use Rattle.editor.proofs.Stepping.{NoEdit}
use Rattle.desk.specs.Held.{Backed, left}
use Rattle.desk.specs.Plays.{returned_with, number_told, ticketless, with_ticket}
use Rattle.desk.specs.State.{State}

-- where 10 applies and nothing below, it is the reply
ten : (k : ℕ) → (k < 10 → ⊥) → (10 < k → ⊥) → k ≡ 10
ten k low high = ⊎_elim (λ lt. absurd (low lt)) (λ ge. ⊎_elim (λ lt. absurd (high lt)) (λ le. omega arith) (cases_lt 10 k)) (cases_lt k 10)

-- what a call that closes a batch replies where none is open
replies_ten : (m : ℕ) (a a' : Meaning) (c : Call) (r : Result ℕ Refusal) → Refuses m a c 10 → ((k : ℕ) → k < 10 → Refuses m a c k → ⊥) → Replies m a c a' r
    → RefusedWith 10 r × (a' ≡ a)
replies_ten m a a' c (Ok count) some low h = absurd (h.0 10 some)
replies_ten m a a' c (Err r) some low h = (ten (number r) (λ lt. low (number r) lt h.0) (λ lt. h.1 10 lt some), h.2)

serves_closing : (m : ℕ) (a a' : Meaning) (c : Call) (r : Result ℕ Refusal) → (levels a ≡ 0 → Refuses m a c 10) → ((k : ℕ) → k < 10 → Refuses m a c k → ⊥) → (0 < m → levels a ≡ 0)
    → Serves m a c a' r → RefusedWith (ticketless m) r × (a' ≡ a)
serves_closing zero a a' c r some low shut h = h.none refl
serves_closing (suc m) a a' c r some low shut h =
    let lt : 0 < suc m = omega arith in replies_ten (suc m) a a' c r (some (shut lt)) low (h.some lt)

-- the other desk: its editor refuses, and is as it was
pub refused_there : (e e' : EditorState) (c : Call) (r : Result ℕ Refusal) (held : Option Ticket) → NoEdit c → (levels e.words ≡ 0 → Refuses e.signals e.words c 10)
    → ((k : ℕ) → k < 10 → Refuses e.signals e.words c k → ⊥) → false ≡ is_some held → Called e c e' r → Backed e.signals e.words held
    → RefusedWith (ticketless e.signals) r × (e' ≡ e)
refused_there e e' c r None other some low shut called h =
    let (is, words) = serves_closing e.signals e.words e'.words c r some low h called.serves in
    (is, λ i. record { signals = called.signals i; words = words i; lent = called.behind i; shown = shown_kept e c r e'.shown other called.shown i })
refused_there e e' c r (Some ticket) other some low shut called h = absurd cc

-- the desk: its ticket is back
pub back_at_hand : (r : Result (Unit {0}) Returned) (k : ℕ) (held held' : Option Ticket) (ticket : Ticket) → RefusedWith k (closed r) → HandsBack ticket r → Some ticket ≡ held → held' ≡ left r
    → held' ≡ held
back_at_hand (Ok _) k held held' ticket is back was now = absurd is
back_at_hand (Err b) k held held' ticket is back was now = now ∙ ap Some back ∙ was

pub unchanged : (d₀ d : State) (held' : Option Ticket) → d ≡ d₀ → held' ≡ d.held → with_ticket d held' ≡ d₀
unchanged d₀ d held' is same = ap (with_ticket d) same ∙ is

-- what is told of it
pub told : (o : Option Refusal) (r : Result (Unit {0}) Refusal) (k : ℕ) → o ≡ result_err r → RefusedWith k (plain r) → number_told o ≡ Some k
told o (Ok _) k is reply = absurd reply
told o (Err e) k is reply = ap number_told is ∙ ap Some reply

none_there : (o : Option Ticket) (m : ℕ) (ticket : Ticket) → false ≡ is_some o → Some (ticketless m) ≡ returned_with (Some ticket) m o
none_there None m ticket n = refl
none_there (Some other) m ticket n = absurd cc

pub told_of : (d₀ d e₀ e : State) (ticket : Ticket) → d ≡ d₀ → e ≡ e₀ → Some ticket ≡ d.held → false ≡ is_some e.held
    → Some (ticketless e.editor.signals) ≡ returned_with d₀.held e₀.editor.signals e₀.held
told_of d₀ d e₀ e ticket dis eis some none =
    subst (λ x. Some (ticketless e.editor.signals) ≡ returned_with x.held e₀.editor.signals e₀.held) dis
    (subst (λ x. Some (ticketless e.editor.signals) ≡ returned_with d.held x.editor.signals x.held) eis
    (subst (λ x. Some (ticketless e.editor.signals) ≡ returned_with x e.editor.signals e.held) some (none_there e.held e.editor.signals ticket none)))
