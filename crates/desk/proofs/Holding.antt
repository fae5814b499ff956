-- What a call leaves of the ticket at hand.
use Rattle.std.proofs.Common.{◌≡◌, ℕ, ◌<◌, ◌≤◌, length, drop, Some, None, Option, IsSome, Ok, Err, Result, sym, refl, subst, inl, inr, ⊎_elim, arith, length-drop}
use Rattle.std.proofs.lemmas.Bool.{cases_lt}
use Rattle.words.specs.Meaning.{Meaning, levels}
use Rattle.netlist.specs.declared.edit.Refusal.{Refusal}
use Rattle.netlist.specs.Edits.Applies.{no_batch}
use Rattle.editor.specs.declared.call.Call.{Call}
use Rattle.editor.specs.declared.call.Call.TheVariants.{Begin, Mark, KeepMark, DropMark, Keep, Drop, Make}
use Rattle.editor.specs.declared.ticket.Ticket.{Ticket}
use Rattle.editor.specs.Calls.{Replies, Serves}
use Rattle.editor.specs.State.{State}
use Rattle.editor.specs.Steps.{Called}
use Rattle.desk.specs.Held.{Backed}
use Rattle.desk.specs.Plays.{AtHand}

-- ---- levels

-- a mark that is closed lies above the batch
mark_above : (a : Meaning) → (levels a ≤ 1 → ⊥) → 0 < length (drop 1 a.saved)
mark_above a h = ⊎_elim (λ lt. omega (arith, length-drop 1 a.saved)) (λ le. absurd (h le)) (cases_lt 1 (levels a))

-- without a mark nothing lies above the batch
batch_last : (a : Meaning) → (1 < levels a → ⊥) → length (drop 1 a.saved) ≡ 0
batch_last a h = ⊎_elim (λ lt. absurd (h lt)) (λ le. omega (arith, length-drop 1 a.saved)) (cases_lt 1 (levels a))

-- a call that is not refused stays in the batch that its ticket stands for
still_backed : (m : ℕ) (a a' : Meaning) (c : Call) (count : ℕ) (held held' : Option Ticket) → 0 < m → Replies m a c a' (Ok count) → AtHand c held held' (Ok count)
    → Backed m a held → Backed m a' held'
still_backed m a a' Begin count held None some h hand backed = absurd (let none = hand.1 in cc)
still_backed m a a' Begin count held (Some ticket) some h hand backed = (some, subst (λ x. 0 < levels x) (sym h.1.0) (omega arith))
still_backed m a a' Mark count None held' some h hand backed = absurd (h.0 10 (inl (refl, backed some)))
still_backed m a a' Mark count (Some ticket) held' some h hand backed =
    subst (Backed m a') (sym hand) (some, subst (λ x. 0 < levels x) (sym h.1.0) (omega arith))
still_backed m a a' KeepMark count None held' some h hand backed = absurd (h.0 10 (inl (refl, backed some)))
still_backed m a a' KeepMark count (Some ticket) held' some h hand backed =
    subst (Backed m a') (sym hand) (some, subst (λ x. 0 < levels x) (sym h.1.0) (mark_above a (λ le. h.0 21 (inr (refl, le)))))
still_backed m a a' DropMark count None held' some h hand backed = absurd (h.0 10 (inl (refl, backed some)))
still_backed m a a' DropMark count (Some ticket) held' some h hand backed =
    subst (Backed m a') (sym hand) (some, subst (λ x. 0 < levels x) (sym h.1.0) (mark_above a (λ le. h.0 21 (inr (refl, le)))))
still_backed m a a' Keep count held held' some h hand backed =
    subst (Backed m a') (sym hand.1) (λ _. subst (λ x. levels x ≡ 0) (sym h.1.0) (batch_last a (λ lt. h.0 22 (inr (inl (refl, lt))))))
still_backed m a a' Drop count held held' some h hand backed = subst (Backed m a') (sym hand.1) (λ _. subst (λ x. levels x ≡ 0) (sym h.1.0) refl)
still_backed m a a' (Make e) count None held' some h hand backed = absurd (h.0 10 (no_batch (backed some)))
still_backed m a a' (Make e) count (Some ticket) held' some h hand backed =
    subst (Backed m a') (sym hand) (some, subst (λ x. 0 < length x) (sym h.1.0.levels) backed.1)

-- what is refused changes nothing
kept_backed : (m : ℕ) (a a' : Meaning) (held : Option Ticket) → a' ≡ a → Backed m a held → Backed m a' held
kept_backed m a a' held same backed = subst (λ x. Backed m x held) (sym same) backed

-- an editor of no signals has no ticket out
none_backed : (m : ℕ) (a a' : Meaning) (held : Option Ticket) → m ≡ 0 → Backed m a held → Backed m a' held
none_backed m a a' None z backed = λ some. absurd (omega arith)
none_backed m a a' (Some ticket) z backed = absurd (let some = backed.0 in omega arith)

backed_by : (m : ℕ) (a a' : Meaning) (c : Call) (r : Result ℕ Refusal) (held held' : Option Ticket) → Serves m a c a' r → AtHand c held held' r → Backed m a held → Backed m a' held'
backed_by m a a' c (Ok count) held held' serves hand backed =
    ⊎_elim
    (λ some. still_backed m a a' c count held held' some (serves.some some) hand backed)
    (λ le. absurd (serves.none (omega arith)).0)
    (cases_lt 0 m)
backed_by m a a' c (Err r) held held' serves hand backed =
    subst (Backed m a') (sym hand)
    (⊎_elim
    (λ some. kept_backed m a a' held (serves.some some).2 backed)
    (λ le. none_backed m a a' held (omega arith) backed)
    (cases_lt 0 m))

-- ---- the invariant of a desk

-- after a call
pub backed_after : (e e' : State) (c : Call) (r : Result ℕ Refusal) (held held' : Option Ticket) → Called e c e' r → AtHand c held held' r → Backed e.signals e.words held
    → Backed e'.signals e'.words held'
backed_after e e' c r held held' called hand h =
    subst (λ n. Backed n e'.words held') (sym called.signals) (backed_by e.signals e.words e'.words c r held held' called.serves hand h)

-- a batch is begun only where no ticket is at hand
pub none_begun : (m : ℕ) (a a' : Meaning) (count : ℕ) (held : Option Ticket) → Serves m a Begin a' (Ok count) → Backed m a held → held ≡ None
none_begun m a a' count None serves h = refl
none_begun m a a' count (Some ticket) serves h = absurd ((serves.some h.0).0 11 (refl, h.1))

-- with its ticket at hand a batch can be dropped
pub never_refused : (m : ℕ) (a a' : Meaning) (r : Refusal) (ticket : Ticket) → Serves m a Drop a' (Err r) → Backed m a (Some ticket) → ⊥
never_refused m a a' r ticket serves h = let refused = (serves.some h.0).0.1 in let open' = h.1 in omega (arith)

-- Another ticket stands for the same batch.
pub backed_other : (m : ℕ) (a : Meaning) (held held' : Option Ticket) → IsSome held → IsSome held' → Backed m a held → Backed m a held'
backed_other m a None held' some some' h = absurd cc
backed_other m a (Some ticket) None some some' h = absurd cc
backed_other m a (Some ticket) (Some other) some some' h = h
