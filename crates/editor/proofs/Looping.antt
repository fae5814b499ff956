-- An edit that nothing smaller refuses is refused for a loop exactly where it asks for one, and one that puts no pin never is.
use Rattle.std.proofs.Common.{◌≡◌, ℕ, ◌<◌, ◌↔◌, List, [], Ok, Err, Result, refl, subst, ⊎_elim, arith}
use Rattle.std.proofs.lemmas.Bool.{cases_lt}
use Rattle.words.specs.Meaning.{Meaning, levels}
use Rattle.reach.specs.Reach.{Among}
use Rattle.netlist.specs.declared.edit.Edit.{Edit}
use Rattle.netlist.specs.declared.edit.Refusal.{Refusal}
use Rattle.netlist.specs.Refusals.{number}
use Rattle.netlist.specs.Netlist.{Netlist, HasLoop}
use Rattle.netlist.specs.Places.{Ordered}
use Rattle.netlist.specs.Edits.{Applies, no_batch, no_signal, out_of_range, driven, wrong_kind, no_pin, in_use, looped, asked, puts_of, signal_of}
use Rattle.netlist.proofs.Loops.{order-excludes-loops}
use Rattle.board.specs.Board.{signal_at, netlist_of, order_of}
use Rattle.board.proofs.Listing.{length-listing}
use Rattle.edits.proofs.Asked.{asked-others, asked_ordered}
use Rattle.edits.proofs.Smallest.{signal-below}
use Rattle.editor.specs.declared.call.Call.{Call}
use Rattle.editor.specs.declared.call.Call.TheVariants.{Begin, Mark, KeepMark, DropMark, Keep, Drop, Make}
use Rattle.editor.specs.Calls.{RefusedWith, Refuses, Replies, Serves}
use Rattle.editor.specs.State.{State}
use Rattle.editor.specs.Steps.{InOrder, RefusesLoops, NoPinNoLoop}

-- where no number below 25 applies, one that does is 25, and there is a loop
loop_asked : (m open' : ℕ) (n : Netlist) (e : Edit) (k : ℕ) → Applies m open' n e k → ((j : ℕ) → j < 25 → Applies m open' n e j → ⊥) → (k ≡ 25) × HasLoop (asked n e)
loop_asked m open' n e k (no_batch h) none = absurd (none 10 (omega arith) (no_batch h))
loop_asked m open' n e k (no_signal h) none = absurd (none 12 (omega arith) (no_signal h))
loop_asked m open' n e k (out_of_range h) none = absurd (none 13 (omega arith) (out_of_range h))
loop_asked m open' n e k (driven h) none = absurd (none 14 (omega arith) (driven h))
loop_asked m open' n e k (wrong_kind h) none = absurd (none 15 (omega arith) (wrong_kind h))
loop_asked m open' n e k (no_pin h) none = absurd (none 16 (omega arith) (no_pin h))
loop_asked m open' n e k (in_use h) none = absurd (none 19 (omega arith) (in_use h))
loop_asked m open' n e k (looped xs loop) none = (refl, (xs, loop))

refused_for : (m : ℕ) (a a' : Meaning) (e : Edit) (r : Result ℕ Refusal) → Replies m a (Make e) a' r → ((k : ℕ) → k < 25 → Refuses m a (Make e) k → ⊥)
    → RefusedWith 25 r ↔ HasLoop (asked (netlist_of m a.image) e)
refused_for m a a' e (Ok count) (allowed, done) none = (λ refused. absurd refused, λ (xs, loop). allowed 25 (looped xs loop))
refused_for m a a' e (Err r) h none =
    let (is, loop) = loop_asked m (levels a) (netlist_of m a.image) e (number r) h.0 none in (λ _. loop, λ _. is)

pub refuses_loops : (s : State) (a' : Meaning) (c : Call) (r : Result ℕ Refusal) → Serves s.signals s.words c a' r → RefusesLoops s c r
refuses_loops s a' Begin r serves = tt
refuses_loops s a' Mark r serves = tt
refuses_loops s a' KeepMark r serves = tt
refuses_loops s a' DropMark r serves = tt
refuses_loops s a' Keep r serves = tt
refuses_loops s a' Drop r serves = tt
refuses_loops s a' (Make e) r serves = λ some none. refused_for s.signals s.words a' e r (serves.some some) none

-- ---- an edit that puts no pin

-- it asks for no loop, where the places are in order: each gate stands behind what feeds it as it did before
no_loop_asked : (m : ℕ) (ws : List ℕ) (e : Edit) → Ordered (netlist_of m ws) (order_of m ws) → signal_of e < m → puts_of (netlist_of m ws) e ≡ []
    → HasLoop (asked (netlist_of m ws) e) → ⊥
no_loop_asked m ws e ordered below none (xs, loop) =
    let n = netlist_of m ws in
    let o = order_of m ws in
    order-excludes-loops (asked n e) o xs
    (asked_ordered n o o e (omega (arith, below, length-listing (signal_at m ws) 0 m)) ordered (asked-others n o e ordered) (λ x lt. lt)
    (λ x put. absurd (subst (Among x) none put)))
    loop

other_refusal : (m : ℕ) (a a' : Meaning) (e : Edit) (r : Refusal) → InOrder m a → Replies m a (Make e) a' (Err r) → puts_of (netlist_of m a.image) e ≡ []
    → number r ≡ 25 → ⊥
other_refusal m a a' e r order h none is =
    let (same, loop) = loop_asked m (levels a) (netlist_of m a.image) e (number r) h.0 (λ j lt. h.1 j (omega arith)) in
    no_loop_asked m a.image e order.ordered (signal-below m e (λ b. h.1 12 (omega arith) (no_signal b))) none loop

pub no_pin-no_loop : (s : State) (a' : Meaning) (c : Call) (r : Result ℕ Refusal) → InOrder s.signals s.words → Serves s.signals s.words c a' r → NoPinNoLoop s c r
no_pin-no_loop s a' Begin r order serves = tt
no_pin-no_loop s a' Mark r order serves = tt
no_pin-no_loop s a' KeepMark r order serves = tt
no_pin-no_loop s a' DropMark r order serves = tt
no_pin-no_loop s a' Keep r order serves = tt
no_pin-no_loop s a' Drop r order serves = tt
no_pin-no_loop s a' (Make e) (Ok count) order serves = λ none refused. refused
no_pin-no_loop s a' (Make e) (Err r) order serves = λ none is.
    ⊎_elim
    (λ some. other_refusal s.signals s.words a' e r order (serves.some some) none is)
    (λ le. omega (arith, is, (serves.none (omega arith)).0))
    (cases_lt 0 s.signals)
