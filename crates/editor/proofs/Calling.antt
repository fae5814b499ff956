-- What the calls of an editor promise, from what they do on its board.
use Rattle.std.proofs.Common.{◌≡◌, ℕ, ◌<◌, ◌≤◌, List, [], Ok, Err, Result, IfOk, sym, refl, subst, inl, inr, ⊎_elim, arith, length-drop}
use Rattle.std.proofs.lemmas.Bool.{cases_lt}
use Rattle.words.specs.Meaning.{levels}
use Rattle.netlist.specs.declared.edit.Edit.{Edit}
use Rattle.netlist.specs.declared.edit.Refusal.{Refusal}
use Rattle.netlist.specs.Netlist.{Whole}
use Rattle.board.specs.Board.{netlist_of, Sound}
use Rattle.board.specs.Stored.{Stored, Stays}
use Rattle.edits.specs.Makes.{Workable, Makes, MakesPlain}
use Rattle.editor.specs.declared.call.Call.{Call}
use Rattle.editor.specs.declared.call.Call.TheVariants.{Begin, Mark, KeepMark, DropMark, Keep, Drop, Make}
use Rattle.editor.specs.declared.ticket.Returned.{Returned}
use Rattle.editor.specs.Calls.{Replies}
use Rattle.editor.specs.Plain.{plain}
use Rattle.editor.specs.Shown.{Shows}
use Rattle.editor.specs.State.{State, state_of, Reached}
use Rattle.editor.specs.Steps.{Called, Displays, closed}
use Rattle.editor.proofs.Looping.{refuses_loops, no_pin-no_loop}
use Rattle.editor.proofs.Ordering.{in_order}
use Rattle.editor.proofs.Stepping.{NoEdit, Done, done_by, reached_after, reached_workable, done_make, shows_early}

-- any call, of an editor that was over the first board
pub called : (s : State) (b b' : Stored) (shown shown' : List ℕ) (c : Call) (r : Result ℕ Refusal) → state_of b shown ≡ s → Reached b.signals b.words → Done b c b' r
    → Displays (state_of b shown) c r shown' → Called s c (state_of b' shown') r
called s b b' shown shown' c r is reached done displays =
    subst (λ x. Called x c (state_of b' shown') r) is
    (record {
      serves = done.serves;
      steps = done.steps;
      order = in_order b'.signals b'.words (reached_after b b' c r done reached);
      loops = refuses_loops (state_of b shown) b'.words c r done.serves;
      shown = displays;
      signals = done.stays.signals;
      size = done.stays.size;
      behind = done.stays.behind;
      pinless = no_pin-no_loop (state_of b shown) b'.words c r (in_order b.signals b.words reached) done.serves;
    })

pub displays_kept : (s : State) (c : Call) (r : Result ℕ Refusal) → NoEdit c → Displays s c r s.shown
displays_kept s Begin r other = refl
displays_kept s Mark r other = refl
displays_kept s KeepMark r other = refl
displays_kept s DropMark r other = refl
displays_kept s Keep r other = refl
displays_kept s Drop r other = refl
displays_kept s (Make e) r other = absurd other

pub shown_kept : (s : State) (c : Call) (r : Result ℕ Refusal) (shown : List ℕ) → NoEdit c → Displays s c r shown → shown ≡ s.shown
shown_kept s Begin r shown other h = h
shown_kept s Mark r shown other h = h
shown_kept s KeepMark r shown other h = h
shown_kept s DropMark r shown other h = h
shown_kept s Keep r shown other h = h
shown_kept s Drop r shown other h = h
shown_kept s (Make e) r shown other h = absurd other

-- a call of batches and marks
pub called_by : (s : State) (b b' : Stored) (shown : List ℕ) (c : Call) (r : Result ℕ Refusal) → state_of b shown ≡ s → Reached b.signals b.words → NoEdit c → 0 < b.signals
    → (2 ≤ b.words.limit → Sound b.signals b.words.image → Replies b.signals b.words c b'.words r) → Stays b b' → Called s c (state_of b' shown) r
called_by s b b' shown c r is reached other some h stays =
    called s b b' shown shown c r is reached (done_by b b' c r other reached some h stays) (displays_kept (state_of b shown) c r other)

pub reached_by : (b b' : Stored) (c : Call) (r : Result ℕ Refusal) → Reached b.signals b.words → NoEdit c → 0 < b.signals
    → (2 ≤ b.words.limit → Sound b.signals b.words.image → Replies b.signals b.words c b'.words r) → Stays b b' → Reached b'.signals b'.words
reached_by b b' c r reached other some h stays = reached_after b b' c r (done_by b b' c r other reached some h stays) reached

-- an edit, of which a loop is shown or none
pub called_edit : (s : State) (b b' : Stored) (shown shown' : List ℕ) (e : Edit) (r : Result ℕ Refusal) → state_of b shown ≡ s → Reached b.signals b.words → 0 < b.signals
    → (Workable b.signals b.words → Makes b.signals b.words e b'.words r) → Stays b b' → (Workable b.signals b.words → Shows (netlist_of b.signals b.words.image) e r shown')
    → Called s (Make e) (state_of b' shown') r
called_edit s b b' shown shown' e r is reached some makes stays shows =
    called s b b' shown shown' (Make e) r is reached (done_make b b' e r reached some makes stays) (shows (reached_workable b.signals b.words reached some))

-- an edit that puts no pin
pub called_early : (s : State) (b b' : Stored) (shown shown' : List ℕ) (e : Edit) (r : Result ℕ Refusal) → state_of b shown ≡ s → Reached b.signals b.words → 0 < b.signals
    → MakesPlain b e b' r → shown' ≡ [] → Called s (Make e) (state_of b' shown') r
called_early s b b' shown shown' e r is reached some h gone =
    called_edit s b b' shown shown' e r is reached some h.makes h.stays (λ w. shows_early (netlist_of b.signals b.words.image) e r shown' (h.early w) gone)

pub reached_edit : (b b' : Stored) (e : Edit) (r : Result ℕ Refusal) → Reached b.signals b.words → 0 < b.signals → (Workable b.signals b.words → Makes b.signals b.words e b'.words r) → Stays b b'
    → Reached b'.signals b'.words
reached_edit b b' e r reached some makes stays = reached_after b b' (Make e) r (done_make b b' e r reached some makes stays) reached

pub reached_early : (b b' : Stored) (e : Edit) (r : Result ℕ Refusal) → Reached b.signals b.words → 0 < b.signals → MakesPlain b e b' r → Reached b'.signals b'.words
reached_early b b' e r reached some h = reached_edit b b' e r reached some h.makes h.stays

-- ---- a batch that was kept

kept_whole : (s s' : State) (count : ℕ) → Called s Keep s' (Ok count) → Whole (netlist_of s'.signals s'.words.image)
kept_whole s s' count h =
    h.order.whole
    (⊎_elim
    (λ some.
    let replies = h.serves.some some in
    subst (λ a. levels a ≡ 0) (sym replies.1.0)
    (⊎_elim (λ lt. absurd (replies.0 22 (inr (inl (refl, lt))))) (λ le. omega (arith, length-drop 1 s.words.saved)) (cases_lt 1 (levels s.words))))
    (λ le. absurd (h.serves.none (omega arith)).0)
    (cases_lt 0 s.signals))

pub keeps_whole : (s s' : State) (r : Result (Unit {0}) Returned) → Called s Keep s' (closed r) → IfOk r (λ _. Whole (netlist_of s'.signals s'.words.image))
keeps_whole s s' (Ok _) h = kept_whole s s' 0 h
keeps_whole s s' (Err back) h = tt

pub plain_whole : (s s' : State) (r : Result (Unit {0}) Refusal) → Called s Keep s' (plain r) → IfOk r (λ _. Whole (netlist_of s'.signals s'.words.image))
plain_whole s s' (Ok _) h = kept_whole s s' 0 h
plain_whole s s' (Err e) h = tt
