-- A keep or a drop where no ticket is at hand.
use Rattle.std.proofs.Common.{◌≡◌, ℕ, zero, suc, ◌<◌, Err, refl, inl, ⊎_elim, arith}
use Rattle.words.specs.Meaning.{Meaning, levels}
use Rattle.netlist.specs.declared.edit.Refusal.{Refusal}
use Rattle.netlist.specs.Refusals.{number}
use Rattle.editor.specs.declared.call.Call.{Call}
use Rattle.editor.specs.declared.call.Call.TheVariants.{Keep, Drop}
use Rattle.editor.specs.Calls.{Refuses, Replies, Serves}
use Rattle.editor.specs.State.{State}
use Rattle.editor.specs.Steps.{Called, InOrder}
use Rattle.editor.proofs.Calling.{displays_kept}
use Rattle.editor.proofs.Led.{led_refused}
use Rattle.editor.proofs.Looping.{refuses_loops, no_pin-no_loop}
use Rattle.editor.proofs.Stepping.{NoEdit}
use Rattle.desk.specs.Plays.{ticketless}

-- ---- no number below 10 applies

pub keep_from_ten : (m : ℕ) (a : Meaning) (k : ℕ) → k < 10 → Refuses m a Keep k → ⊥
keep_from_ten m a k lt h = ⊎_elim (λ x. omega (arith, x.0)) (λ y. ⊎_elim (λ x. omega (arith, x.0)) (λ x. omega (arith, x.0)) y) h

pub drop_from_ten : (m : ℕ) (a : Meaning) (k : ℕ) → k < 10 → Refuses m a Drop k → ⊥
drop_from_ten m a k lt h = omega (arith, h.0)

keep_refused : (m : ℕ) (a : Meaning) (r : Refusal) → number r ≡ 10 → levels a ≡ 0 → Replies m a Keep a (Err r)
keep_refused m a r is z = (inl (is, z), λ k lt h. keep_from_ten m a k (omega arith) h, refl)

drop_refused : (m : ℕ) (a : Meaning) (r : Refusal) → number r ≡ 10 → levels a ≡ 0 → Replies m a Drop a (Err r)
drop_refused m a r is z = ((is, z), λ k lt h. drop_from_ten m a k (omega arith) h, refl)

-- ---- a call that is refused with 10

serves_ten : (m : ℕ) (a : Meaning) (c : Call) (r : Refusal) → number r ≡ ticketless m → (number r ≡ 10 → 0 < m → Replies m a c a (Err r)) → Serves m a c a (Err r)
serves_ten zero a c r is h = record { none = λ _. (is, refl); some = λ lt. absurd (omega arith) }
serves_ten (suc m) a c r is h = record { none = λ z. absurd cc; some = λ lt. h is lt }

called_ten : (e : State) (c : Call) (r : Refusal) → NoEdit c → InOrder e.signals e.words → number r ≡ ticketless e.signals
    → (number r ≡ 10 → 0 < e.signals → Replies e.signals e.words c e.words (Err r)) → Called e c e (Err r)
called_ten e c r other order is h =
    let serves = serves_ten e.signals e.words c r is h in
    record {
      serves = serves;
      steps = λ log led. led_refused e.signals log e.words e.words c r refl led;
      order = order;
      loops = refuses_loops e e.words c (Err r) serves;
      shown = displays_kept e c (Err r) other;
      signals = refl;
      size = refl;
      behind = refl;
      pinless = no_pin-no_loop e e.words c (Err r) order serves;
    }

pub keep_without : (e : State) (r : Refusal) → number r ≡ ticketless e.signals → InOrder e.signals e.words → (0 < e.signals → levels e.words ≡ 0) → Called e Keep e (Err r)
keep_without e r is order shut = called_ten e Keep r tt order is (λ ten some. keep_refused e.signals e.words r ten (shut some))

pub drop_without : (e : State) (r : Refusal) → number r ≡ ticketless e.signals → InOrder e.signals e.words → (0 < e.signals → levels e.words ≡ 0) → Called e Drop e (Err r)
drop_without e r is order shut = called_ten e Drop r tt order is (λ ten some. drop_refused e.signals e.words r ten (shut some))
