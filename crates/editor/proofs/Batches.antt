-- The worked cases of batches and marks hold.
use Rattle.std.proofs.Common.{◌≡◌, ℕ, ◌<◌, List, ◌∷◌, length, Ok, Err, Result, refl, ap, ◌∙◌, subst, inr, ⊎_elim, arith}
use Rattle.words.specs.Meaning.{Meaning, levels, newest, opened, dropped}
use Rattle.netlist.specs.declared.edit.Edit.TheVariants.{Input}
use Rattle.netlist.specs.declared.edit.Refusal.{Refusal}
use Rattle.netlist.specs.declared.edit.Refusal.TheVariants.{NoLevelForMark}
use Rattle.netlist.specs.Refusals.{number}
use Rattle.netlist.specs.Netlist.{absent, input, driver_of}
use Rattle.netlist.specs.Edits.{Applies, asked}
use Rattle.netlist.proofs.Determined.{same-refusal}
use Rattle.netlist.proofs.Examples.{allowed-input}
use Rattle.board.specs.Board.{netlist_of, order_of}
use Rattle.editor.specs.declared.call.Call.TheVariants.{Mark, DropMark, Make}
use Rattle.editor.specs.Calls.{Refuses, Replies}
use Rattle.editor.specs.Log.{Entry}
use Rattle.editor.specs.Laws.{Fresh, FreshBatch, EveryFreshBatch, WorkedBatches}
use Rattle.editor.proofs.Led.{any_levels}
use Rattle.editor.proofs.Instance.{log₅, batch₅, fresh₅, entered₅}

fresh_batch : (log : List Entry) (a : Meaning) → Fresh log a → FreshBatch a
fresh_batch log a fresh = record { limit = fresh.limit; batch = fresh.batch; empty = fresh.empty }

module _ (a : Meaning) (fresh : FreshBatch a) where
  -- ---- marks

  mark_allowed : (k : ℕ) → Refuses 5 a Mark k → ⊥
  mark_allowed k h = ⊎_elim (λ ten. omega (arith, ten.1, fresh.batch)) (λ twenty. omega (arith, twenty.1, fresh.batch, fresh.limit)) h

  first_mark : Replies 5 a Mark (opened a) (Ok 0)
  first_mark = (mark_allowed, (refl, refl))

  below_twenty : (k : ℕ) → k < 20 → Refuses 5 (opened a) Mark k → ⊥
  below_twenty k lt h = ⊎_elim (λ ten. omega (arith, ten.1, fresh.batch)) (λ twenty. omega (arith, twenty.0)) h

  second_mark : Replies 5 (opened a) Mark (opened a) (Err NoLevelForMark)
  second_mark = (inr (refl, omega (arith, fresh.batch, fresh.limit)), below_twenty, refl)

  -- ---- an input under the mark, and the mark dropped

  input_allowed : (k : ℕ) → Applies 5 (levels (opened a)) (netlist_of 5 a.image) (Input 0) k → ⊥
  input_allowed k h =
      allowed-input k (subst (λ n. Applies 5 1 n (Input 0) k) fresh.empty (any_levels 5 (levels (opened a)) 1 (netlist_of 5 a.image) (Input 0) k (omega arith) h))

  -- ---- whatever is replied

  marked : (b : Meaning) (r : Result ℕ Refusal) → Replies 5 a Mark b r → r ≡ Ok 0
  marked b (Ok count) h = ap Ok h.1.1
  marked b (Err r) h = absurd (mark_allowed (number r) h.0)

  marked_again : (b : Meaning) (r : Result ℕ Refusal) → Replies 5 (opened a) Mark b r → r ≡ Err NoLevelForMark
  marked_again b (Ok count) h = absurd (h.0 20 second_mark.0)
  marked_again b (Err r) h = ap Err (same-refusal r NoLevelForMark (⊎_elim (λ ten. absurd (omega (arith, ten.1, fresh.batch))) (λ twenty. twenty.0) h.0))

  input-entered : (b : Meaning) (r : Result ℕ Refusal) → Replies 5 (opened a) (Make (Input 0)) b r → (r ≡ Ok 0) × (driver_of (netlist_of 5 b.image) 0 ≡ input)
  input-entered b (Ok count) (none, (inside, net, puts)) = (ap Ok puts.1, ap (λ n. driver_of n 0) (net ∙ ap (λ n. asked n (Input 0)) fresh.empty))
  input-entered b (Err r) h = absurd (input_allowed (number r) h.0)

  module _ (b c : Meaning) (enters : Replies 5 (opened a) (Make (Input 0)) b (Ok 0)) where
    saved_both : b.saved ≡ a.image ∷ a.saved
    saved_both = enters.1.0.levels

    mark-dropped : (r : Result ℕ Refusal) → Replies 5 b DropMark c r → (r ≡ Ok 0) × (driver_of (netlist_of 5 c.image) 0 ≡ absent)
    mark-dropped (Ok count) h =
        let image : c.image ≡ a.image = ap (λ x. x.image) h.1.0 ∙ ap newest saved_both in
        (ap Ok h.1.1, ap (λ ws. driver_of (netlist_of 5 ws) 0) image ∙ ap (λ n. driver_of n 0) fresh.empty)
    mark-dropped (Err r) h =
        absurd
        (⊎_elim
        (λ ten. omega (arith, ten.1, ap length saved_both, fresh.batch))
        (λ none. omega (arith, none.1, ap length saved_both, fresh.batch))
        h.0)

  module _ (ws : List ℕ) (net : netlist_of 5 ws ≡ asked (netlist_of 5 a.image) (Input 0)) (order : order_of 5 ws ≡ order_of 5 a.image) where
    under_mark : Meaning
    under_mark = record { limit = a.limit; image = ws; saved = a.image ∷ a.saved }

    enters : Replies 5 (opened a) (Make (Input 0)) under_mark (Ok 0)
    unfolding under_mark
    enters = (input_allowed, (record { levels = refl; limit = refl }, net, (order, refl)))

    there : driver_of (netlist_of 5 under_mark.image) 0 ≡ input
    unfolding under_mark
    there = ap (λ n. driver_of n 0) (net ∙ ap (λ n. asked n (Input 0)) fresh.empty)

    drop_allowed : (k : ℕ) → Refuses 5 under_mark DropMark k → ⊥
    unfolding under_mark
    drop_allowed k h = ⊎_elim (λ ten. omega (arith, ten.1, fresh.batch)) (λ none. omega (arith, none.1, fresh.batch)) h

    drops : Replies 5 under_mark DropMark (dropped under_mark) (Ok 0)
    drops = (drop_allowed, (refl, refl))

    worked : (log : List Entry) → Fresh log a → EveryFreshBatch → WorkedBatches
    unfolding under_mark
    worked log led every = record {
      log = log;
      first = a;
      second = opened a;
      third = under_mark;
      fourth = dropped under_mark;
      refusal = NoLevelForMark;
      fresh = led;
      mark = first_mark;
      mark_again = second_mark;
      with_twenty = refl;
      input_zero = enters;
      entered = there;
      drop_mark = drops;
      taken_back = ap (λ n. driver_of n 0) fresh.empty;
      every = every;
    }

every_batch : EveryFreshBatch
every_batch = record {
  mark = λ a b r fresh h. marked a fresh b r h;
  second_mark = λ a b c r fresh first h. marked_again a fresh c r (subst (λ x. Replies 5 x Mark c r) first.1.0 h);
  entered = λ a b c r fresh first h. input-entered a fresh c r (subst (λ x. Replies 5 x (Make (Input 0)) c r) first.1.0 h);
  taken_back = λ a b c d r fresh first second h.
      mark-dropped a fresh c d (subst (λ x. Replies 5 x (Make (Input 0)) c (Ok 0)) first.1.0 second) r h;
}

pub worked_batches : WorkedBatches
worked_batches = let (ws, (net, order)) = entered₅ in worked batch₅ (fresh_batch log₅ batch₅ fresh₅) ws net order log₅ fresh₅ every_batch
