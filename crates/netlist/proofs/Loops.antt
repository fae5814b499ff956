-- An order leaves no loop, and loops are refused.
use Rattle.std.proofs.Common.{◌≡◌, ℕ, ◌<◌, List, [], ◌∷◌, Ok, Err, ap, ⊎_elim, arith}
use Rattle.std.proofs.lemmas.Bool.{cases_order}
use Rattle.netlist.specs.declared.edit.Edit.{Edit}
use Rattle.netlist.specs.declared.edit.Refusal.TheVariants.{Looped}
use Rattle.netlist.specs.Refusals.{number}
use Rattle.netlist.specs.Netlist.{Netlist, Feeding, HasLoop}
use Rattle.netlist.specs.Places.{Order, place, Ordered}
use Rattle.netlist.specs.Edits.{Applies, no_batch, no_signal, out_of_range, driven, wrong_kind, no_pin, in_use, looped, asked}
use Rattle.netlist.specs.Laws.{OrderExcludesLoops, RefusedForLoops}
use Rattle.netlist.proofs.Determined.{same-refusal}

-- what feeds on to `end` stands before it
feeding_before : (n : Netlist) (o : Order) → Ordered n o → (x : ℕ) (xs : List ℕ) (end : ℕ) → Feeding n (x ∷ xs) end → place o x < place o end
feeding_before n o ordered x [] end h = ordered x end h
feeding_before n o ordered x (y ∷ ys) end h =
    let here = ordered x y h.0 in
    let rest = feeding_before n o ordered y ys end h.1 in
    omega arith

pub order-excludes-loops : OrderExcludesLoops
order-excludes-loops n o [] ordered loop = loop
order-excludes-loops n o (x ∷ xs) ordered loop = let before = feeding_before n o ordered x xs x loop.1 in omega arith

-- 25 applies for a loop alone
loop_of : (m levels : ℕ) (n : Netlist) (e : Edit) (k : ℕ) → k ≡ 25 → Applies m levels n e k → HasLoop (asked n e)
loop_of m levels n e k is (no_batch h) = absurd (omega arith)
loop_of m levels n e k is (no_signal h) = absurd (omega arith)
loop_of m levels n e k is (out_of_range h) = absurd (omega arith)
loop_of m levels n e k is (driven h) = absurd (omega arith)
loop_of m levels n e k is (wrong_kind h) = absurd (omega arith)
loop_of m levels n e k is (no_pin h) = absurd (omega arith)
loop_of m levels n e k is (in_use h) = absurd (omega arith)
loop_of m levels n e k is (looped xs loop) = (xs, loop)

pub refused-for-loops : RefusedForLoops
refused-for-loops m levels b b' e (Ok count) h none = (
  λ is. absurd (let never : ◌≡◌ {A = ℕ} 0 1 = cc in omega arith),
  λ (xs, loop). absurd (h.0 25 (looped xs loop)),
)
refused-for-loops m levels b b' e (Err r) h none = (
  λ is. loop_of m levels b.netlist e (number r) (ap number (let same : r ≡ Looped = cc in same)) h.0,
  λ (xs, loop).
      ap Err
      (same-refusal r Looped
      (⊎_elim (λ same. same)
      (⊎_elim (λ less. absurd (none (number r) less h.0)) (λ more. absurd (h.1 25 more (looped xs loop))))
      (cases_order (number r) 25))),
)
