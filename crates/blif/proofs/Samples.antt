-- The small files.
use Rattle.std.proofs.Common.{◌≡◌, ℕ, [], ◌∷◌, codes, refl, inl, inr, arith, Some}
use Rattle.std.specs.Prelude.{◌≢◌, slice_index_or, zero, suc, true, ◌<◌}
use Rattle.names.specs.Names.{position}
use Rattle.netlist.specs.Netlist.{driver_of, output_of}
use Rattle.netlist.specs.Netlist as net
use Rattle.board.specs.Standing.{Fitting}
use Rattle.blif.specs.Description.{In}
use Rattle.blif.specs.Written.{Writable}
use Rattle.blif.proofs.Describing.{written-describes}
use Rattle.table.specs.Laws.{text}
use Rattle.table.specs.Line.{IsCover, Means, Formed}
use Rattle.table.specs.declared.fault.CoverFault.TheVariants.{Malformed as CoverMalformed}
use Rattle.text.specs.declared.faults.TextFault.TheVariants.{WrongByte}
use Rattle.blif.specs.declared.fault.FormFault.TheVariants.{Malformed}
use Rattle.blif.specs.Form.{model, states}
use Rattle.blif.specs.Calls.{all}
use Rattle.blif.specs.File.{taken, bad_cover, bad_text}
use Rattle.table.proofs.Ones.{reads-back}
use Rattle.blif.specs.Statement.{names}
use Rattle.blif.specs.Examples.{Ten, Clock, FaultyCover, FaultyByte, ten_netlist, ten_names}

both : IsCover 2 (text "11" "1" ∷ []) × Means 2 (text "11" "1" ∷ []) 8
both = reads-back 2 8 (omega arith)

same : IsCover 1 (text "1" "1" ∷ []) × Means 1 (text "1" "1" ∷ []) 2
same = reads-back 1 2 (omega arith)

constant : IsCover 0 (text "" "1" ∷ []) × Means 0 (text "" "1" ∷ []) 1
constant = reads-back 0 1 (omega arith)

abbrev four_of : (P : ℕ → Type 0) → P 0 → P 1 → P 2 → P 3 → (i : ℕ) → i < 4 → P i
four_of P a b c d zero h = a
four_of P a b c d (suc zero) h = b
four_of P a b c d (suc (suc zero)) h = c
four_of P a b c d (suc (suc (suc zero))) h = d
four_of P a b c d (suc (suc (suc (suc i)))) h = absurd (omega (arith, h))

driven_below : (s : ℕ) → driver_of ten_netlist s ≢ net.absent → s < 4
driven_below zero h = omega arith
driven_below (suc zero) h = omega arith
driven_below (suc (suc zero)) h = omega arith
driven_below (suc (suc (suc zero))) h = omega arith
driven_below (suc (suc (suc (suc zero)))) h = absurd (h refl)
driven_below (suc (suc (suc (suc (suc s))))) h = absurd (h refl)

output_driven : (s : ℕ) → output_of ten_netlist s ≡ true → driver_of ten_netlist s ≢ net.absent
output_driven zero h = absurd (cc)
output_driven (suc zero) h = absurd (cc)
output_driven (suc (suc zero)) h = λ z. cc
output_driven (suc (suc (suc zero))) h = absurd (cc)
output_driven (suc (suc (suc (suc zero)))) h = absurd (cc)
output_driven (suc (suc (suc (suc (suc s))))) h = absurd (cc)

fitting : (s : ℕ) → Fitting (driver_of ten_netlist s)
fitting zero = tt
fitting (suc zero) = tt
fitting (suc (suc zero)) = (omega arith, omega arith)
fitting (suc (suc (suc zero))) = (omega arith, omega arith)
fitting (suc (suc (suc (suc zero)))) = tt
fitting (suc (suc (suc (suc (suc s))))) = tt

ten_writable : Writable 5 ten_names ten_netlist (0 ∷ 1 ∷ 3 ∷ 2 ∷ 4 ∷ [])
ten_writable = record {
  apart = four_of (λ i. position ten_names (slice_index_or ten_names i []) ≡ Some i) refl refl refl refl;
  named = driven_below;
  below = λ s h. let b = driven_below s h in omega arith;
  outputs = output_driven;
  placed = five (λ s. In s (0 ∷ 1 ∷ 3 ∷ 2 ∷ 4 ∷ [])) (inl refl) (inr (inl refl)) (inr (inr (inr (inl refl)))) (inr (inr (inl refl))) (inr (inr (inr (inr (inl refl)))));
  fits = fitting;
}
  where
    five : (P : ℕ → Type 0) → P 0 → P 1 → P 2 → P 3 → P 4 → (i : ℕ) → i < 5 → P i
    five P a b c d e zero h = a
    five P a b c d e (suc zero) h = b
    five P a b c d e (suc (suc zero)) h = c
    five P a b c d e (suc (suc (suc zero))) h = d
    five P a b c d e (suc (suc (suc (suc zero)))) h = e
    five P a b c d e (suc (suc (suc (suc (suc i))))) h = absurd (omega (arith, h))

pub ten-rows : Ten
ten-rows = record {
  rows = ((refl, (refl, (refl, (refl, (refl, (refl, (refl, (refl, tt)))))))), refl);
  file = record {
    body = _;
    writes = (_, _, refl, (_, _, refl, (_, _, (omega arith, both.0, refl), (_, _, (omega arith, same.0, refl), refl, refl), refl), refl), refl);
    whole = refl;
  };
  written = refl;
  spelling = refl;
  described = λ cs all. written-describes 5 ten_names ten_netlist (0 ∷ 1 ∷ 3 ∷ 2 ∷ 4 ∷ []) cs ten_writable all;
}

pub clock-rows : Clock
clock-rows = record {
  rows = ((refl, (refl, (refl, (refl, (refl, (refl, tt)))))), refl);
  file = record {
    body = _;
    writes = (_, _, (omega arith, inr (refl, refl)), (_, _, (omega arith, constant.0, refl), (_, _, refl, refl, refl), refl), refl);
    whole = refl;
  };
  written = refl;
}

not_one : Formed 1 (text "11" "1") → ⊥
not_one h = absurd (omega (arith, h.long))

pub faulty-cover : FaultyCover
faulty-cover = record {
  lines =
      taken (model (codes "t")) [] refl refl refl all
      (taken (states (names (codes "a" ∷ []) (codes "y") [])) [] refl refl refl all
      (bad_cover Malformed refl refl (CoverMalformed, inl (refl, not_one), refl)));
}

pub faulty-byte : FaultyByte
faulty-byte = record { lines = taken (model (codes "t")) [] refl refl refl all (bad_text (record { fault = WrongByte; line = 2; first_byte = Some 46 }) (record { number = refl; line = refl; first = refl })) }
