-- The bits of numbers.
use Rattle.std.proofs.Common.{◌≡◌, ℕ, ◌+◌, ◌*◌, ◌/◌, ◌%◌, ◌^◌, ◌<◌, ◌≤◌, cond, ltb, sym, refl, ap, ◌∙◌, ⊎_elim, mod-lt, arith, pow_pos, pow_mono, shr-shr}
use lib.Pow.{split}
use Rattle.std.proofs.lemmas.Bool.{cond_below, cond_above, cases_lt}
use Rattle.std.proofs.lemmas.Nat.Bits.{same_from_bits, bit_at-zero, bit_at_above}
use Rattle.table.specs.Bit.{bit}

-- A number without a bit at or above k has k bits.
pub bits_fit : (k n : ℕ) → ((i : ℕ) → k ≤ i → bit n i ≡ 0) → n < 2 ^ k
bits_fit k n none =
    let empty : n / 2 ^ k ≡ 0 = same_from_bits (n / 2 ^ k) 0
    (λ i. ap (λ x. x % 2) (shr-shr n k i) ∙ none (k + i) (omega arith) ∙ sym (bit_at-zero i)) in
    omega (arith, pow_pos k, mod-lt n (pow_pos k), split n k, ap (λ q. q * 2 ^ k) empty)

-- A one shifted by few places is a power.
pub one_shl : (r : ℕ) → r ≤ 16 → 1 * 2 ^ r % 2 ^ 32 ≡ 2 ^ r
one_shl r few = let p : 2 ^ r ≤ 2 ^ 16 = pow_mono few in omega arith

-- A gate with at most four pins has at most 16 minterms.
pub few_rows : (pins : ℕ) → pins ≤ 4 → 1 * 2 ^ pins % 2 ^ 32 ≤ 16
few_rows pins few = let p : 2 ^ pins ≤ 2 ^ 4 = pow_mono few in omega arith

-- What a shift by any number of places leaves shows the bit.
pub bit_shifted : (n i r : ℕ) → n < 2 ^ 32 → r ≡ cond (ltb i 32) (n / 2 ^ i) 0 → r % 2 ≡ bit n i
bit_shifted n i r fits is =
    ⊎_elim
    (λ low. ap (λ x. x % 2) (is ∙ sym (cond_below i 32 (n / 2 ^ i) 0 low)))
    (λ past. ap (λ x. x % 2) (is ∙ sym (cond_above i 32 (n / 2 ^ i) 0 0 past refl)) ∙ sym (bit_at_above n 32 i fits past))
    (cases_lt i 32)
