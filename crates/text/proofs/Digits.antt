-- The value of digits, read from the front.
use Rattle.std.proofs.Common.{◌≡◌, ℕ, suc, ◌+◌, ◌-◌, ◌*◌, ◌^◌, ◌<◌, ◌≤◌, true, leb, List, ◌∷◌, length, get_or, drop, sym, ap, ◌∙◌, mul_assoc, mul_comm, add-mul, pow-suc, add-one, arith}
use Rattle.std.specs.List.{list_all}
use Rattle.std.proofs.lemmas.List.{at_drop_more, at_drop_all}
use Rattle.std.proofs.lemmas.Bool.{and_parts, leb-true}
use Rattle.text.specs.Decimal.{is_digit_lem, value}

horner : (n b : ℕ) (bs : List ℕ) → n * 10 ^ length (b ∷ bs) + value (b ∷ bs) ≡ (n * 10 + (b - 48)) * 10 ^ length bs + value bs
horner n b bs =
    let p = 10 ^ length bs in
    let e : n * 10 ^ suc (length bs) ≡ n * 10 * p = ap (λ j. n * j) (pow-suc 10 (length bs) ∙ mul_comm p 10) ∙ sym (mul_assoc n 10 p) in
    let f : (n * 10 + (b - 48)) * p ≡ n * 10 * p + (b - 48) * p = add-mul (n * 10) (b - 48) p in
    omega (arith, e, f)

module _ (ds : List ℕ) (i : ℕ) (h : i < length ds) where
  pub value_more : (n : ℕ) → n * 10 ^ length (drop i ds) + value (drop i ds) ≡ (n * 10 + (get_or ds i 0 - 48)) * 10 ^ length (drop (i + 1) ds) + value (drop (i + 1) ds)
  value_more n = at_drop_more (λ l. n * 10 ^ length l + value l) ds i 0 h ∙ horner n (get_or ds i 0) (drop (i + 1) ds)

  pub digit_more : list_all is_digit_lem (drop i ds) ≡ true → (48 ≤ get_or ds i 0) × (get_or ds i 0 ≤ 57) × (list_all is_digit_lem (drop (i + 1) ds) ≡ true)
  digit_more e =
      let both = and_parts (is_digit_lem (get_or ds i 0)) (list_all is_digit_lem (drop (i + 1) ds)) (sym (at_drop_more (list_all is_digit_lem) ds i 0 h) ∙ e) in
      let range = and_parts (leb 48 (get_or ds i 0)) (leb (get_or ds i 0) 57) both.0 in
      (leb-true 48 (get_or ds i 0) range.0, leb-true (get_or ds i 0) 57 range.1, both.1)

pub value_all : (ds : List ℕ) (i n : ℕ) → length ds ≤ i → n * 10 ^ length (drop i ds) + value (drop i ds) ≡ n
value_all ds i n h = at_drop_all (λ l. n * 10 ^ length l + value l) ds i h ∙ omega arith

pub below_more : (n d i : ℕ) → n < 10 ^ i → d ≤ 9 → n * 10 + d < 10 ^ (i + 1)
below_more n d i h k = let e : 10 ^ (i + 1) ≡ 10 ^ i * 10 = ap (λ j. 10 ^ j) (add-one i) ∙ pow-suc 10 i in omega (arith, e)
