-- How many flags are 0.
use Rattle.std.proofs.Common.{◌≡◌, ℕ, zero, suc, ◌+◌, ◌<◌, Bool, true, false, cond, eqb, List, [], ◌∷◌, length, get_or, set, replicate, sym, refl, ap, arith}
use Rattle.std.proofs.lemmas.Bool.{eq-eqb}
use Rattle.reach.specs.Flags.{zeros, marked}

-- one flag that was 0 is set
pub zeros-set : (bs : List ℕ) (i : ℕ) → i < length bs → get_or bs i 0 ≡ 0 → suc (zeros (set bs i 1)) ≡ zeros bs
zeros-set [] i lt e = absurd (omega arith)
zeros-set (b ∷ bs) zero lt e = ap (λ t. cond t (suc (zeros bs)) (zeros bs)) (sym (eq-eqb b 0 e))
zeros-set (b ∷ bs) (suc i) lt e = go (eqb b 0) (zeros-set bs i (omega arith) e)
  where
    go : (t : Bool) → suc (zeros (set bs i 1)) ≡ zeros bs →
        suc (cond t (suc (zeros (set bs i 1))) (zeros (set bs i 1))) ≡ cond t (suc (zeros bs)) (zeros bs)
    go true h = ap suc h
    go false h = h

pub zeros-clear : (n : ℕ) → zeros (replicate n 0) ≡ n
zeros-clear zero = refl
zeros-clear (suc n) = ap suc (zeros-clear n)

pub zeros-marked : (bs : List ℕ) → zeros bs + marked bs ≡ length bs
zeros-marked [] = refl
zeros-marked (b ∷ bs) = go (eqb b 0) (zeros-marked bs)
  where
    go : (t : Bool) → zeros bs + marked bs ≡ length bs →
        cond t (suc (zeros bs)) (zeros bs) + cond t (marked bs) (suc (marked bs)) ≡ suc (length bs)
    go true h = omega arith
    go false h = omega arith
