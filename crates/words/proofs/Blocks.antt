-- Words of a memory that is cut into blocks of n words.
use Rattle.std.proofs.Common.{◌≡◌, ℕ, ◌+◌, ◌-◌, ◌*◌, ◌<◌, ◌≤◌, ◌≢◌, List, length, get_or, take, drop, set, sym, ap, ◌∙◌, ⊎_elim, mul-le-mul_right, mul_comm, add-mul, one-mul, arith}
use Rattle.std.proofs.lemmas.List.{get_or-set_same, get_or-set_other, get_or-drop, take-set-le}
use Rattle.std.proofs.lemmas.Bool.{cases_eq, cases_order}
use Rattle.words.specs.InverseLog.{cell}

-- a block ends where the next begins
block_end : (b n : ℕ) → (b + 1) * n ≡ b * n + n
block_end b n = add-mul b 1 n ∙ ap (λ m. b * n + m) (one-mul n)

before_block : (b c n i : ℕ) → b < c → i < n → b * n + i < c * n
before_block b c n i below within = omega (arith, block_end b n, mul-le-mul_right {m = b + 1} {n = c} n (omega arith))

pub cell_within : (n d b i long : ℕ) → n * (3 * d + 2) ≤ long → b < 3 * d + 2 → i < n → b * n + i < long
cell_within n d b i long room below within = omega (arith, before_block b (3 * d + 2) n i below within, mul_comm n (3 * d + 2))

pub cells_apart : (b c n i j : ℕ) → b ≢ c → i < n → j < n → b * n + i ≢ c * n + j
cells_apart b c n i j ne hi hj e =
    ⊎_elim (λ same. ne same) (⊎_elim (λ less. omega (arith, before_block b c n i less hi)) (λ more. omega (arith, before_block c b n j more hj))) (cases_order b c)

pub behind-first : (b n i : ℕ) → 0 < b → n ≤ b * n + i
behind-first b n i some = omega (arith, one-mul n, mul-le-mul_right {m = 1} {n = b} n some)

-- ---- one word written

module _ (ws : List ℕ) (n b i v : ℕ) where
  pub cell-set-same : b * n + i < length ws → cell (set ws (b * n + i) v) n b i ≡ v
  cell-set-same within = get_or-set_same ws (b * n + i) v 0 within

  pub cell-set_other : (c j : ℕ) → (b ≡ c → j ≢ i) → i < n → j < n → cell (set ws (b * n + i) v) n c j ≡ cell ws n c j
  cell-set_other c j other hi hj =
      get_or-set_other ws (b * n + i) (c * n + j) v 0
      (λ e. ⊎_elim (λ same. other same (omega (arith, ap (λ x. x * n) same))) (λ ne. cells_apart b c n i j ne hi hj (sym e)) (cases_eq b c))

  pub image-set : 0 < b → take n (set ws (b * n + i) v) ≡ take n ws
  image-set some = take-set-le n ws (b * n + i) v (behind-first b n i some)

-- a block behind the first is as it was where all that lies behind the first is
pub cell-rest : (ws ws' : List ℕ) (n b i : ℕ) → 0 < b → drop n ws' ≡ drop n ws → cell ws' n b i ≡ cell ws n b i
cell-rest ws ws' n b i some same =
    let whole : n + (b * n + i - n) ≡ b * n + i = omega (arith, behind-first b n i some) in
    ap (λ k. get_or ws' k 0) (sym whole) ∙ sym (get_or-drop n ws' (b * n + i - n) 0) ∙ ap (λ xs. get_or xs (b * n + i - n) 0) same
    ∙ get_or-drop n ws (b * n + i - n) 0 ∙ ap (λ k. get_or ws k 0) whole
