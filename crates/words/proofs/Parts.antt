-- What the calls of the snapshot make of its memory: the image, the parts for the levels, and what lies behind them.
use Rattle.std.proofs.Common.{◌≡◌, ℕ, zero, suc, ◌+◌, ◌-◌, ◌*◌, ◌/◌, ◌<◌, ◌≤◌, List, ◌∷◌, ◌++◌, length, take, drop, sym, refl, ap, ◌∙◌, mul-le-mul_right, add-mul, one-mul, le-div_iff_mul-le, div-mul-le_self, arith}
use native.Mathlib.Nat.{min-eq_left, min-le_right}
use lib.Seq.{paste, length_paste_head}
use Rattle.std.proofs.lemmas.List.{append_assoc, length-take-le, take_at, take-append-le, take-take, drop_at, drop-drop, drop-take}
use Rattle.std.proofs.lemmas.List.Edits.{drop-paste}
use Rattle.words.specs.Snapshot.{part, parts, width}

-- ---- a list with a part of it replaced: what stands before, in and behind that part

module _ (ws src : List ℕ) (at n : ℕ) (fits : at + n ≤ length ws) (long : n ≤ length src) where
  pub take-before : (m : ℕ) → m ≤ at → take m (paste ws at src n) ≡ take m ws
  take-before m before =
      let short : m ≤ length (take at ws) = simp (length-take-le at ws (omega arith)) (omega arith) in
      take-append-le m (take at ws ++ take n src) (drop (at + n) ws) (rw (length_paste_head ws at src n (omega arith) long) (omega arith))
      ∙ take-append-le m (take at ws) (take n src) short ∙ take-take m at ws before

  pub part-before : (m from : ℕ) → from + m ≤ at → take m (drop from (paste ws at src n)) ≡ take m (drop from ws)
  part-before m from before =
      sym (drop-take from m (paste ws at src n)) ∙ ap (drop from) (take-before (from + m) before) ∙ drop-take from m ws

  pub part_within : take n (drop at (paste ws at src n)) ≡ take n src
  part_within =
      let front : length (take at ws) ≡ at = length-take-le at ws (omega arith) in
      ap (λ xs. take n (drop at xs)) (append_assoc (take at ws) (take n src) (drop (at + n) ws))
      ∙ ap (take n) (drop_at (take at ws) (take n src ++ drop (at + n) ws) at front)
      ∙ take_at (take n src) (drop (at + n) ws) n (length-take-le n src long)

  pub drop-behind : (m : ℕ) → at + n ≤ m → drop m (paste ws at src n) ≡ drop m ws
  drop-behind m behind =
      let whole : (at + n) + (m - (at + n)) ≡ m = omega arith in
      ap (λ k. drop k (paste ws at src n)) (sym whole) ∙ sym (drop-drop (m - (at + n)) (at + n) (paste ws at src n))
      ∙ ap (drop (m - (at + n))) (drop-paste ws at src n (omega arith) long)
      ∙ drop-drop (m - (at + n)) (at + n) ws ∙ ap (λ k. drop k ws) whole

-- ---- places of parts

-- the part for a level ends where the next begins
pub next-part : (level n : ℕ) → (level + 1) * n + n ≡ (level + 2) * n
next-part level n = omega (arith, add-mul level 1 n, add-mul level 2 n, one-mul n)

pub add_two : (level : ℕ) → level + 2 ≡ (level + 1) + 1
add_two level = omega arith

pub parts_apart : (level k n : ℕ) → level < k → (level + 1) * n + n ≤ (k + 1) * n
parts_apart level k n below = rw next-part (mul-le-mul_right n (omega arith))

pub behind-image : (level n : ℕ) → n ≤ (level + 1) * n
behind-image level n = omega (arith, add-mul level 1 n, one-mul n)

-- ---- how wide a part is

pub width_fits : (long n d : ℕ) → n * (d + 1) ≤ long → width long n d ≡ n
width_fits long n d room = min-eq_left ((le-div_iff_mul-le {k = d + 1} {x = n} {y = long} (omega arith)).1 room)

pub width_room : (long n d : ℕ) → width long n d * (d + 1) ≤ long
width_room long n d =
    let less : width long n d ≤ long / (d + 1) = min-le_right n (long / (d + 1)) in
    omega (arith, mul-le-mul_right (d + 1) less, div-mul-le_self long (d + 1))

-- ---- the saved images

pub parts_same : (ws ws' : List ℕ) (n k : ℕ) → ((level : ℕ) → level < k → part ws' n level ≡ part ws n level) → parts ws' n k ≡ parts ws n k
parts_same ws ws' n zero same = refl
parts_same ws ws' n (suc k) same =
    ap (λ xs. xs ∷ parts ws' n k) (same k (omega arith)) ∙ ap (λ xs. part ws n k ∷ xs) (parts_same ws ws' n k (λ level below. same level (omega arith)))

pub length-parts : (ws : List ℕ) (n k : ℕ) → length (parts ws n k) ≡ k
length-parts ws n zero = refl
length-parts ws n (suc k) = ap suc (length-parts ws n k)
