-- Different numbers below n are at most n.
use Rattle.std.proofs.Common.{◌≡◌, ℕ, zero, suc, ◌<◌, ◌≤◌, ◌≢◌, ◌⊎◌, sym, ◌∙◌, inl, inr, arith}
use Rattle.std.proofs.lemmas.Bool.{cases_eq}

-- f with the value m replaced by v
move : (m v x : ℕ) → (x ≡ m) ⊎ (x ≡ m → ⊥) → ℕ
move m v x (inl same) = v
move m v x (inr other) = x

abbrev moved : ℕ → ℕ → ℕ → ℕ
moved m v x = move m v x (cases_eq x m)

move_below : (m v x : ℕ) (w : (x ≡ m) ⊎ (x ≡ m → ⊥)) → x ≢ v → x < suc m → v < suc m → move m v x w < m
unfolding move
move_below m v x (inl same) ne x_below v_below = let other : v ≢ m = λ e. ne (same ∙ sym e) in omega arith
move_below m v x (inr other) ne x_below v_below = omega arith

move_apart : (m v x y : ℕ) (w : (x ≡ m) ⊎ (x ≡ m → ⊥)) (u : (y ≡ m) ⊎ (y ≡ m → ⊥)) → x ≢ y → x ≢ v → y ≢ v → move m v x w ≢ move m v y u
unfolding move
move_apart m v x y (inl a) (inl b) ne nx ny e = ne (a ∙ sym b)
move_apart m v x y (inl a) (inr b) ne nx ny e = ny (sym e)
move_apart m v x y (inr a) (inl b) ne nx ny e = nx e
move_apart m v x y (inr a) (inr b) ne nx ny e = ne e

pub pigeonhole : (n c : ℕ) (f : ℕ → ℕ) → ((i : ℕ) → i < c → f i < n) → ((i j : ℕ) → i < j → j < c → f i ≢ f j) → c ≤ n
pigeonhole n zero f below apart = omega arith
pigeonhole zero (suc c) f below apart = let none = below 0 (omega arith) in omega arith
pigeonhole (suc m) (suc c) f below apart =
    let g : ℕ → ℕ = λ i. moved m (f c) (f i) in
    let g-below : (i : ℕ) → i < c → g i < m = λ i h. move_below m (f c) (f i) (cases_eq (f i) m) (apart i c h (omega arith)) (below i (omega arith)) (below c (omega arith)) in
    let g-apart : (i j : ℕ) → i < j → j < c → g i ≢ g j = λ i j h k. move_apart m (f c) (f i) (f j) (cases_eq (f i) m) (cases_eq (f j) m) (apart i j h (omega arith)) (apart i c (omega arith) (omega arith)) (apart j c k (omega arith)) in
    let less = pigeonhole m c g g-below g-apart in
    omega arith

-- and fewer where one number below n is not among them
pub room_left : (n c w : ℕ) (f : ℕ → ℕ) → ((i : ℕ) → i < c → f i < n) → ((i j : ℕ) → i < j → j < c → f i ≢ f j) → w < n → ((i : ℕ) → i < c → f i ≢ w) → c < n
room_left zero c w f below apart some missing = absurd (omega arith)
room_left (suc m) c w f below apart some missing =
    let less = pigeonhole m c (λ i. moved m w (f i))
    (λ i h. move_below m w (f i) (cases_eq (f i) m) (missing i h) (below i h) some)
    (λ i j h k. move_apart m w (f i) (f j) (cases_eq (f i) m) (cases_eq (f j) m) (apart i j h k) (missing i (omega arith)) (missing j k)) in
    omega arith
