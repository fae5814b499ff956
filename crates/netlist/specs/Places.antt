-- The order of the signals, and what putting a pin makes of it.
use Rattle.std.specs.Prelude.{◌≡◌, ℕ, zero, suc, ◌+◌, ◌-◌, ◌<◌, ◌≤◌, Bool, true, cond, not, List, [], ◌∷◌, ◌++◌, length, take, drop, ◌==◌, ◌≢◌, slice_index}
use Rattle.netlist.specs.Netlist.{Netlist, Feeds, Leads}

-- the signal at each place
abbrev pub Order : Type 0
Order = List ℕ

-- the place of a signal; past the end where it has none
abbrev pub place : Order → ℕ → ℕ
place [] s = 0
place (x ∷ xs) s = cond (x == s) 0 (suc (place xs s))

-- signal n at place n, from a number on
abbrev pub counted : ℕ → ℕ → Order
counted from zero = []
counted from (suc m) = from ∷ counted (suc from) m

abbrev pub first_order : ℕ → Order
first_order m = counted 0 m

-- The places are a permutation of the signals: each signal has one place and each place one signal.
pub record Arranges (m : ℕ) (o : Order) : Type 0 where
  pub long : length o ≡ m
  pub each : (s : ℕ) → s < m → place o s < m
  pub below : (p : ℕ) → p < m → slice_index o p < m
  pub once : (p : ℕ) → p < m → place o (slice_index o p) ≡ p

-- each gate stands behind all signals that feed it
abbrev pub Ordered : Netlist → Order → Type 0
Ordered n o = (a s : ℕ) → Feeds n a s → place o a < place o s

-- so does each gate but s
abbrev pub OrderedBut : ℕ → Netlist → Order → Type 0
OrderedBut s n o = (a t : ℕ) → Feeds n a t → (t ≢ s) → place o a < place o t

-- those of a list that pass a test, as they stand
abbrev pub those : (ℕ → Bool) → List ℕ → List ℕ
those f [] = []
those f (x ∷ xs) = cond (f x) (x ∷ those f xs) (those f xs)

-- the places from p to q
abbrev pub segment : Order → ℕ → ℕ → List ℕ
segment o p q = take (suc q - p) (drop p o)

-- The places from that of s to that of a are filled anew: first by the signals met that are not to move, then by those that are, both as they were met.
-- To move are s and all that is reached from s and stands no further than a. The count is how many of all signals these are.
pub record Moves (n : Netlist) (o : Order) (s a : ℕ) (o' : Order) (count : ℕ) : Type 0 where
  pub moving : ℕ → Bool
  pub reached : (x : ℕ) → moving x ≡ true → Leads n s x × (place o x ≤ place o a)
  pub all : (x : ℕ) → Leads n s x → place o x ≤ place o a → moving x ≡ true
  pub filled : o' ≡ take (place o s) o ++ (those (λ x. not (moving x)) (segment o (place o s) (place o a))
      ++ (those moving (segment o (place o s) (place o a)) ++ drop (suc (place o a)) o))
  pub counts : count ≡ length (those moving o)

-- A pin of gate s is put on a: nothing moves where a stands before s.
abbrev pub Puts : Netlist → Order → ℕ → ℕ → Order → ℕ → Type 0
Puts n o s a o' count =
    (place o a < place o s → (o' ≡ o) × (count ≡ 0)) × (place o s ≤ place o a → Moves n o s a o' count)

-- the pins of gate s are put in turn; the counts are added
abbrev pub PutsAll : Netlist → Order → ℕ → List ℕ → Order → ℕ → Type 0
PutsAll n o s [] o' total = (o' ≡ o) × (total ≡ 0)
PutsAll n o s (a ∷ nets) o' total =
    (between : Order) × (count : ℕ) × (rest : ℕ) × Puts n o s a between count × PutsAll n between s nets o' rest × (total ≡ count + rest)
