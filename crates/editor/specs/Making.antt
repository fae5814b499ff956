-- When an editor of so many signals can be made over a store, and how the empty netlist is written there.
use Rattle.std.specs.Prelude.{◌≡◌, ℕ, ◌+◌, ◌*◌, ◌<◌, ◌≤◌, ◌⊎◌, List}
use Rattle.words.specs.Meaning.{Meaning, size, levels}
use Rattle.board.specs.Layout.{word, seat, holder}

-- One to 1,024 signals, enough words, a level for a batch and one that stays free, and none of them open.
pub record Fits (m : ℕ) (a : Meaning) : Type 0 where
  pub some : 1 ≤ m
  pub few : m ≤ 1024
  pub words : 24 * m + 24 ≤ size a
  pub two : 2 ≤ a.limit
  pub closed : levels a ≡ 0

-- each of the first n signals stands at the place of its own number, and nothing else is changed
pub record Seated (m n : ℕ) (ws ws' : List ℕ) : Type 0 where
  pub seats : (s : ℕ) → s < n → seat m ws' s ≡ s
  pub holders : (p : ℕ) → p < n → holder m ws' p ≡ p
  pub others : (at : ℕ) → (at < 3 * m) ⊎ (5 * m ≤ at) → word ws' at ≡ word ws at
