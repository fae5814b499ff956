-- Which stores are served, and what a making leaves.
use Rattle.std.specs.Prelude.{◌≡◌, ℕ, ◌*◌, ◌≤◌, List, [], ◌++◌, take, drop, replicate, Ok, Err, Result}
use Rattle.words.specs.declared.store.StoreRefusal.{StoreRefusal}
use Rattle.words.specs.Refusals.{number}
use Rattle.words.specs.Meaning.{Meaning}

-- A store of n words and d levels that takes `each` words of memory for a word of its own is served by `long` words.
pub record Fits (n d each long : ℕ) : Type 0 where
  pub few_words : n ≤ 65536
  pub some_levels : 2 ≤ d
  pub few_levels : d ≤ 8
  pub room : n * each ≤ long

-- the test: refused with 1 exactly when such a store is not served
abbrev pub Tests : ℕ → ℕ → ℕ → ℕ → Result (Unit {0}) StoreRefusal → Type 0
Tests n d each long (Ok _) = Fits n d each long
Tests n d each long (Err e) = (number e ≡ 1) × (Fits n d each long → ⊥)

-- the first n words of a memory, and no level
abbrev pub laid : ℕ → ℕ → List ℕ → Meaning
laid n d ws = record { limit = d; image = take n ws; saved = [] }

-- n words, all 0, and no level
abbrev pub fresh : ℕ → ℕ → Meaning
fresh n d = record { limit = d; image = replicate n 0; saved = [] }

-- the first n words cleared, and nothing else written
abbrev pub cleared : ℕ → List ℕ → List ℕ
cleared n memory = replicate n 0 ++ drop n memory

-- the making: the meaning that it gives, and the memory that it leaves
pub record Makes (n d each long : ℕ) (m : Meaning) (before after : List ℕ) : Type 0 where
  pub served : Fits n d each long → (m ≡ fresh n d) × (after ≡ cleared n before)
  pub refused : (Fits n d each long → ⊥) → (m ≡ fresh 0 2) × (after ≡ before)
