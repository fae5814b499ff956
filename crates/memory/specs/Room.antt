-- How many words a host lends for a store, and what a store over them means.
use Rattle.std.specs.Prelude.{◌≡◌, ℕ, ◌+◌, ◌*◌, ◌≤◌, min, List, Ok, Err, Result}
use Rattle.words.specs.declared.store.StoreRefusal.{StoreRefusal}
use Rattle.words.specs.Making.{fresh, cleared}
use Rattle.words.specs.Meaning.{Meaning}
use Rattle.words.specs.Refusals.{number}

-- the words that a host has, and N and D of the stores that it lends them to
pub record Host : Type 0 where
  pub words : List ℕ
  pub size : ℕ
  pub limit : ℕ

-- The inverse log takes three words for each word and level, and two more for each word. The snapshot takes fewer.
abbrev pub room : ℕ → ℕ → ℕ
room n d = min n 65536 * (3 * min d 8 + 2)

-- N and D in their ranges
pub record Served (n d : ℕ) : Type 0 where
  pub few_words : n ≤ 65536
  pub some_levels : 2 ≤ d
  pub few_levels : d ≤ 8

-- the test: refused with 1 exactly when they are not
abbrev pub Tests : Host → Result (Unit {0}) StoreRefusal → Type 0
Tests host (Ok _) = Served host.size host.limit
Tests host (Err e) = (number e ≡ 1) × (Served host.size host.limit → ⊥)

-- the meaning of the store that is made, and the words that its making leaves: there is always room, so only the ranges count
pub record Gives (host : Host) (m : Meaning) (after : List ℕ) : Type 0 where
  pub served : Served host.size host.limit → (m ≡ fresh host.size host.limit) × (after ≡ cleared host.size host.words)
  pub refused : (Served host.size host.limit → ⊥) → (m ≡ fresh 0 2) × (after ≡ host.words)
