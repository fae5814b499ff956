-- A board that is kept in the words of a store.
use Rattle.std.specs.Prelude.{◌≡◌, ℕ, List}
use Rattle.words.specs.Meaning.{Meaning, Lent, size}
use Rattle.board.specs.Layout.{word}
use Rattle.board.specs.Links.{changed}
use Rattle.board.specs.Standing.{Inside}

-- M, what the store means, and the memory that it is lent
pub record Stored : Type 0 where
  pub signals : ℕ
  pub words : Meaning
  pub lent : Lent

-- other words of the present image, and nothing else changed
abbrev pub reworded : Stored → List ℕ → Stored
reworded b ws = record { signals = b.signals; words = changed b.words ws; lent = b.lent }

-- M, N and the memory behind the store stay.
pub record Stays (before after : Stored) : Type 0 where
  pub signals : after.signals ≡ before.signals
  pub size : size after.words ≡ size before.words
  pub behind : after.lent ≡ before.lent

-- Nothing but words of the present image is changed.
pub record OnlyWords (before after : Stored) : Type 0 where
  pub stays : Stays before after
  pub inside : Inside before.words after.words

-- every word of the present image is 0
pub record Cleared (before after : Meaning) : Type 0 where
  pub inside : Inside before after
  pub long : size after ≡ size before
  pub zero : (at : ℕ) → word after.image at ≡ 0
