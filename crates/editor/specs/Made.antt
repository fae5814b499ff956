-- What the test and the making of an editor answer.
use Rattle.std.specs.Prelude.{◌≡◌, ℕ, ◌<◌, [], Ok, Err, Result}
use Rattle.words.specs.Meaning.{Meaning, size, levels}
use Rattle.netlist.specs.declared.edit.Refusal.{Refusal}
use Rattle.netlist.specs.Refusals.{number}
use Rattle.editor.specs.Making.{Fits}
use Rattle.editor.specs.Log.{Led}

-- refused with 1 exactly when such an editor cannot be made over the store
abbrev pub Tests : ℕ → Meaning → Result (Unit {0}) Refusal → Type 0
Tests m a (Ok _) = Fits m a
Tests m a (Err r) = (number r ≡ 1) × (Fits m a → ⊥)

-- Where the test accepts, the empty log led to what is made, and no level is open; where it refuses, the editor has no signals and the store is left alone.
-- D and N stay.
pub record Starts (m : ℕ) (before : Meaning) (signals : ℕ) (after : Meaning) : Type 0 where
  pub limit : after.limit ≡ before.limit
  pub size : size after ≡ size before
  pub served : Fits m before → (signals ≡ m) × Led m [] after
  pub closed : 0 < signals → levels after ≡ 0
  pub refused : (Fits m before → ⊥) → (signals ≡ 0) × (after ≡ before)
