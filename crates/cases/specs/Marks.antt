-- What a caller concludes of its second mark, from what the making and the calls of an editor promise alone.
use Rattle.std.specs.Prelude.{◌≡◌, ℕ, Ok, Result}
use Rattle.words.specs.Meaning.{Meaning}
use Rattle.netlist.specs.declared.edit.Refusal.{Refusal}
use Rattle.editor.specs.declared.call.Call.TheVariants.{Begin, Mark}
use Rattle.editor.specs.Calls.{RefusedWith}
use Rattle.editor.specs.Made.{Starts}
use Rattle.editor.specs.Making.{Fits}
use Rattle.editor.specs.State.{State}
use Rattle.editor.specs.Steps.{Called}

-- An editor is made over a store of D = 3 that fits, a batch is begun, and a mark is opened.
pub record FirstMark (m : ℕ) (store : Meaning) (made begun marked : State) (r t : Result ℕ Refusal) : Type 0 where
  pub limit : store.limit ≡ 3
  pub fits : Fits m store
  pub starts : Starts m store made.signals made.words
  pub begins : Called made Begin begun r
  pub marks : Called begun Mark marked t

-- Both are accepted, and a second mark is refused with 20.
abbrev pub SecondMarkRefused : Type 0
SecondMarkRefused =
    (m : ℕ) (store : Meaning) (made begun marked after : State) (r t u : Result ℕ Refusal) → FirstMark m store made begun marked r t
    → Called marked Mark after u → (r ≡ Ok 0) × (t ≡ Ok 0) × RefusedWith 20 u
