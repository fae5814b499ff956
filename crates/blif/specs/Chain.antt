-- Calls made at a desk in turn.
use Rattle.std.specs.Prelude.{◌≡◌, List, [], ◌∷◌}
use Rattle.editor.specs.Log.{Entry}
use Rattle.desk.specs.Plays.{Plays}
use Rattle.desk.specs.State.{State}

abbrev pub Chain : State → List Entry → State → Type 0
Chain d [] d' = d' ≡ d
Chain d (x ∷ log) d' = (mid : State) × Plays d x.call mid x.reply × Chain mid log d'
