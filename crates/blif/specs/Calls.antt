-- The edits that the claims of a file ask for, and edits made in turn.
use Rattle.std.specs.Prelude.{ℕ, ◌+◌, List, [], ◌∷◌, ◌++◌, map, length, take, Some, None, Ok, Err, Option, unwrap_or}
use Rattle.names.specs.Names.{position}
use Rattle.netlist.specs.declared.edit.Edit.{Edit}
use Rattle.netlist.specs.declared.edit.Edit.TheVariants.{Input, Output, Gate, Latch}
use Rattle.netlist.specs.declared.edit.Refusal.{Refusal}
use Rattle.netlist.specs.Edits.{Board, Edits, signal_of}
use Rattle.editor.specs.declared.call.Call.TheVariants.{Make}
use Rattle.editor.specs.Log.{Entry}
use Rattle.blif.specs.Statement.{Name}
use Rattle.blif.specs.Description.{Claim, drives, marks, input, gate, latched}

-- the number of a name that has one
abbrev pub number_of : List Name → Name → ℕ
number_of ns x = unwrap_or (position ns x) 0

-- the nets of four pins: those behind the last one are 0
abbrev pub four : List ℕ → List ℕ
four nets = take 4 (nets ++ 0 ∷ 0 ∷ 0 ∷ 0 ∷ [])

abbrev pub edit_of : List Name → Claim → Edit
edit_of ns (drives x input) = Input (number_of ns x)
edit_of ns (drives x (gate table pins)) = Gate (number_of ns x) (length pins) (four (map (number_of ns) pins)) table
edit_of ns (drives x (latched start a)) = Latch (number_of ns x) (number_of ns a) start
edit_of ns (marks x) = Output (number_of ns x) 1

-- Edits made in turn, up to the first that is refused: the calls, the sum of their counts, and the refusal with
-- the signal of its edit.
pub data Made : List Edit → List Entry → ℕ → Option (Refusal × ℕ) → Type 0 where
  all : Made [] [] 0 None
  accepted : {e : Edit} {es : List Edit} {log : List Entry} {total : ℕ} {end : Option (Refusal × ℕ)} (count : ℕ)
      → Made es log total end
      → Made (e ∷ es) ((record { call = Make e; reply = Ok count }) ∷ log) (count + total) end
  refused : {e : Edit} {es : List Edit} (r : Refusal)
      → Made (e ∷ es) ((record { call = Make e; reply = Err r }) ∷ []) 0 (Some (r, signal_of e))

-- edits made in turn in a batch, all of them accepted: the board that they lead to, and the sum of their counts
pub data InTurn (m : ℕ) : List Edit → Board → Board → ℕ → Type 0 where
  none : {b : Board} → InTurn m [] b b 0
  more : {e : Edit} {es : List Edit} {b b' b'' : Board} (count total : ℕ) → Edits m 1 b e b' (Ok count)
      → InTurn m es b' b'' total → InTurn m (e ∷ es) b b'' (count + total)
