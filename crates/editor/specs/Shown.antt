-- A loop that is shown.
use Rattle.std.specs.Prelude.{◌≡◌, ℕ, List, [], Ok, Err, Result, ◌≢◌}
use Rattle.netlist.specs.declared.edit.Edit.{Edit}
use Rattle.netlist.specs.declared.edit.Refusal.{Refusal}
use Rattle.netlist.specs.Refusals.{number}
use Rattle.netlist.specs.Netlist.{Netlist, Loop, SmallestFirst}
use Rattle.netlist.specs.Edits.{asked}

-- what is shown after an edit: a loop of the netlist asked for where it was refused with 25, else nothing
abbrev pub Shows : Netlist → Edit → Result ℕ Refusal → List ℕ → Type 0
Shows n e (Ok count) shown = shown ≡ []
Shows n e (Err r) shown = (number r ≢ 25 → shown ≡ []) × (number r ≡ 25 → Loop (asked n e) shown × SmallestFirst shown)
