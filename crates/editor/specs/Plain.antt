-- The replies of calls that move no signal.
use Rattle.std.specs.Prelude.{ℕ, Ok, Err, Result}
use Rattle.netlist.specs.declared.edit.Refusal.{Refusal}

-- their count is 0
abbrev pub plain : Result (Unit {0}) Refusal → Result ℕ Refusal
plain (Ok _) = Ok 0
plain (Err r) = Err r
