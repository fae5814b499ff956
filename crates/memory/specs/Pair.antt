-- How a thing for an inverse log and one for a snapshot are printed.
use Rattle.std.specs.Prelude.{ℕ, List, ◌++◌, codes, Some, None, Option}

-- both are named, where what is printed of each is known
abbrev pub named : Option (List ℕ) → Option (List ℕ) → Option (List ℕ)
named (Some log) (Some snapshot) = Some (codes "inverse log " ++ (log ++ (codes ", snapshot " ++ snapshot)))
named (Some log) None = None
named None snapshot = None
