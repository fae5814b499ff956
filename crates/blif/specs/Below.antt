-- The order of the gates in a file, said of its lines.
use Rattle.std.specs.Prelude.{◌-◌, cond, List, [], ◌∷◌, length, codes, take, drop}
use Rattle.std.specs.List.{flat_map}
use Rattle.std.specs.Str.{bytes_eq}
use Rattle.blif.specs.Statement.{Name, Words}
use Rattle.blif.specs.Description.{In}

-- the names that the pins of a gate are on, on a line that begins with `.names`
abbrev pub pins_named : Words → List Name
pins_named [] = []
pins_named (w ∷ ws) = cond (bytes_eq w (codes ".names")) (take (length ws - 1) ws) []

-- and the name of the gate, which is its last word
abbrev pub gate_named : Words → List Name
gate_named [] = []
gate_named (w ∷ ws) = cond (bytes_eq w (codes ".names")) (drop (length ws - 1) ws) []

-- each gate stands below the gates that feed it: none on its own line or below feeds it
abbrev pub GatesBelowFeeders : List Words → Type 0
GatesBelowFeeders [] = Unit {0}
GatesBelowFeeders (l ∷ ls) = ((x : Name) → In x (pins_named l) → In x (flat_map gate_named (l ∷ ls)) → ⊥)
    × GatesBelowFeeders ls
