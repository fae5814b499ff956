-- How a list of numbers is printed.
use Rattle.std.specs.Prelude.{ℕ, List, ◌∷◌}
use Rattle.std.specs.Fmt.{decimal}
use Rattle.std.specs.List.{flat_map}

-- each number behind a blank
abbrev pub behind_blanks : List ℕ → List ℕ
behind_blanks numbers = flat_map (λ n. 32 ∷ decimal n) numbers
