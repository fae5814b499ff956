-- The claims of a file, made as edits in turn on the empty netlist.
use Rattle.std.specs.Prelude.{◌≡◌, ℕ, ◌^◌, ◌<◌, ◌≤◌, List, ◌∷◌, ◌++◌, map, length, Some}
use Rattle.std.specs.List.{AllByRecursion}
use Rattle.names.specs.Names.{position, Apart}
use Rattle.netlist.specs.Netlist.{Netlist, empty_netlist}
use Rattle.netlist.specs.Places.{Order}
use Rattle.netlist.specs.Edits.{Board, Applies}
use Rattle.blif.specs.Statement.{Name}
use Rattle.blif.specs.Description.{input, gate, latched, Claim, drives, marks, driven, Once, seen, Describes}
use Rattle.blif.specs.Calls.{edit_of, InTurn}
use Rattle.blif.specs.Reading.{Stated}

abbrev pub Named : ℕ → List Name → Name → Type 0
Named m ns x = (s : ℕ) × (position ns x ≡ Some s) × (s < m)

-- The names of a claim have numbers below m; a gate has four pins at most and a table that fits them, and a
-- start is at most 3.
abbrev pub Numbered : ℕ → List Name → Claim → Type 0
Numbered m ns (drives x input) = Named m ns x
Numbered m ns (drives x (gate table pins)) = Named m ns x × (length pins ≤ 4) × AllByRecursion (Named m ns) pins
    × (table < 2 ^ (2 ^ length pins))
Numbered m ns (drives x (latched start a)) = Named m ns x × Named m ns a × (start ≤ 3)
Numbered m ns (marks x) = Named m ns x

-- What the claims' edits make, where all are accepted, is what the claims describe, and no name was driven twice.
abbrev pub BuildsDescribed : Type 0
BuildsDescribed =
    (m : ℕ) (ns : List Name) (o : Order) (cs : List Claim) (b : Board) (count : ℕ) → AllByRecursion (Numbered m ns) cs
    → InTurn m (map (edit_of ns) cs) (record { netlist = empty_netlist m; order = o }) b count
    → Describes cs (seen ns b.netlist)

-- Claims that describe a whole netlist without a loop, whatever its signals are called, and drive no name
-- twice, ask for no edit that is refused, whichever of them were made before.
abbrev pub AcceptsStated : Type 0
AcceptsStated =
    (m : ℕ) (ns : List Name) (o : Order) (cs done rest : List Claim) (c : Claim) (names : List Name)
    (n : Netlist) (b : Board) (count k : ℕ)
    → Apart ns → AllByRecursion (Numbered m ns) cs → Once (driven cs)
    → Stated names cs n → cs ≡ done ++ c ∷ rest
    → InTurn m (map (edit_of ns) done) (record { netlist = empty_netlist m; order = o }) b count
    → Applies m 1 b.netlist (edit_of ns c) k → ⊥
