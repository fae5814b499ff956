-- The netlist that a file describes: by names, and apart from any reading.
use Rattle.std.specs.Prelude.{◌≡◌, ℕ, Bool, true, false, ◌⊎◌, ◌↔◌, List, [], ◌∷◌, ◌++◌, map, length, Some, None, Option, slice_index_or}
use Rattle.table.specs.Line.{Means}
use Rattle.names.specs.Names.{position}
use Rattle.netlist.specs.Netlist.{Netlist, Driver, driver_of, output_of}
use Rattle.netlist.specs.Netlist as net
use Rattle.blif.specs.Statement.{Name, Statement, inputs, outputs, latch, names}

-- x is one of them
abbrev pub In : {A : Type 0} → A → List A → Type 0
In x [] = ⊥
In x (y ∷ ys) = (x ≡ y) ⊎ In x ys

-- none stands twice
abbrev pub Once : List Name → Type 0
Once [] = Unit {0}
Once (x ∷ xs) = (In x xs → ⊥) × Once xs

-- what drives a name: the world; a gate, by its table and the names that its pins are on; a latch, by its start
-- value and the name that its pin is on
pub data Source : Type 0 where
  input : Source
  gate : ℕ → List Name → Source
  latched : ℕ → Name → Source

-- ---- what a file says of names

pub data Claim : Type 0 where
  drives : Name → Source → Claim
  -- it is an output
  marks : Name → Claim

abbrev pub Claims : Statement → List Claim → Type 0
Claims (inputs xs) cs = cs ≡ map (λ x. drives x input) xs
Claims (outputs xs) cs = cs ≡ map marks xs
Claims (latch a x start) cs = cs ≡ drives x (latched start a) ∷ []
Claims (names pins x cover) cs = (table : ℕ) × Means (length pins) cover table
    × (cs ≡ drives x (gate table pins) ∷ [])

abbrev pub ClaimAll : List Statement → List Claim → Type 0
ClaimAll [] cs = cs ≡ []
ClaimAll (s ∷ ss) cs = (own : List Claim) × (rest : List Claim) × Claims s own × ClaimAll ss rest × (cs ≡ own ++ rest)

-- the names that are driven
abbrev pub driven : List Claim → List Name
driven [] = []
driven (drives x d ∷ cs) = x ∷ driven cs
driven (marks x ∷ cs) = driven cs

-- ---- what is seen of a name in a netlist whose signals have names

pub record Seen : Type 0 where
  pub source : Option Source
  pub output : Bool

abbrev pub name_of : List Name → ℕ → Name
name_of ns s = slice_index_or ns s []

abbrev pub source_of : List Name → Driver → Option Source
source_of ns net.absent = None
source_of ns net.input = Some input
source_of ns (net.gate table pins) = Some (gate table (map (name_of ns) pins))
source_of ns (net.latch start pin) = Some (latched start (name_of ns pin))

abbrev pub seen_at : List Name → Netlist → Option ℕ → Seen
seen_at ns n None = record { source = None; output = false }
seen_at ns n (Some s) = record { source = source_of ns (driver_of n s); output = output_of n s }

abbrev pub seen : List Name → Netlist → Name → Seen
seen ns n q = seen_at ns n (position ns q)

-- two netlists are one, name by name
abbrev pub SameByName : List Name → Netlist → List Name → Netlist → Type 0
SameByName ns n ns' n' = (q : Name) → seen ns n q ≡ seen ns' n' q

-- The claims describe what is seen: each name is driven by what a claim says that drives it and by nothing
-- else, and the names that a claim marks are the outputs.
pub record Describes (cs : List Claim) (v : Name → Seen) : Type 0 where
  pub sources : (q : Name) (d : Source) → ((v q).source ≡ Some d) ↔ In (drives q d) cs
  pub outputs : (q : Name) → ((v q).output ≡ true) ↔ In (marks q) cs
