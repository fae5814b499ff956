-- What the calls on a name table answer, and the number of each fault.
use Rattle.std.specs.Prelude.{◌≡◌, ℕ, ◌<◌, codes, true, false, List, [], ◌++◌, length, take, slice_index_or, Some, None, Ok, Err, Option, Result}
use Rattle.std.specs.Fmt.{decimal}
use Rattle.std.specs.Option.{option_map_or}
use Rattle.names.specs.declared.faults.NameFault.{NameFault}
use Rattle.names.specs.declared.faults.NameFault.TheVariants.{NoRoom, Memory}
use Rattle.names.specs.Names.{position, below, added, entered, fits}

-- want of memory is no fault of the text, and has no number
abbrev pub name_fault : NameFault → Option ℕ
name_fault NoRoom = Some 36
name_fault Memory = None

-- how a fault is printed
abbrev pub name_fault_text : NameFault → List ℕ
name_fault_text f = option_map_or (λ n. codes "fault " ++ decimal n) (name_fault f) (codes "no memory")

-- a name that has no number yet would get the next one, and that is below m
pub record Grows (m : ℕ) (ns : List (List ℕ)) (w : List ℕ) : Type 0 where
  pub new : position ns w ≡ None
  pub room : length ns < m

-- some word of the line would add a name under the room, once the words before it are entered, and these have the room that they need
pub record GrowsIn (m : ℕ) (ns ws : List (List ℕ)) : Type 0 where
  pub at : ℕ
  pub within : at < length ws
  pub before : fits m ns (take at ws) ≡ true
  pub grows : Grows m (entered ns (take at ws)) (slice_index_or ws at [])

-- why a line is refused, by the number of the fault: with 36 exactly where its names have not the room that they need, and for want of memory
-- only where a name had to be added
abbrev pub Refuses : ℕ → List (List ℕ) → List (List ℕ) → Option ℕ → Type 0
Refuses m ns ws (Some n) = (n ≡ 36) × (fits m ns ws ≡ false)
Refuses m ns ws None = GrowsIn m ns ws

-- ns becomes new as the words ws are entered under room m: all of them, or none
abbrev pub Enters : ℕ → List (List ℕ) → List (List ℕ) → List (List ℕ) → Result (Unit {0}) NameFault → Type 0
Enters m ns new ws (Ok x) = (fits m ns ws ≡ true) × (new ≡ entered ns ws)
Enters m ns new ws (Err f) = Refuses m ns ws (name_fault f) × (new ≡ ns)

-- the same of one word
abbrev pub RefusesOne : ℕ → List (List ℕ) → List ℕ → Option ℕ → Type 0
RefusesOne m ns w (Some n) = (n ≡ 36) × (below m (position (added ns w) w) ≡ false)
RefusesOne m ns w None = Grows m ns w

abbrev pub Adds : ℕ → List (List ℕ) → List (List ℕ) → List ℕ → Result (Unit {0}) NameFault → Type 0
Adds m ns new w (Ok x) = (below m (position (added ns w) w) ≡ true) × (new ≡ added ns w)
Adds m ns new w (Err f) = RefusesOne m ns w (name_fault f) × (new ≡ ns)
