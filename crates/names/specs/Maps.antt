-- The map of a name table holds the number of each name, and nothing else.
use Rattle.std.specs.Prelude.{◌≡◌, ℕ, List, Vec}
use Rattle.std.specs.declared.alloc.Global.{Global}
use Rattle.std.specs.declared.cmp.Ordering.{Ordering}
use Rattle.std.specs.BTreeMap.{BTreeMap, get, IsOrdered}
use Rattle.std.specs.Ordering.{nat_cmp}
use Rattle.std.specs.Cmp.Lexicographic.{slice_cmp}
use Rattle.names.specs.Names.{position, Apart}

abbrev pub Name : Type 0
Name = Vec ℕ Global

abbrev pub Map : Type 0
Map = BTreeMap Name ℕ

-- the order of the names, which is that of their bytes
abbrev pub name_cmp : Name → Name → Ordering
name_cmp x y = slice_cmp nat_cmp x.items y.items

pub record Numbered (m : Map) (ns : List (List ℕ)) : Type 0 where
  pub lawful : IsOrdered name_cmp m
  pub agree : (q : Name) → get name_cmp m q ≡ position ns q.items
  pub apart : Apart ns
