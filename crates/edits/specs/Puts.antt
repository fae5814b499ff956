-- The pins of a gate are put in turn.
use Rattle.std.specs.Prelude.{◌≡◌, ℕ, ◌<◌, ◌≤◌, List, Ok, Err, Result}
use Rattle.words.specs.Meaning.{Meaning}
use Rattle.reach.specs.Reach.{Among}
use Rattle.reach.specs.Listed.{along}
use Rattle.netlist.specs.Netlist.{Feeds, Loop}
use Rattle.netlist.specs.Places.{place, Arranges, OrderedBut, PutsAll}
use Rattle.board.specs.Board.{netlist_of, order_of, Sound}
use Rattle.reach.specs.declared.path.Path.{Path}

-- Pins of gate s are on these signals; every other gate stands behind what feeds it.
pub record ReadyAll (m : ℕ) (ws : List ℕ) (s : ℕ) (on : List ℕ) : Type 0 where
  pub few : m ≤ 1024
  pub sound : Sound m ws
  pub permutes : Arranges m (order_of m ws)
  pub gate : s < m
  pub nets : (a : ℕ) → Among a on → a < m
  pub feeds : (a : ℕ) → Among a on → Feeds (netlist_of m ws) a s
  pub others : OrderedBut s (netlist_of m ws) (order_of m ws)

-- The order is the one that the puts give. What stood before s still does, and so do these signals now.
pub record PlacedAll (m : ℕ) (ws : List ℕ) (s : ℕ) (on : List ℕ) (ws' : List ℕ) (total : ℕ) : Type 0 where
  pub puts : PutsAll (netlist_of m ws) (order_of m ws) s on (order_of m ws') total
  pub sound : Sound m ws'
  pub permutes : Arranges m (order_of m ws')
  pub netlist : netlist_of m ws' ≡ netlist_of m ws
  pub others : OrderedBut s (netlist_of m ws) (order_of m ws')
  pub stays : (x : ℕ) → place (order_of m ws) x < place (order_of m ws) s → place (order_of m ws') x < place (order_of m ws') s
  pub before : (a : ℕ) → Among a on → place (order_of m ws') a < place (order_of m ws') s

-- all have their places; or the netlist has a loop
abbrev pub PutsPins : ℕ → Meaning → ℕ → List ℕ → Meaning → Result ℕ Path → Type 0
PutsPins m before s on after (Ok total) = PlacedAll m before.image s on after.image total
PutsPins m before s on after (Err path) = Loop (netlist_of m before.image) (along path)
