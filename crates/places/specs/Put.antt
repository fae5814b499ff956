-- What a put of a pin expects of the words of a store, and what it leaves.
use Rattle.std.specs.Prelude.{◌≡◌, ℕ, ◌<◌, ◌≤◌, List, length, Ok, Err, Result}
use Rattle.words.specs.Meaning.{Meaning}
use Rattle.reach.specs.Listed.{along}
use Rattle.netlist.specs.Netlist.{Feeds, Loop}
use Rattle.netlist.specs.Places.{place, Arranges, OrderedBut, Puts}
use Rattle.board.specs.Board.{netlist_of, order_of, Sound}
use Rattle.reach.specs.declared.path.Path.{Path}

-- A pin of gate s is on a; every other gate stands behind what feeds it.
pub record Ready (m : ℕ) (ws : List ℕ) (s a : ℕ) : Type 0 where
  pub few : m ≤ 1024
  pub sound : Sound m ws
  pub permutes : Arranges m (order_of m ws)
  pub gate : s < m
  pub net : a < m
  pub on : Feeds (netlist_of m ws) a s
  pub others : OrderedBut s (netlist_of m ws) (order_of m ws)

-- The order is the one that the rule of places gives. What stood before s still does, and a does now.
pub record Places (m : ℕ) (ws : List ℕ) (s a : ℕ) (ws' : List ℕ) (count : ℕ) : Type 0 where
  pub puts : Puts (netlist_of m ws) (order_of m ws) s a (order_of m ws') count
  pub size : length ws' ≡ length ws
  pub sound : Sound m ws'
  pub permutes : Arranges m (order_of m ws')
  pub netlist : netlist_of m ws' ≡ netlist_of m ws
  pub others : OrderedBut s (netlist_of m ws) (order_of m ws')
  pub stays : (x : ℕ) → place (order_of m ws) x < place (order_of m ws) s → place (order_of m ws') x < place (order_of m ws') s
  pub before : place (order_of m ws') a < place (order_of m ws') s

-- the pin has its place; or the netlist has a loop, and nothing is changed
abbrev pub PutsPin : ℕ → Meaning → ℕ → ℕ → Meaning → Result ℕ Path → Type 0
PutsPin m before s a after (Ok count) = Places m before.image s a after.image count
PutsPin m before s a after (Err path) = (after ≡ before) × Loop (netlist_of m before.image) (along path)
