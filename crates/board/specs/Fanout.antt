-- The gates that a signal feeds, told from the chain of the pins on it.
use Rattle.std.specs.Prelude.{◌≡◌, ℕ, zero, suc, ◌*◌, ◌/◌, ◌<◌, ◌≤◌, cond, List, [], ◌∷◌, ◌==◌, ◌≢◌, nat_lt}
use Rattle.reach.specs.Reach.{Follows}
use Rattle.netlist.specs.Netlist.{Feeds}
use Rattle.netlist.specs.Places.{place}
use Rattle.board.specs.Layout.{kind, seat, first_told, next}
use Rattle.board.specs.Board.{netlist_of, order_of}

-- leads nowhere
abbrev pub nowhere : ℕ
nowhere = 4294967295

-- whom pin q belongs to, if that is a gate other than the start that stands no further than `upto`
abbrev pub gate_of_lem : ℕ → List ℕ → ℕ → ℕ → ℕ → ℕ
gate_of_lem m ws upto start q =
    cond (kind m ws (q / 4) == 2) (cond (q / 4 == start) nowhere (cond (nat_lt upto (seat m ws (q / 4))) nowhere (q / 4))) nowhere

-- a link that does not lead upward ends its chain
abbrev pub upward : ℕ → ℕ → ℕ
upward edge link = cond (nat_lt edge link) link 0

-- what the pins of a chain tell, from an edge on, in at most n links; edge 0 is the end, edge q + 1 is pin q
unfoldable pub chain : ℕ → List ℕ → ℕ → ℕ → ℕ → ℕ → List ℕ
chain m ws upto start zero edge = []
chain m ws upto start (suc n) zero = []
chain m ws upto start (suc n) (suc q) =
    cond (nat_lt q (4 * m)) (gate_of_lem m ws upto start q ∷ chain m ws upto start n (upward (suc q) (next m ws q))) []

-- the same from an edge on, to the end
abbrev pub rest_of : ℕ → List ℕ → ℕ → ℕ → ℕ → List ℕ
rest_of m ws upto start edge = chain m ws upto start (4 * m) edge

-- the gates fed by x; what is no signal feeds none
abbrev pub fed_by : ℕ → List ℕ → ℕ → ℕ → ℕ → List ℕ
fed_by m ws upto start x = rest_of m ws upto start (first_told m ws x)

-- What is told after a signal are the gates that it feeds: those that stand no further than `upto`, but the start.
pub record TellsFed (m : ℕ) (ws : List ℕ) (upto start : ℕ) (told : ℕ → List ℕ) : Type 0 where
  pub none : (x : ℕ) → m ≤ x → told x ≡ []
  pub feeds : (x y : ℕ) → x < m → Follows told x y → Feeds (netlist_of m ws) x y
  pub near : (x y : ℕ) → x < m → Follows told x y → place (order_of m ws) y ≤ upto
  pub other : (x y : ℕ) → x < m → Follows told x y → y ≢ start
  pub signal : (x y : ℕ) → x < m → Follows told x y → y < m
  pub all : (x y : ℕ) → x < m → Feeds (netlist_of m ws) x y → place (order_of m ws) y ≤ upto → (y ≢ start) → Follows told x y
