-- Theorems about the rules of edits.
use Rattle.std.specs.Prelude.{◌≡◌, ℕ, ◌<◌, ◌↔◌, List, [], ◌∷◌, Ok, Err, Result}
use Rattle.netlist.specs.declared.edit.Edit.{Edit}
use Rattle.netlist.specs.declared.edit.Edit.TheVariants.{Input, Gate, Move}
use Rattle.netlist.specs.declared.edit.Refusal.{Refusal}
use Rattle.netlist.specs.declared.edit.Refusal.TheVariants.{Driven, Looped}
use Rattle.netlist.specs.Netlist.{Netlist, Loop, SmallestFirst, HasLoop}
use Rattle.netlist.specs.Places.{Order, Ordered}
use Rattle.netlist.specs.Edits.{Board, Applies, Edits, empty_board, asked}

-- an edit on a board has one outcome: one board and one reply
abbrev pub EditsDetermined : Type 0
EditsDetermined =
    (m levels : ℕ) (b : Board) (e : Edit) (b₁ b₂ : Board) (r₁ r₂ : Result ℕ Refusal) → Edits m levels b e b₁ r₁ → Edits m levels b e b₂ r₂
    → (b₁ ≡ b₂) × (r₁ ≡ r₂)

-- where each gate stands behind all signals that feed it, there is no loop
abbrev pub OrderExcludesLoops : Type 0
OrderExcludesLoops = (n : Netlist) (o : Order) (xs : List ℕ) → Ordered n o → Loop n xs → ⊥

-- Where no smaller number applies, an edit is refused with 25 if and only if the netlist that it asks for has a loop. It holds on every board, in order
-- or not: the rule looks at the netlist asked for and not at the places.
abbrev pub RefusedForLoops : Type 0
RefusedForLoops =
    (m levels : ℕ) (b b' : Board) (e : Edit) (r : Result ℕ Refusal) → Edits m levels b e b' r → ((k : ℕ) → k < 25 → Applies m levels b.netlist e k → ⊥)
    → (r ≡ Err Looped) ↔ HasLoop (asked b.netlist e)

-- a gate of one pin with table 2, as an edit
abbrev pub follower : ℕ → ℕ → Edit
follower s net = Gate s 1 (net ∷ net ∷ net ∷ net ∷ []) 2

-- Worked cases with five signals, in a batch.
pub record Worked : Type 0 where
  pub first : Board
  pub second : Board
  pub third : Board
  pub fourth : Board
  pub input_zero : Edits 5 1 (empty_board 5) (Input 0) first (Ok 0)
  pub four_on_zero : Edits 5 1 first (follower 4 0) second (Ok 0)
  pub two_on_one : Edits 5 1 second (follower 2 1) third (Ok 0)
  pub one_on_four : Edits 5 1 third (follower 1 4) fourth (Ok 2)
  pub order_then : fourth.order ≡ 0 ∷ 3 ∷ 4 ∷ 1 ∷ 2 ∷ []
  -- moving the pin of 4 to 2 asks for the loop 1 2 4 and, from its smallest signal on, for no other, and changes nothing
  pub four_to_two : Edits 5 1 fourth (Move 4 0 2) fourth (Err Looped)
  pub loop_of_three : Loop (asked fourth.netlist (Move 4 0 2)) (1 ∷ 2 ∷ 4 ∷ [])
  pub no_other_of_three : (xs : List ℕ) → Loop (asked fourth.netlist (Move 4 0 2)) xs → SmallestFirst xs → xs ≡ 1 ∷ 2 ∷ 4 ∷ []
  -- moving a gate's pin to itself asks for a loop of one, and for no other
  pub four_to_itself : Edits 5 1 fourth (Move 4 0 4) fourth (Err Looped)
  pub loop_of_one : Loop (asked fourth.netlist (Move 4 0 4)) (4 ∷ [])
  pub no_other_of_one : (xs : List ℕ) → Loop (asked fourth.netlist (Move 4 0 4)) xs → xs ≡ 4 ∷ []
  -- an input twice
  pub input_again : Edits 5 1 first (Input 0) first (Err Driven)
