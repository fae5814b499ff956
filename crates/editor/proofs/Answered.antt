-- A question has one answer.
use Rattle.std.proofs.Common.{◌≡◌, ℕ, ◌^◌, ◌<◌, ◌≤◌, List, Some, None, Option, sym, refl, ap, ◌∙◌, ⊎_elim, arith}
use Rattle.std.proofs.lemmas.Bool.{cases_order}
use Rattle.std.proofs.Math.Bridge.{le_prop}
use mathlib.Core.HLevel.{is_prop→PathP}
use Rattle.std.specs.Bool.{one_answer}
use Rattle.table.specs.declared.shape.Table.{Table}
use Rattle.netlist.specs.Netlist.{Driver, absent, input, gate, latch, driver_of}
use Rattle.board.specs.Board.{netlist_of}
use Rattle.editor.specs.Calls.{Missing}
use Rattle.editor.specs.Questions.{Question, asks_signals, asks_levels, asks_batch, asks_marks, asks_kind, asks_output, asks_pins, asks_table, asks_start, asks_place, asks_signal, asks_missing, Answer, Tells, HasTable, IsSmallest, Says}
use Rattle.editor.proofs.Pinned.{one_pins}

-- where P holds of one thing at most, one thing is told
tells_one : {A : Type 0} (m s : ℕ) (P : A → Type 0) (one : (x y : A) → P x → P y → x ≡ y) (r t : Option A) → Tells m s P r → Tells m s P t → r ≡ t
tells_one m s P one None None h g = refl
tells_one m s P one None (Some y) h g = absurd (omega (arith, h, g.0))
tells_one m s P one (Some x) None h g = absurd (omega (arith, h.0, g))
tells_one m s P one (Some x) (Some y) h g = ap Some (one x y h.1 g.1)

-- what is told is a given thing
tells_same : {A : Type 0} (m s : ℕ) (z : A) (r t : Option A) → Tells m s (λ x. x ≡ z) r → Tells m s (λ x. x ≡ z) t → r ≡ t
tells_same m s z r t h g = tells_one m s (λ x. x ≡ z) (λ x y p q. p ∙ sym q) r t h g

same_table : (x y : Table) → x.bits ≡ y.bits → x.pins ≡ y.pins → x ≡ y
same_table x y bits pins = λ i. record {
  pins = pins i;
  bits = bits i;
  few = is_prop→PathP (λ j. pins j ≤ 4) (λ j. le_prop) x.few y.few i;
  fits = is_prop→PathP (λ j. bits j < 2 ^ (2 ^ pins j)) (λ j. le_prop) x.fits y.fits i;
}

table_one : (d : Driver) (r t : Option Table) → HasTable d r → HasTable d t → r ≡ t
table_one absent r t h g = h ∙ sym g
table_one input r t h g = h ∙ sym g
table_one (gate table pins) None t h g = absurd h
table_one (gate table pins) (Some x) None h g = absurd g
table_one (gate table pins) (Some x) (Some y) h g = ap Some (same_table x y (h.0 ∙ sym g.0) (h.1 ∙ sym g.1))
table_one (latch start pin) r t h g = h ∙ sym g

smallest_one : (P : ℕ → Type 0) (r t : Option ℕ) → IsSmallest P r → IsSmallest P t → r ≡ t
smallest_one P None None h g = refl
smallest_one P None (Some y) h g = absurd (h y g.0)
smallest_one P (Some x) None h g = absurd (g x h.0)
smallest_one P (Some x) (Some y) h g =
    ⊎_elim (λ same. ap Some same) (⊎_elim (λ less. absurd (g.1 x less h.0)) (λ more. absurd (h.1 y more g.0))) (cases_order x y)

pub says_one : (m d open' : ℕ) (ws : List ℕ) (q : Question) (r t : Answer q) → Says m d open' ws q r → Says m d open' ws q t → r ≡ t
says_one m d open' ws asks_signals r t h g = h ∙ sym g
says_one m d open' ws asks_levels r t h g = h ∙ sym g
says_one m d open' ws asks_batch r t h g = one_answer r t h g
says_one m d open' ws asks_marks r t h g = h ∙ sym g
says_one m d open' ws (asks_kind s) r t h g = tells_same m s _ r t h g
says_one m d open' ws (asks_output s) r t h g = tells_same m s _ r t h g
says_one m d open' ws (asks_pins s) r t h g = tells_one m s _ (λ x y p q. one_pins x y _ p q) r t h g
says_one m d open' ws (asks_table s) r t h g = table_one (driver_of (netlist_of m ws) s) r t h g
says_one m d open' ws (asks_start s) r t h g = h ∙ sym g
says_one m d open' ws (asks_place s) r t h g = tells_same m s _ r t h g
says_one m d open' ws (asks_signal p) r t h g = tells_same m p _ r t h g
says_one m d open' ws asks_missing r t h g = smallest_one (Missing m (netlist_of m ws)) r t h g
