-- What the words of a store hold of one signal, and a change of that alone.
use Rattle.std.specs.Prelude.{◌≡◌, ℕ, suc, ◌+◌, ◌*◌, ◌<◌, ◌≤◌, cond, List, length, ◌==◌, nat_lt, slice_index}
use Rattle.board.specs.Layout.{kind, output, value, seat, holder, pin}
use Rattle.board.specs.Chain.{Chained}

-- what drives a signal, its table or start, its output mark, and the word of each of its four pins
pub record Cell : Type 0 where
  pub kind : ℕ
  pub value : ℕ
  pub output : ℕ
  pub pins : ℕ → ℕ

abbrev pub cell_at : ℕ → List ℕ → ℕ → Cell
cell_at m ws s = record { kind = kind m ws s; value = value m ws s; output = output m ws s; pins = λ i. pin m ws (4 * s + i) }

-- Signal s has this cell now; every other cell and every place is as it was.
pub record Changed (m : ℕ) (ws : List ℕ) (s : ℕ) (cell : Cell) (ws' : List ℕ) : Type 0 where
  pub chained : Chained m ws'
  pub size : length ws' ≡ length ws
  pub kinds : (x : ℕ) → x < m → kind m ws' x ≡ cond (s == x) cell.kind (kind m ws x)
  pub values : (x : ℕ) → x < m → value m ws' x ≡ cond (s == x) cell.value (value m ws x)
  pub outputs : (x : ℕ) → x < m → output m ws' x ≡ cond (s == x) cell.output (output m ws x)
  pub pins : (x i : ℕ) → x < m → i < 4 → pin m ws' (4 * x + i) ≡ cond (s == x) (cell.pins i) (pin m ws (4 * x + i))
  pub seats : (x : ℕ) → x < m → seat m ws' x ≡ seat m ws x
  pub holders : (x : ℕ) → x < m → holder m ws' x ≡ holder m ws x

-- ---- what each edit makes of a cell

abbrev pub as_input : Cell → Cell
as_input c = record { kind = 1; value = c.value; output = c.output; pins = c.pins }

abbrev pub as_output : Cell → ℕ → Cell
as_output c v = record { kind = c.kind; value = c.value; output = v; pins = c.pins }

-- so many pins are on these signals
abbrev pub on_nets : ℕ → List ℕ → (ℕ → ℕ) → ℕ → ℕ
on_nets k on was i = cond (nat_lt i k) (suc (slice_index on i)) (was i)

abbrev pub as_wired : Cell → ℕ → List ℕ → Cell
as_wired c k on = record { kind = c.kind; value = c.value; output = c.output; pins = on_nets k on c.pins }

-- a gate or a latch, with its table or start
abbrev pub as_driven : Cell → ℕ → ℕ → ℕ → List ℕ → Cell
as_driven c kind value k on = record { kind = kind; value = value; output = c.output; pins = on_nets k on c.pins }

-- pin j has another word
abbrev pub rewired : ℕ → ℕ → (ℕ → ℕ) → ℕ → ℕ
rewired j v was i = cond (j == i) v (was i)

-- the first so many pins are on no signal
abbrev pub as_unwired : Cell → ℕ → Cell
as_unwired c k = record { kind = c.kind; value = c.value; output = c.output; pins = λ i. cond (nat_lt i k) 0 (c.pins i) }

abbrev pub as_absent : Cell → Cell
as_absent c = record { kind = 0; value = c.value; output = c.output; pins = λ i. 0 }

abbrev pub as_moved : Cell → ℕ → ℕ → Cell
as_moved c j net = record { kind = c.kind; value = c.value; output = c.output; pins = rewired j (suc net) c.pins }

-- where a cell may be changed
pub record Site (m : ℕ) (ws : List ℕ) (s : ℕ) : Type 0 where
  pub few : m ≤ 1024
  pub chained : Chained m ws
  pub below : s < m

-- a signal that has no pins yet may have so many on these signals
pub record Wirable (m : ℕ) (ws : List ℕ) (s k : ℕ) (on : List ℕ) : Type 0 where
  pub site : Site m ws s
  pub most : k ≤ 4
  pub free : (i : ℕ) → i < 4 → pin m ws (4 * s + i) ≡ 0
  pub nets : (i : ℕ) → i < k → slice_index on i < m
