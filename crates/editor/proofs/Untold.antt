-- Of no signals nothing is told.
use Rattle.std.proofs.Common.{◌≡◌, ℕ, ◌<◌, Some, None, Option, refl, ap, ◌∙◌, subst, arith}
use Rattle.netlist.specs.Netlist.{Driver}
use Rattle.board.proofs.Signals.{driver_past}
use Rattle.editor.specs.Laws.{NoSignalsTellNothing}
use Rattle.editor.specs.Questions.{asks_signals, asks_levels, asks_batch, asks_marks, asks_kind, asks_output, asks_pins, asks_table, asks_start, asks_place, asks_signal, asks_missing, Tells, HasTable, IsSmallest, start_of}

none_below : {A : Type 0} (s : ℕ) (P : A → Type 0) (r : Option A) → Tells 0 s P r → r ≡ None
none_below s P None h = refl
none_below s P (Some x) h = absurd (omega (arith, h.0))

none_smallest : (P : ℕ → Type 0) (r : Option ℕ) → ((s : ℕ) → P s → s < 0) → IsSmallest P r → r ≡ None
none_smallest P None below h = refl
none_smallest P (Some s) below h = absurd (omega (arith, below s h.0))

pub tells_nothing : NoSignalsTellNothing
tells_nothing a asks_signals r h = h
tells_nothing a asks_levels r h = tt
tells_nothing a asks_batch r h = tt
tells_nothing a asks_marks r h = tt
tells_nothing a (asks_kind s) r h = none_below s _ r h
tells_nothing a (asks_output s) r h = none_below s _ r h
tells_nothing a (asks_pins s) r h = none_below s _ r h
tells_nothing a (asks_table s) r h = subst (λ (d : Driver). HasTable d r) (driver_past 0 a.image s (omega arith)) h
tells_nothing a (asks_start s) r h = h ∙ ap start_of (driver_past 0 a.image s (omega arith))
tells_nothing a (asks_place s) r h = none_below s _ r h
tells_nothing a (asks_signal p) r h = none_below p _ r h
tells_nothing a asks_missing r h = none_smallest _ r (λ s p. p.signal) h
