-- When a netlist is whole.
use Rattle.std.proofs.Common.{ℕ, List, sym, ◌∙◌, inl, inr, ⊎_elim}
use Rattle.std.proofs.lemmas.Bool.{cases_lt, true≢false}
use Rattle.netlist.specs.Netlist.{Whole}
use Rattle.board.specs.Board.{netlist_of, Sound}
use Rattle.board.proofs.Drivers.{used_below}
use Rattle.board.proofs.Signals.{output_past}
use Rattle.editor.specs.Calls.{Missing}

-- where no absent signal is in use, the netlist is whole
pub whole_of : (m : ℕ) (ws : List ℕ) → Sound m ws → ((s : ℕ) × Missing m (netlist_of m ws) s → ⊥) → Whole (netlist_of m ws)
whole_of m ws sound none s gone = (
  λ out.
      ⊎_elim
      (λ lt. none (s, record { signal = lt; gone = gone; wanted = inr out }))
      (λ le. true≢false (sym out ∙ output_past m ws s le))
      (cases_lt s m),
  λ used. none (s, record { signal = used_below m ws sound s used; gone = gone; wanted = inl used }),
)
