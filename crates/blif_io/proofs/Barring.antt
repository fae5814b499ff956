-- The smallest number that applies to a write.
use Rattle.std.proofs.Common.{◌≡◌, ℕ, ◌<◌, ◌≤◌, List, length, Some, None, Ok, Err, Result, sym, subst, ◌∙◌, ⊎_elim, arith}
use Rattle.words.specs.Meaning.{levels}
use Rattle.editor.specs.State.{State as EditorState}
use Rattle.blif.specs.declared.fault.WriteFault.{WriteFault}
use Rattle.blif_io.specs.Writing.{Puts}
use Rattle.std.proofs.lemmas.Bool.{cases_lt}
use Rattle.netlist.specs.Netlist.{Netlist, absent, driver_of}
use Rattle.board.specs.Board.{netlist_of}
use Rattle.board.proofs.Signals.{driver_past}
use Rattle.blif.specs.File.{Met}
use Rattle.blif.specs.Promises.{BarsWrite, no_editor, batch_open, nameless, short, Barred, text_of, Writes, write_number}

module _ (m open' : ℕ) (n : Netlist) (t : Met) (text : List ℕ) (room : ℕ) where
  pub bar-one : m ≡ 0 → Barred (BarsWrite m open' n t text room) (Some 1)
  bar-one e = (no_editor e, below)
    where
      below : (j : ℕ) → j < 1 → BarsWrite m open' n t text room j → ⊥
      below j lt (no_editor e) = absurd (omega arith)
      below j lt (batch_open h) = absurd (omega arith)
      below j lt (nameless s d h) = absurd (omega arith)
      below j lt (short h) = absurd (omega arith)

  module _ (signals : m ≡ 0 → ⊥) where
    pub bar-eleven : 0 < open' → Barred (BarsWrite m open' n t text room) (Some 11)
    bar-eleven lt' = (batch_open lt', below)
      where
        below : (j : ℕ) → j < 11 → BarsWrite m open' n t text room j → ⊥
        below j lt (no_editor e) = signals e
        below j lt (batch_open h) = absurd (omega arith)
        below j lt (nameless s d h) = absurd (omega arith)
        below j lt (short h) = absurd (omega arith)

    module _ (shut : 0 < open' → ⊥) where
      pub bar-names : (s : ℕ) → (driver_of n s ≡ absent → ⊥) → length t.signals ≤ s → Barred (BarsWrite m open' n t text room) (Some 36)
      bar-names s driven le = (nameless s driven le, below)
        where
          below : (j : ℕ) → j < 36 → BarsWrite m open' n t text room j → ⊥
          below j lt (no_editor e) = signals e
          below j lt (batch_open h) = shut h
          below j lt (nameless s d h) = absurd (omega arith)
          below j lt (short h) = absurd (omega arith)

      module _ (named : (s : ℕ) → length t.signals ≤ s → driver_of n s ≡ absent) where
        pub bar-text : Barred (BarsWrite m open' n t text room) None
        bar-text j lt (no_editor e) = signals e
        bar-text j lt (batch_open h) = shut h
        bar-text j lt (nameless s d h) = d (named s h)
        bar-text j lt (short h) = absurd (omega arith)

  module _ (low : Barred (BarsWrite m open' n t text room) None) where
    pub bar-room : room < length text → Barred (BarsWrite m open' n t text room) (Some 39)
    bar-room small = (short small, low)

    pub bar-none : (room < length text → ⊥) → (k : ℕ) → BarsWrite m open' n t text room k → ⊥
    bar-none fits k (no_editor e) = low 1 (omega arith) (no_editor e)
    bar-none fits k (batch_open h) = low 11 (omega arith) (batch_open h)
    bar-none fits k (nameless s d h) = low 36 (omega arith) (nameless s d h)
    bar-none fits k (short h) = fits h

pub all_named : (m named : ℕ) (ws : List ℕ) → ((s : ℕ) → s < m → named ≤ s → driver_of (netlist_of m ws) s ≡ absent) → (s : ℕ) → named ≤ s → driver_of (netlist_of m ws) s ≡ absent
all_named m named ws h s le = ⊎_elim (λ lt. h s lt le) (λ past. driver_past m ws s past) (cases_lt s m)

-- a text that is put, where nothing below 39 applies, is written
pub wrote : (e : EditorState) (t : Met) (buffer buffer' made slice : List ℕ) (r : Result ℕ WriteFault)
    → ((text : List ℕ) (room : ℕ) → Barred (BarsWrite e.signals (levels e.words) (netlist_of e.signals e.words.image) t text room) None)
    → made ≡ text_of e t → slice ≡ made → Puts slice buffer buffer' r → Writes e t buffer buffer' r
wrote e t buffer buffer' made slice (Ok long) low is same h =
    let text = text_of e t in
    let p = subst (λ l. Puts l buffer buffer' (Ok long)) (same ∙ is) h in
    (bar-none e.signals (levels e.words) (netlist_of e.signals e.words.image) t text (length buffer) (low text (length buffer)) (λ lt. omega (arith, lt, p.0)), p.1, p.2)
wrote e t buffer buffer' made slice (Err f) low is same h =
    let text = text_of e t in
    let p = subst (λ l. Puts l buffer buffer' (Err f)) (same ∙ is) h in (
      subst (λ g. Barred (BarsWrite e.signals (levels e.words) (netlist_of e.signals e.words.image) t text (length buffer)) (write_number g)) (sym p.1)
          (bar-room e.signals (levels e.words) (netlist_of e.signals e.words.image) t text (length buffer) (low text (length buffer)) p.0),
      p.2,
    )
