-- What a write has written can be read back.
use Rattle.std.proofs.Common.{◌≡◌, ℕ, suc, ◌<◌, ◌≤◌, eqb, List, [], ◌∷◌, map, length, take, drop, Ok, Err, sym, ap, ◌∙◌, subst, inl, inr, ⊎_elim, arith}
use Rattle.std.proofs.lemmas.Bool.{cases_lt, cases_Bool, cond-false, eqb-true}
use Rattle.std.proofs.Math.Seq.{take-append_seam}
use Rattle.words.specs.Meaning.{Meaning, levels}
use Rattle.names.specs.Names.{Apart}
use Rattle.netlist.specs.Netlist.{driver_of}
use Rattle.netlist.specs.Netlist as net
use Rattle.netlist.specs.Places.{Order, place}
use Rattle.board.specs.Board.{netlist_of, order_of}
use Rattle.board.proofs.Signals.{driver_past}
use Rattle.editor.specs.Steps.{InOrder}
use Rattle.editor.specs.State.{State as EditorState}
use Rattle.text.specs.Rules.{file_rules}
use Rattle.blif.specs.Rows.{words_of, all_rows}
use Rattle.blif.specs.Description.{In}
use Rattle.blif.specs.File.{Met, Due}
use Rattle.blif.specs.Promises.{text_of, Writes, ReadsText, netlist_at, batch_open, nameless}
use Rattle.blif.specs.Written.{statements_of, lines_of_file, file_of}
use Rattle.blif.specs.Below.{GatesBelowFeeders}
use Rattle.blif.specs.Returning.{Exportable, Readable, ReadsBack, OrdersGates, SameAgain, WritesReadBack}
use Rattle.blif.proofs.Giving.{none_open}
use Rattle.blif.proofs.Spelling.{spelling-holds}
use Rattle.blif.proofs.Filing.{written_is_file}
use Rattle.blif.proofs.Fed.{written_fed}
use Rattle.blif.proofs.Below.{file_below}
use Rattle.blif.proofs.Building.{undriven}
use Rattle.blif.proofs.Returning.{round_trip}

at-its-place : (o : Order) (s : ℕ) → place o s < length o → In s o
at-its-place [] s lt = absurd (omega arith)
at-its-place (x ∷ o) s lt =
    ⊎_elim (λ t. inl (sym (eqb-true x s t))) (λ f. let e = cond-false (eqb x s) 0 (suc (place o s)) f in inr (at-its-place o s (omega (arith, e)))) (cases_Bool (eqb x s))

-- outside a batch an editor whose driven signals have names can be exported
exportable : (m : ℕ) (a : Meaning) (t : Met) → InOrder m a → levels a ≡ 0 → ((s : ℕ) → length t.signals ≤ s → driver_of (netlist_of m a.image) s ≡ net.absent) → Apart t.signals → Readable t
    → Exportable m t.model t.signals (netlist_of m a.image) (order_of m a.image)
exportable m a t i shut named apart r =
    let whole = i.whole shut in
    record {
      model_word = r.model;
      writable = record {
        apart = apart;
        named = λ s d. ⊎_elim (λ lt. lt) (λ le. absurd (d (named s le))) (cases_lt s (length t.signals));
        below = λ s d. ⊎_elim (λ lt. lt) (λ le. absurd (d (driver_past m a.image s le))) (cases_lt s m);
        outputs = λ s e z. (whole s z).0 e;
        placed = λ s lt. at-its-place (order_of m a.image) s (omega (arith, i.permutes.each s lt, i.permutes.long));
        fits = i.fits;
      };
      nameable = record { words = r.words; pins = λ s p u z. (whole p z).1 (s, u) };
      arranges = i.permutes;
      ordered = i.ordered;
    }

text-is : (e : EditorState) (t : Met) (buffer buffer' : List ℕ) (long : ℕ) → Writes e t buffer buffer' (Ok long) → take long buffer' ≡ text_of e t
text-is e t buffer buffer' long h = ap (λ k. take k buffer') h.1 ∙ ap (take (length (text_of e t))) h.2 ∙ take-append_seam (text_of e t) (drop (length (text_of e t)) buffer)

none-apart : Apart []
none-apart i lt = absurd (omega arith)

module _ (e : EditorState) (t : Met) (buffer buffer' : List ℕ) (long : ℕ) (order : InOrder e.signals e.words) (apart : Apart t.signals) (h : Writes e t buffer buffer' (Ok long)) where
  can-export : Readable t → Exportable e.signals t.model t.signals (netlist_of e.signals e.words.image) (order_of e.signals e.words.image)
  can-export readable =
      exportable e.signals e.words t order (none_open (levels e.words) (λ lt. h.0 11 (batch_open lt)))
      (λ s le. undriven (driver_of (netlist_of e.signals e.words.image) s) (λ d. h.0 36 (nameless s d le))) apart readable

  reads-back : ReadsBack e t buffer' (Ok long)
  reads-back limit d d' s s' r readable same in_order new due reads =
      let n = netlist_of e.signals e.words.image in
      let o = order_of e.signals e.words.image in
      let text : take long buffer' ≡ file_of t.model d.editor.signals t.signals n o = text-is e t buffer buffer' long h ∙ ap (λ m. file_of t.model m t.signals n o) (sym same) in
      round_trip limit t.model t.signals n o d d' s s' r (subst (λ m. Exportable m t.model t.signals n o) (sym same) (can-export readable))
      (record { order = in_order; apart = subst Apart (sym new) none-apart }) new
      (subst (Due d.editor.signals (levels d.editor.words) limit (netlist_at d)) text due) (subst (λ l. ReadsText limit l d s d' s' r) text reads)

  orders-gates : OrdersGates t buffer' (Ok long)
  orders-gates readable =
      let m = e.signals in
      let n = netlist_of m e.words.image in
      let o = order_of m e.words.image in
      let x = can-export readable in
      let file = written_is_file t.model m t.signals n o x.model_word x.nameable x.writable in
      let lines = lines_of_file t.model (statements_of m t.signals n o) in
      let below : GatesBelowFeeders lines =
      file_below lines t.model (statements_of m t.signals n o) file.1 (written_fed m t.signals n o x.writable x.nameable x.arranges x.ordered) in
      subst (λ l. GatesBelowFeeders (map words_of (all_rows file_rules l))) (sym (text-is e t buffer buffer' long h))
      (subst GatesBelowFeeders (sym (spelling-holds lines file.0).1) below)

  same-again : SameAgain e t buffer' (Ok long)
  same-again other other' long' h' = (h'.1 ∙ sym h.1, text-is e t other other' long' h' ∙ sym (text-is e t buffer buffer' long h))

pub writes_read_back : WritesReadBack
writes_read_back e t buffer buffer' (Ok long) order apart h =
    (reads-back e t buffer buffer' long order apart h, orders-gates e t buffer buffer' long order apart h, same-again e t buffer buffer' long order apart h)
writes_read_back e t buffer buffer' (Err f) order apart h = (tt, tt, tt)
