-- One more call on a log that led to what a store holds.
use Rattle.std.proofs.Common.{◌≡◌, ℕ, zero, suc, ◌<◌, ◌≤◌, List, [], ◌∷◌, ◌++◌, length, take, drop, Ok, Err, Result, sym, refl, ap, ◌∙◌, subst, inl, inr, ⊎_elim, arith}
use Rattle.std.proofs.lemmas.List.{take_all, take-take, take_at, length-take-le, length_push}
use Rattle.std.proofs.lemmas.Bool.{cases_lt}
use Rattle.words.specs.Meaning.{Meaning, levels, newest, opened, kept, dropped}
use Rattle.netlist.specs.declared.edit.Edit.{Edit}
use Rattle.netlist.specs.declared.edit.Refusal.{Refusal}
use Rattle.netlist.specs.Netlist.{Netlist, Whole}
use Rattle.netlist.specs.Edits.{Edits, empty_board, Applies, no_batch, no_signal, out_of_range, driven, wrong_kind, no_pin, in_use, looped}
use Rattle.board.specs.Board.{board_of, netlist_of}
use Rattle.board.specs.Standing.{Stands}
use Rattle.editor.specs.declared.call.Call.{Call}
use Rattle.editor.specs.declared.call.Call.TheVariants.{Begin, Mark, KeepMark, DropMark, Keep, Drop, Make}
use Rattle.editor.specs.Calls.{oldest, emptied, Replies}
use Rattle.editor.specs.Log.{Entry, Tally, cut, cut_all, counts, heard, tally_from, tally, Gives, none, more, Holds, HoldsSaved, Led}
use Rattle.editor.proofs.Laid.{empty_whole}
use Rattle.editor.proofs.Wholeness.{whole_of}

abbrev pub entry : Call → Result ℕ Refusal → Entry
entry c r = record { call = c; reply = r }

-- ---- tallies

tally-from_more : (t : Tally) (log : List Entry) (x : Entry) → tally_from t (log ++ x ∷ []) ≡ heard (tally_from t log) x.call x.reply
tally-from_more t [] x = refl
tally-from_more t (y ∷ log) x = tally-from_more (heard t y.call y.reply) log x

pub tally_more : (log : List Entry) (x : Entry) → tally (log ++ x ∷ []) ≡ heard (tally log) x.call x.reply
tally_more log x = tally-from_more (record { edits = []; notes = [] }) log x

-- ---- what is saved

-- what holds of a front of the edits holds of all of them
saved_front : (m n : ℕ) (edits : List Edit) (notes : List ℕ) (saved : List (List ℕ)) → n ≤ length edits → HoldsSaved m (take n edits) notes saved → HoldsSaved m edits notes saved
saved_front m n edits [] [] le h = tt
saved_front m n edits [] (ws ∷ saved) le h = h
saved_front m n edits (note ∷ notes) [] le h = h
saved_front m n edits (note ∷ notes) (ws ∷ saved) le h =
    let low : note ≤ n = omega (arith, h.0, length-take-le n edits le) in
    let same : take note (take n edits) ≡ take note edits = take-take note n edits low in
    (omega arith, subst (λ es. Holds m es ws) same h.1, subst (λ es. HoldsSaved m es notes saved) same h.2)

-- the present image is saved with a note of all edits
saved_opened : (m : ℕ) (edits : List Edit) (notes : List ℕ) (ws : List ℕ) (saved : List (List ℕ)) → Holds m edits ws → HoldsSaved m edits notes saved
    → HoldsSaved m edits (length edits ∷ notes) (ws ∷ saved)
saved_opened m edits notes ws saved h s =
    let same : edits ≡ take (length edits) edits = sym (take_all (length edits) edits (omega arith)) in
    (omega arith, subst (λ es. Holds m es ws) same h, subst (λ es. HoldsSaved m es notes saved) same s)

-- the newest is forgotten
saved_kept : (m : ℕ) (edits : List Edit) (notes : List ℕ) (saved : List (List ℕ)) → HoldsSaved m edits notes saved → HoldsSaved m edits (drop 1 notes) (drop 1 saved)
saved_kept m edits [] [] s = tt
saved_kept m edits [] (ws ∷ saved) s = absurd s
saved_kept m edits (note ∷ notes) [] s = absurd s
saved_kept m edits (note ∷ notes) (ws ∷ saved) s = saved_front m note edits notes saved s.0 s.2

-- one edit more is noted by none
saved_made : (m : ℕ) (edits : List Edit) (e : Edit) (notes : List ℕ) (saved : List (List ℕ)) → HoldsSaved m edits notes saved → HoldsSaved m (edits ++ e ∷ []) notes saved
saved_made m edits e notes saved s =
    saved_front m (length edits) (edits ++ e ∷ []) notes saved (omega (arith, length_push edits e))
    (subst (λ es. HoldsSaved m es notes saved) (sym (take_at edits (e ∷ []) (length edits) refl)) s)

-- the oldest image holds what the edits up to the oldest note give
oldest_saved : (m : ℕ) (edits : List Edit) (note : ℕ) (notes : List ℕ) (ws : List ℕ) (saved : List (List ℕ)) → HoldsSaved m edits (note ∷ notes) (ws ∷ saved)
    → Holds m (cut_all (note ∷ notes) edits) (oldest ws saved)
oldest_saved m edits note [] ws [] s = s.1
oldest_saved m edits note [] ws (w ∷ saved) s = absurd s.2
oldest_saved m edits note (older ∷ notes) ws [] s = absurd s.2
oldest_saved m edits note (older ∷ notes) ws (w ∷ saved) s =
    oldest_saved m edits older notes w saved (saved_front m note edits (older ∷ notes) (w ∷ saved) s.0 s.2)

oldest_holds : (m : ℕ) (edits : List Edit) (notes : List ℕ) (ws : List ℕ) (saved : List (List ℕ)) → Holds m edits ws → HoldsSaved m edits notes saved
    → Holds m (cut_all notes edits) (oldest ws saved)
oldest_holds m edits [] ws [] h s = h
oldest_holds m edits [] ws (w ∷ saved) h s = absurd s
oldest_holds m edits (note ∷ notes) ws [] h s = absurd s
oldest_holds m edits (note ∷ notes) ws (w ∷ saved) h s = oldest_saved m edits note notes w saved s

-- the newest image is the present one again
saved_dropped : (m : ℕ) (edits : List Edit) (notes : List ℕ) (saved : List (List ℕ)) → 0 < length saved → HoldsSaved m edits notes saved
    → Holds m (cut notes edits) (newest saved) × HoldsSaved m (cut notes edits) (drop 1 notes) (drop 1 saved)
saved_dropped m edits notes [] some s = absurd (omega arith)
saved_dropped m edits [] (ws ∷ saved) some s = absurd s
saved_dropped m edits (note ∷ notes) (ws ∷ saved) some s = (s.1, s.2)

fewer_saved : (saved : List (List ℕ)) → length (drop 1 saved) ≤ length saved
fewer_saved [] = omega arith
fewer_saved (ws ∷ saved) = omega arith

-- ---- the oldest image

-- it is the same whatever the present one is, where a level is open
oldest-some : (ws ws' : List ℕ) (saved : List (List ℕ)) → 0 < length saved → oldest ws saved ≡ oldest ws' saved
oldest-some ws ws' [] some = absurd (omega arith)
oldest-some ws ws' (w ∷ saved) some = refl

-- a mark that is kept, or dropped, is above it
oldest-kept : (ws : List ℕ) (saved : List (List ℕ)) → 1 < length saved → oldest ws (drop 1 saved) ≡ oldest ws saved
oldest-kept ws [] some = absurd (omega arith)
oldest-kept ws (w ∷ []) some = absurd (omega arith)
oldest-kept ws (w ∷ (older ∷ saved)) some = refl

oldest-dropped : (ws : List ℕ) (saved : List (List ℕ)) → 0 < length saved → oldest (newest saved) (drop 1 saved) ≡ oldest ws saved
oldest-dropped ws [] some = absurd (omega arith)
oldest-dropped ws (w ∷ saved) some = refl

-- a batch that is kept leaves the present image alone
oldest-last : (ws : List ℕ) (saved : List (List ℕ)) → length saved ≤ 1 → oldest ws (drop 1 saved) ≡ ws
oldest-last ws [] last = refl
oldest-last ws (w ∷ []) last = refl
oldest-last ws (w ∷ (older ∷ saved)) last = absurd (omega arith)

-- ---- one call more

led_from : (m : ℕ) (log : List Entry) (x : Entry) (a : Meaning) (t : Tally) → tally (log ++ x ∷ []) ≡ t → 0 < m → m ≤ 1024 → 2 ≤ a.limit → levels a < a.limit
    → Holds m t.edits a.image → HoldsSaved m t.edits t.notes a.saved → Whole (netlist_of m (oldest a.image a.saved)) → Led m (log ++ x ∷ []) a
led_from m log x a t e some few two room present saved whole = record {
  some = some;
  few = few;
  two = two;
  room = room;
  present = subst (λ u. Holds m u.edits a.image) (sym e) present;
  saved = subst (λ u. HoldsSaved m u.edits u.notes a.saved) (sym e) saved;
  whole = whole;
}

pub led_refused : (m : ℕ) (log : List Entry) (a a' : Meaning) (c : Call) (r : Refusal) → a' ≡ a → Led m log a → Led m (log ++ entry c (Err r) ∷ []) a'
led_refused m log a a' c r e led =
    subst (Led m (log ++ entry c (Err r) ∷ [])) (sym e)
    (led_from m log (entry c (Err r)) a (tally log) (tally_more log (entry c (Err r))) led.some led.few led.two led.room led.present led.saved led.whole)

module _ (m : ℕ) (log : List Entry) (a a' : Meaning) (count : ℕ) where
  led_opened : (c : Call) → counts (tally log) c ≡ record { edits = (tally log).edits; notes = length (tally log).edits ∷ (tally log).notes } → suc (suc (levels a)) ≤ a.limit
      → a' ≡ opened a → Led m log a → Led m (log ++ entry c (Ok count) ∷ []) a'
  led_opened c is room e led =
      subst (Led m (log ++ entry c (Ok count) ∷ [])) (sym e)
      (led_from m log (entry c (Ok count)) (opened a) _ (tally_more log (entry c (Ok count)) ∙ is) led.some led.few led.two room led.present
      (saved_opened m (tally log).edits (tally log).notes a.image a.saved led.present led.saved) led.whole)

  pub led_begin : levels a ≡ 0 → a' ≡ opened a → Led m log a → Led m (log ++ entry Begin (Ok count) ∷ []) a'
  led_begin shut e led = led_opened Begin refl (omega (arith, led.two)) e led

  pub led_mark : suc (suc (levels a)) ≤ a.limit → a' ≡ opened a → Led m log a → Led m (log ++ entry Mark (Ok count) ∷ []) a'
  led_mark room e led = led_opened Mark refl room e led

  led_kept : (c : Call) → counts (tally log) c ≡ record { edits = (tally log).edits; notes = drop 1 (tally log).notes } → a' ≡ kept a → Led m log a
      → Whole (netlist_of m (oldest a.image (drop 1 a.saved))) → Led m (log ++ entry c (Ok count) ∷ []) a'
  led_kept c is e led whole =
      subst (Led m (log ++ entry c (Ok count) ∷ [])) (sym e)
      (led_from m log (entry c (Ok count)) (kept a) _ (tally_more log (entry c (Ok count)) ∙ is) led.some led.few led.two
      (omega (arith, led.room, fewer_saved a.saved)) led.present (saved_kept m (tally log).edits (tally log).notes a.saved led.saved) whole)

  pub led_keep : levels a ≤ 1 → Whole (netlist_of m a.image) → a' ≡ kept a → Led m log a → Led m (log ++ entry Keep (Ok count) ∷ []) a'
  led_keep last whole e led = led_kept Keep refl e led (subst (λ ws. Whole (netlist_of m ws)) (sym (oldest-last a.image a.saved last)) whole)

  pub led_keep-mark : 1 < levels a → a' ≡ kept a → Led m log a → Led m (log ++ entry KeepMark (Ok count) ∷ []) a'
  led_keep-mark some e led = led_kept KeepMark refl e led (subst (λ ws. Whole (netlist_of m ws)) (sym (oldest-kept a.image a.saved some)) led.whole)

  pub led_drop-mark : 0 < levels a → a' ≡ dropped a → Led m log a → Led m (log ++ entry DropMark (Ok count) ∷ []) a'
  led_drop-mark some e led =
      let back = saved_dropped m (tally log).edits (tally log).notes a.saved some led.saved in
      subst (Led m (log ++ entry DropMark (Ok count) ∷ [])) (sym e)
      (led_from m log (entry DropMark (Ok count)) (dropped a) _ (tally_more log (entry DropMark (Ok count))) led.some led.few led.two
      (omega (arith, led.room, fewer_saved a.saved)) back.0 back.1
      (subst (λ ws. Whole (netlist_of m ws)) (sym (oldest-dropped a.image a.saved some)) led.whole))

  pub led_drop : a' ≡ emptied a → Led m log a → Led m (log ++ entry Drop (Ok count) ∷ []) a'
  led_drop e led =
      subst (Led m (log ++ entry Drop (Ok count) ∷ [])) (sym e)
      (led_from m log (entry Drop (Ok count)) (emptied a) _ (tally_more log (entry Drop (Ok count))) led.some led.few led.two (omega (arith, led.two))
      (oldest_holds m (tally log).edits (tally log).notes a.image a.saved led.present led.saved) tt led.whole)

above_none : (n : ℕ) → (n ≡ 0 → ⊥) → 0 < n
above_none zero h = absurd (h refl)
above_none (suc n) h = omega arith

-- what applies with some level open applies with any number of them
pub any_levels : (m some levels : ℕ) (n : Netlist) (e : Edit) (k : ℕ) → 0 < some → Applies m some n e k → Applies m levels n e k
any_levels m some levels n e k lt (no_batch z) = absurd (omega arith)
any_levels m some levels n e k lt (no_signal h) = no_signal h
any_levels m some levels n e k lt (out_of_range h) = out_of_range h
any_levels m some levels n e k lt (driven h) = driven h
any_levels m some levels n e k lt (wrong_kind h) = wrong_kind h
any_levels m some levels n e k lt (no_pin h) = no_pin h
any_levels m some levels n e k lt (in_use h) = in_use h
any_levels m some levels n e k lt (looped xs loop) = looped xs loop

pub led_make : (m : ℕ) (log : List Entry) (a a' : Meaning) (e : Edit) (count : ℕ) → Led m log a → Replies m a (Make e) a' (Ok count) → Stands m a'.image
    → Led m (log ++ entry (Make e) (Ok count) ∷ []) a'
led_make m log a a' e count led (allowed, (inside, net, puts)) stands =
    let one : Edits m 1 (board_of m a.image) e (board_of m a'.image) (Ok count) =
    ((λ k h. allowed k (any_levels m 1 (levels a) (netlist_of m a.image) e k (omega arith) h)), net, puts) in
    led_from m log (entry (Make e) (Ok count)) a' _ (tally_more log (entry (Make e) (Ok count))) led.some led.few
    (subst (λ d. 2 ≤ d) (sym inside.limit) led.two)
    (omega (arith, led.room, ap length inside.levels, inside.limit))
    (record { stands = stands; gives = more count led.present.gives one })
    (subst (HoldsSaved m ((tally log).edits ++ e ∷ []) (tally log).notes) (sym inside.levels) (saved_made m (tally log).edits e (tally log).notes a.saved led.saved))
    (subst (λ ws. Whole (netlist_of m ws)) (sym (ap (oldest a'.image) inside.levels ∙ oldest-some a'.image a.image a.saved (above_none (levels a) (λ z. allowed 10 (no_batch z))))) led.whole)

pub led_start : (m : ℕ) (a : Meaning) → 0 < m → m ≤ 1024 → 2 ≤ a.limit → a.saved ≡ [] → Stands m a.image → board_of m a.image ≡ empty_board m → Led m [] a
led_start m a some few two shut stands board = record {
  some = some;
  few = few;
  two = two;
  room = omega (arith, ap length shut, two);
  present = record { stands = stands; gives = subst (Gives m []) (sym board) none };
  saved = subst (HoldsSaved m [] []) (sym shut) tt;
  whole = subst (λ saved. Whole (netlist_of m (oldest a.image saved))) (sym shut) (subst Whole (sym (ap (λ b. b.netlist) board)) (empty_whole m));
}

-- ---- any call

none_above : (n : ℕ) → (0 < n → ⊥) → n ≡ 0
none_above zero h = refl
none_above (suc n) h = absurd (h (omega arith))

above : (n k : ℕ) → (n ≤ k → ⊥) → k < n
above n k h = ⊎_elim (λ lt. lt) (λ le. absurd (h le)) (cases_lt k n)

pub led_step : (m : ℕ) (log : List Entry) (a a' : Meaning) (c : Call) (r : Result ℕ Refusal) → Led m log a → Replies m a c a' r
    → ((e : Edit) → c ≡ Make e → Stands m a'.image) → Led m (log ++ entry c r ∷ []) a'
led_step m log a a' c (Err r) led h stands = led_refused m log a a' c r h.2 led
led_step m log a a' Begin (Ok count) led h stands = led_begin m log a a' count (none_above (levels a) (λ z. h.0 11 (refl, z))) h.1.0 led
led_step m log a a' Mark (Ok count) led h stands =
    led_mark m log a a' count (⊎_elim (λ lt. omega arith) (λ le. absurd (h.0 20 (inr (refl, le)))) (cases_lt (suc (levels a)) a.limit)) h.1.0 led
led_step m log a a' KeepMark (Ok count) led h stands =
    led_keep-mark m log a a' count (above (levels a) 1 (λ le. h.0 21 (inr (refl, le)))) h.1.0 led
led_step m log a a' DropMark (Ok count) led h stands =
    led_drop-mark m log a a' count (omega (arith, above (levels a) 1 (λ le. h.0 21 (inr (refl, le))))) h.1.0 led
led_step m log a a' Keep (Ok count) led h stands =
    led_keep m log a a' count (⊎_elim (λ lt. absurd (h.0 22 (inr (inl (refl, lt))))) (λ le. le) (cases_lt 1 (levels a)))
    (whole_of m a.image led.present.stands.sound (λ x. h.0 24 (inr (inr (refl, x))))) h.1.0 led
led_step m log a a' Drop (Ok count) led h stands = led_drop m log a a' count h.1.0 led
led_step m log a a' (Make e) (Ok count) led h stands = led_make m log a a' e count led h (stands e refl)
