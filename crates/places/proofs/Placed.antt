-- A pin is put: the loop that is shown, or the places that the rule gives.
use Rattle.std.proofs.Common.{◌≡◌, ℕ, suc, ◌+◌, ◌*◌, ◌<◌, ◌≤◌, true, false, ◌⊎◌, List, length, Some, sym, ap, ◌∙◌, subst, inl, inr, ⊎_elim, arith}
use Rattle.std.proofs.lemmas.Bool.{cases_Bool, cases_lt}
use Rattle.reach.specs.Reach.{Reach}
use Rattle.reach.specs.Answer.{Whole, Shown}
use Rattle.netlist.specs.Netlist.{Feeds, Loop}
use Rattle.netlist.specs.Places.{place, Arranges}
use Rattle.board.specs.Layout.{word, seat, holder}
use Rattle.board.specs.Board.{netlist_of, order_of}
use Rattle.board.specs.Fanout.{TellsFed, fed_by}
use Rattle.places.specs.Put.{Ready, Places}
use Rattle.places.specs.Refill.{flagged, filled, Range, Reordered, Renumbered}
use Rattle.places.proofs.Filled.{filled_permutes, filled-place, permutes_at}
use Rattle.places.proofs.Counting.{flagged-set, set-flagged}
use Rattle.places.proofs.Reached.{reach_leads, leads_reach, way_loop}
use Rattle.places.proofs.Moved.{Moving, moved-others, moved_stays, moved_before, moved_order}
use Rattle.places.proofs.Words.{order_at, order_same, netlist_same, sound_same}
use Rattle.places.proofs.Seating.{holder_small, holder-place}
use Rattle.board.proofs.Fed.{fanout_tells}

module _ (m : ℕ) (ws : List ℕ) (s a : ℕ) (ready : Ready m ws s a) where
  pub looped : (high : ℕ) (way : List ℕ) → Shown (fed_by m ws high s) s a way → Loop (netlist_of m ws) way
  looped high way shown =
      way_loop m ws high s (fed_by m ws high s) (fanout_tells m ws high s ready.few ready.sound) ready.few ready.gate ready.others a way ready.on
      shown.leads

  module _
      (told : ℕ → List ℕ) (tells : TellsFed m ws (place (order_of m ws) a) s told) (near : place (order_of m ws) s ≤ place (order_of m ws) a)
      (flags : List ℕ) (found : List (List ℕ)) (count : ℕ) (whole : Whole told s (Some a) flags found count) where
    flagged_reach : (x : ℕ) → flagged flags x ≡ true → Reach told s x
    flagged_reach x e = let h = set-flagged flags x e in whole.flagged.sound x h.0 h.1

    -- what the search flags is what moves
    flagged-moves : Moving (netlist_of m ws) (order_of m ws) s a (flagged flags)
    flagged-moves =
        let upto = place (order_of m ws) a in
        let leads = reach_leads m ws upto s told tells ready.few ready.gate ready.others near in
        record {
          reached = λ x e. (leads x (flagged_reach x e)).1;
          upto = λ x e. (leads x (flagged_reach x e)).2;
          all = λ x l le.
              let r = leads_reach m ws upto s told tells ready.few ready.gate ready.others near x l le in
              let lit = whole.flagged.whole x r in
              let small : x < m = (leads x r).0 in
              flagged-set flags x (omega (arith, small, ready.few)) (λ dark. omega (arith, lit, dark));
        }

    net_stays : flagged flags a ≡ false
    net_stays = ⊎_elim (λ e. absurd (whole.missed (flagged_reach a e))) (λ e. e) (cases_Bool (flagged flags a))

    -- the words once the order and then the places are written
    module _
        (ws₁ : List ℕ) (fills : Reordered m ws (filled (flagged flags) (order_of m ws) (place (order_of m ws) s) (place (order_of m ws) a)) ws₁) where
      within : place (order_of m ws) a < m
      within = ready.permutes.each a ready.net

      permutes₁ : Arranges m (order_of m ws₁)
      permutes₁ =
          subst (Arranges m) (sym fills.order)
          (filled_permutes m (order_of m ws) (place (order_of m ws) s) (place (order_of m ws) a) ready.permutes near within (flagged flags))

      module _ (ws₂ : List ℕ) (seats : Renumbered m ws₁ (place (order_of m ws) s) (suc (place (order_of m ws) a)) ws₂) where
        -- a word that is no place of a signal stays
        unseated : (at : ℕ) → (at < 3 * m) ⊎ (4 * m ≤ at) → word ws₂ at ≡ word ws₁ at
        unseated at side =
            seats.rest at
            (λ p up lt e.
            let small = holder_small m ws₁ permutes₁ p (omega (arith, lt, within)) in
            ⊎_elim (λ l. omega (arith, l, e)) (λ l. omega (arith, l, e, small)) side)

        low_same : (at : ℕ) → at < 3 * m → word ws₂ at ≡ word ws at
        low_same at lt = unseated at (inl lt) ∙ fills.before at (omega arith)

        high_same : (at : ℕ) → 5 * m ≤ at → word ws₂ at ≡ word ws at
        high_same at le = unseated at (inr (omega arith)) ∙ fills.behind at le

        order₁ : order_of m ws₂ ≡ order_of m ws₁
        order₁ = order_same m ws₂ ws₁ (λ p lt. unseated (4 * m + p) (inr (omega arith)))

        order₂ : order_of m ws₂ ≡ filled (flagged flags) (order_of m ws) (place (order_of m ws) s) (place (order_of m ws) a)
        order₂ = order₁ ∙ fills.order

        size₂ : length ws₂ ≡ length ws
        size₂ = seats.size ∙ fills.size

        -- a place that is not walked is as it was
        seat-kept : (x : ℕ) → x < m → (place (order_of m ws₁) x < place (order_of m ws) s) ⊎ (place (order_of m ws) a < place (order_of m ws₁) x) →
            seat m ws₂ x ≡ place (order_of m ws₁) x
        seat-kept x lt side =
            let o = order_of m ws in
            let p = place o s in
            let q = place o a in
            let outside : (k : ℕ) → p ≤ k → k < suc q → 3 * m + x ≡ 3 * m + holder m ws₁ k → ⊥ =
            λ k up below e.
            let is : place (order_of m ws₁) x ≡ k =
            (let same : x ≡ holder m ws₁ k = omega arith in ap (place (order_of m ws₁)) same) ∙ holder-place m ws₁ permutes₁ k (omega (arith, below, within)) in
            ⊎_elim (λ l. omega (arith, l, is)) (λ l. omega (arith, l, is)) side in
            seats.rest (3 * m + x) outside ∙ fills.before (3 * m + x) (omega arith) ∙ ready.sound.seated x lt
            ∙ filled-place m o p q ready.permutes near within (flagged flags) x lt
            (subst (λ l. (place l x < p) ⊎ (q < place l x)) fills.order side)
            ∙ ap (λ l. place l x) (sym fills.order)

        seated₂ : (x : ℕ) → x < m → seat m ws₂ x ≡ place (order_of m ws₂) x
        seated₂ x lt =
            let p = place (order_of m ws₁) x in
            ⊎_elim
            (λ below. seat-kept x lt (inl below))
            (λ up.
            ⊎_elim
            (λ less.
            let stands : x ≡ holder m ws₁ p =
            sym (permutes_at m (order_of m ws₁) permutes₁ x lt) ∙ order_at m ws₁ p (permutes₁.each x lt) in
            ap (seat m ws₂) stands ∙ seats.seats p up less)
            (λ more. seat-kept x lt (inr more))
            (cases_lt p (suc (place (order_of m ws) a))))
            (cases_lt p (place (order_of m ws) s))
            ∙ ap (λ l. place l x) (sym order₁)

        placed : Places m ws s a ws₂ count
        placed =
            let n = netlist_of m ws in
            let o = order_of m ws in
            record {
              puts = (
                λ lt. absurd (omega arith),
                λ le. moved_order n m o s a ready.permutes near within flags whole.searched.stand.long flagged-moves (order_of m ws₂) count order₂ whole.counted,
              );
              size = size₂;
              sound = sound_same m ws ws₂ low_same high_same size₂ ready.sound seated₂;
              permutes = subst (Arranges m) (sym order₁) permutes₁;
              netlist = netlist_same m ws ws₂ low_same high_same;
              others = subst (λ l. (x t : ℕ) → Feeds n x t → (t ≡ s → ⊥) → place l x < place l t) (sym order₂)
                  (moved-others n m o s a ready.permutes near within (flagged flags) flagged-moves ready.others);
              stays = λ x lt.
                  subst (λ l. place l x < place l s) (sym order₂) (moved_stays n m o s a ready.permutes near within (flagged flags) flagged-moves x lt);
              before =
                  subst (λ l. place l a < place l s) (sym order₂)
                  (moved_before n m o s a ready.permutes near within (flagged flags) flagged-moves net_stays);
            }

  -- the gate and what is reached from it move behind the signal
  pub moved : (low high : ℕ) → low ≡ seat m ws s → high ≡ seat m ws a → low ≤ high → (flags : List ℕ) (found : List (List ℕ)) (count : ℕ) →
      Whole (fed_by m ws high s) s (Some a) flags found count → (ws₁ ws₂ : List ℕ) →
      (Range m ws low high → Reordered m ws (filled (flagged flags) (order_of m ws) low high) ws₁) →
      (Range m ws₁ low high → Arranges m (order_of m ws₁) → Renumbered m ws₁ low (suc high) ws₂) → Places m ws s a ws₂ count
  moved low high low-is high_is up flags found count whole ws₁ ws₂ fills seats =
      let o = order_of m ws in
      let p : low ≡ place o s = low-is ∙ ready.sound.seated s ready.gate in
      let q : high ≡ place o a = high_is ∙ ready.sound.seated a ready.net in
      let inside : high < m = omega (arith, q, ready.permutes.each a ready.net) in
      let range : Range m ws low high = record { few = ready.few; long = ready.sound.chained.long; upward = up; within = inside } in
      let near : place o s ≤ place o a = omega (arith, p, q, up) in
      let tells = fanout_tells m ws (place o a) s ready.few ready.sound in
      let whole' = subst (λ k. Whole (fed_by m ws k s) s (Some a) flags found count) q whole in
      let first = fills range in
      let first' =
      subst (λ k. Reordered m ws (filled (flagged flags) o k (place o a)) ws₁) p (subst (λ k. Reordered m ws (filled (flagged flags) o low k) ws₁) q first) in
      let perm = permutes₁ (fed_by m ws (place o a) s) tells near flags found count whole' ws₁ first' in
      let range₁ : Range m ws₁ low high =
      record { few = ready.few; long = omega (arith, ready.sound.chained.long, first.size); upward = up; within = inside } in
      let second' = subst (λ k. Renumbered m ws₁ k (suc (place o a)) ws₂) p (subst (λ k. Renumbered m ws₁ low (suc k) ws₂) q (seats range₁ perm)) in
      placed (fed_by m ws (place o a) s) tells near flags found count whole' ws₁ first' ws₂ second'
