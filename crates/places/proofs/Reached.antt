-- What the search over the gates fed reaches, and the loop that it shows.
use Rattle.std.proofs.Common.{◌≡◌, ℕ, ◌<◌, ◌≤◌, List, [], ◌∷◌, sym, subst, inl, inr, ⊎_elim, arith}
use Rattle.std.proofs.lemmas.Bool.{cases_eq}
use Rattle.reach.specs.Reach.{Among, Follows, Reach, Way}
use Rattle.reach.specs.Reach.Reach.{here as start, onward as told-on}
use Rattle.netlist.specs.Netlist.{Feeds, Leads, Different, Feeding, Loop}
use Rattle.netlist.specs.Netlist.Leads.{here as same, onward as fed-on}
use Rattle.netlist.specs.Places.{place, OrderedBut}
use Rattle.board.specs.Board.{netlist_of, order_of}
use Rattle.board.specs.Fanout.{TellsFed}

module _
    (m : ℕ) (ws : List ℕ) (upto s : ℕ) (told : ℕ → List ℕ) (tells : TellsFed m ws upto s told) (few : m ≤ 1024) (gate : s < m)
    (ordered : OrderedBut s (netlist_of m ws) (order_of m ws)) where
  -- a gate that is told stands behind what told it
  told-behind : (x y : ℕ) → x < m → Follows told x y → place (order_of m ws) x < place (order_of m ws) y
  told-behind x y lt f = ordered x y (tells.feeds x y lt f) (tells.other x y lt f)

  pub reach_leads : (near : place (order_of m ws) s ≤ upto) (y : ℕ) → Reach told s y → (y < m) × Leads (netlist_of m ws) s y × (place (order_of m ws) y ≤ upto)
  reach_leads near y (start lt) = (gate, same, near)
  reach_leads near y (told-on {a = x} r f) =
      let before = reach_leads near x r in
      (tells.signal x y before.0 f, fed-on before.1 (tells.feeds x y before.0 f), tells.near x y before.0 f)

  pub leads_reach : (near : place (order_of m ws) s ≤ upto) (y : ℕ) → Leads (netlist_of m ws) s y → place (order_of m ws) y ≤ upto → Reach told s y
  leads_reach near y same le = start (omega arith)
  leads_reach near y (fed-on {b = x} l f) le =
      ⊎_elim
      (λ e. subst (Reach told s) (sym e) (start (omega arith)))
      (λ ne.
      let before = ordered x y f ne in
      let r = leads_reach near x l (omega arith) in
      let follows = tells.all x y (reach_leads near x r).0 f le ne in
      told-on r follows)
      (cases_eq y s)

  -- ---- a way from the gate to the signal is a loop

  -- what comes later on a way stands behind
  way_behind : (x b : ℕ) (xs : List ℕ) → x < m → Way told x b (x ∷ xs) → (z : ℕ) → Among z xs → place (order_of m ws) x < place (order_of m ws) z
  way_behind x b [] lt w z a = absurd a
  way_behind x b (y ∷ ys) lt w z (inl e) = subst (λ t. place (order_of m ws) x < place (order_of m ws) t) (sym e) (told-behind x y lt w.1)
  way_behind x b (y ∷ ys) lt w z (inr a) =
      let here = told-behind x y lt w.1 in
      let later = way_behind y b ys (tells.signal x y lt w.1) w.2 z a in
      omega arith

  way_different : (x b : ℕ) (xs : List ℕ) → x < m → Way told x b (x ∷ xs) → Different (x ∷ xs)
  way_different x b [] lt w = (λ a. a, tt)
  way_different x b (y ∷ ys) lt w = (
    λ a. let behind = way_behind x b (y ∷ ys) lt w x a in omega arith,
    way_different y b ys (tells.signal x y lt w.1) w.2,
  )

  way_feeding : (x b end : ℕ) (xs : List ℕ) → x < m → Way told x b (x ∷ xs) → Feeds (netlist_of m ws) b end → Feeding (netlist_of m ws) (x ∷ xs) end
  way_feeding x b end [] lt w f = subst (λ z. Feeds (netlist_of m ws) z end) (sym w.1) f
  way_feeding x b end (y ∷ ys) lt w f = (tells.feeds x y lt w.1, way_feeding y b end ys (tells.signal x y lt w.1) w.2 f)

  begins : (x b : ℕ) (xs : List ℕ) → Way told s b (x ∷ xs) → x ≡ s
  begins x b [] w = w.0
  begins x b (y ∷ ys) w = w.0

  pub way_loop : (a : ℕ) (xs : List ℕ) → Feeds (netlist_of m ws) a s → Way told s a xs → Loop (netlist_of m ws) xs
  way_loop a [] on w = absurd w
  way_loop a (x ∷ xs) on w =
      let e = begins x a xs w in
      let lt : x < m = subst (λ z. z < m) (sym e) gate in
      let way = subst (λ z. Way told z a (x ∷ xs)) (sym e) w in
      (way_different x a xs lt way, way_feeding x a x xs lt way (subst (Feeds (netlist_of m ws) a) (sym e) on))
