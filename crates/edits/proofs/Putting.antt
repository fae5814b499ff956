-- Pins put in turn: what one more put adds.
use Rattle.std.proofs.Common.{◌≡◌, ℕ, zero, suc, ◌+◌, ◌*◌, ◌<◌, ◌≤◌, min, Bool, ◌⊎◌, List, [], ◌∷◌, ◌++◌, length, get_or, take, sym, refl, ap, ◌∙◌, subst, inl, inr, ⊎_elim, arith}
use Rattle.std.proofs.lemmas.Bool.{cases_lt, cases_Bool, cond-true, cond-false}
use Rattle.std.proofs.lemmas.List.{take_more, take_all}
use Rattle.reach.specs.Reach.{Among}
use Rattle.netlist.specs.Netlist.{Netlist, Feeds}
use Rattle.netlist.specs.Places.{Order, place, those, OrderedBut, Moves, Puts, PutsAll}
use Rattle.board.specs.Board.{netlist_of, order_of}
use Rattle.places.specs.Put.{Ready, Places}
use Rattle.edits.specs.Puts.{ReadyAll, PlacedAll}

puts_more : (n : Netlist) (s : ℕ) (on : List ℕ) (o o₁ o₂ : Order) (t a c : ℕ) → PutsAll n o s on o₁ t → Puts n o₁ s a o₂ c → PutsAll n o s (on ++ a ∷ []) o₂ (t + c)
puts_more n s [] o o₁ o₂ t a c h p =
    (o₂, c, 0, subst (λ x. Puts n x s a o₂ c) h.0 p, (refl, refl), omega (arith, h.1))
puts_more n s (b ∷ on) o o₁ o₂ t a c (between, count, rest, one, others, sum) p =
    (between, count, rest + c, one, puts_more n s on between o₁ o₂ rest a c others p, omega (arith, sum))

among_push : (on : List ℕ) (a x : ℕ) → Among x (on ++ a ∷ []) → Among x on ⊎ (x ≡ a)
among_push [] a x (inl e) = inr e
among_push [] a x (inr h) = absurd h
among_push (b ∷ on) a x (inl e) = inl (inl e)
among_push (b ∷ on) a x (inr h) = ⊎_elim (λ y. inl (inr y)) (λ e. inr e) (among_push on a x h)

pub placed-none : (m : ℕ) (ws : List ℕ) (s : ℕ) (on : List ℕ) → ReadyAll m ws s on → PlacedAll m ws s [] ws 0
placed-none m ws s on r = record {
  puts = (refl, refl);
  sound = r.sound;
  permutes = r.permutes;
  netlist = refl;
  others = r.others;
  stays = λ x h. h;
  before = λ a h. absurd h;
}

module _ (m : ℕ) (ws : List ℕ) (s : ℕ) (on done : List ℕ) (ws' : List ℕ) (t : ℕ) (r : ReadyAll m ws s on) (h : PlacedAll m ws s done ws' t) where
  pub placed_ready : (a : ℕ) → Among a on → Ready m ws' s a
  placed_ready a among = record {
    few = r.few;
    sound = h.sound;
    permutes = h.permutes;
    gate = r.gate;
    net = r.nets a among;
    on = subst (λ n. Feeds n a s) (sym h.netlist) (r.feeds a among);
    others = subst (λ n. OrderedBut s n (order_of m ws')) (sym h.netlist) h.others;
  }

  pub placed_more : (a c : ℕ) (ws'' : List ℕ) → Places m ws' s a ws'' c → PlacedAll m ws s (done ++ a ∷ []) ws'' (t + c)
  placed_more a c ws'' p = record {
    puts = puts_more (netlist_of m ws) s done (order_of m ws) (order_of m ws') (order_of m ws'') t a c h.puts (subst (λ n. Puts n (order_of m ws') s a (order_of m ws'') c) h.netlist p.puts);
    sound = p.sound;
    permutes = p.permutes;
    netlist = p.netlist ∙ h.netlist;
    others = subst (λ n. OrderedBut s n (order_of m ws'')) h.netlist p.others;
    stays = λ x lt. p.stays x (h.stays x lt);
    before = λ x among. ⊎_elim (λ old. p.stays x (h.before x old)) (λ e. subst (λ y. place (order_of m ws'') y < place (order_of m ws'') s) (sym e) p.before) (among_push done a x among);
  }

those_few : (f : ℕ → Bool) (xs : List ℕ) → length (those f xs) ≤ length xs
those_few f [] = omega arith
those_few f (x ∷ xs) =
    let rest : length (those f xs) ≤ length xs = those_few f xs in
    ⊎_elim
    (λ e. let here : those f (x ∷ xs) ≡ x ∷ those f xs = cond-true (f x) _ _ e in omega (arith, ap length here))
    (λ e. let here : those f (x ∷ xs) ≡ those f xs = cond-false (f x) _ _ e in omega (arith, ap length here))
    (cases_Bool (f x))

-- a put moves no more signals than there are
pub puts_few : (n : Netlist) (o : Order) (s a : ℕ) (o' : Order) (c : ℕ) → Puts n o s a o' c → c ≤ length o
puts_few n o s a o' c h =
    ⊎_elim
    (λ lt. omega (arith, (h.0 lt).1))
    (λ le.
    let g : Moves n o s a o' c = h.1 le in
    let few : length (those g.moving o) ≤ length o = those_few g.moving o in
    omega (arith, g.counts))
    (cases_lt (place o a) (place o s))

-- ---- the nets of an array, one after the other

pub among_at : (xs : List ℕ) (i : ℕ) → i < length xs → Among (get_or xs i 0) xs
among_at [] i lt = absurd (omega arith)
among_at (x ∷ xs) zero lt = inl refl
among_at (x ∷ xs) (suc i) lt = inr (among_at xs i (omega arith))

-- so many are put, and the sum is small enough to be counted
pub record PutSoFar (m : ℕ) (ws : List ℕ) (s : ℕ) (nets : List ℕ) (i : ℕ) (ws' : List ℕ) (total : ℕ) : Type 0 where
  pub placed : PlacedAll m ws s (take i nets) ws' total
  pub small : total ≤ i * 1024

pub so_far_more : (m : ℕ) (ws : List ℕ) (s : ℕ) (nets : List ℕ) (i : ℕ) (ws' ws'' : List ℕ) (total moved sum : ℕ) → length nets ≤ 4 → i < length nets
    → ReadyAll m ws s nets → PutSoFar m ws s nets i ws' total → (Ready m ws' s (get_or nets i 0) → Places m ws' s (get_or nets i 0) ws'' moved)
    → sum ≡ min (total + moved) 4294967295 → PutSoFar m ws s nets (i + 1) ws'' sum
so_far_more m ws s nets i ws' ws'' total moved sum four lt r h put e =
    let p : Places m ws' s (get_or nets i 0) ws'' moved = put (placed_ready m ws s nets (take i nets) ws' total r h.placed (get_or nets i 0) (among_at nets i lt)) in
    let few : moved ≤ length (order_of m ws') = puts_few (netlist_of m ws') (order_of m ws') s (get_or nets i 0) (order_of m ws'') moved p.puts in
    let most : moved ≤ 1024 = omega (arith, h.placed.permutes.long, r.few) in
    let low : total ≤ i * 1024 = h.small in
    let all : sum ≡ total + moved = omega arith in
    record {
      placed = subst (λ xs. PlacedAll m ws s xs ws'' sum) (sym (take_more nets i 0 (omega arith)))
          (subst (λ x. PlacedAll m ws s (take i nets ++ get_or nets i 0 ∷ []) ws'' x) (sym all) (placed_more m ws s nets (take i nets) ws' total r h.placed (get_or nets i 0) moved ws'' p));
      small = omega arith;
    }

pub so_far_none : (m : ℕ) (ws : List ℕ) (s : ℕ) (nets : List ℕ) → ReadyAll m ws s nets → PutSoFar m ws s nets 0 ws 0
so_far_none m ws s nets r = record { placed = placed-none m ws s nets r; small = omega arith }

pub so_far_all : (m : ℕ) (ws : List ℕ) (s : ℕ) (nets : List ℕ) (i : ℕ) (ws' : List ℕ) (total : ℕ) → i ≡ length nets → PutSoFar m ws s nets i ws' total → PlacedAll m ws s nets ws' total
so_far_all m ws s nets i ws' total e h = subst (λ xs. PlacedAll m ws s xs ws' total) (take_all i nets (omega arith)) h.placed
