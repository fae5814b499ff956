-- What feeds what in the netlist that an edit asks for.
use Rattle.std.proofs.Common.{◌≡◌, ℕ, zero, suc, ◌<◌, ◌≤◌, ◌⊎◌, List, [], ◌∷◌, length, take, set, sym, refl, ap, subst, inl, inr, ⊎_elim, arith}
use Rattle.std.proofs.lemmas.Bool.{cases_eq, cases_lt}
use Rattle.std.proofs.lemmas.List.{get_or-set_same, get_or-set_other}
use Rattle.reach.specs.Reach.{Among}
use Rattle.netlist.specs.declared.edit.Edit.{Edit}
use Rattle.netlist.specs.declared.edit.Edit.TheVariants.{Input, Output, Gate, Latch, Delete, Move}
use Rattle.netlist.specs.Netlist.{Netlist, Driver, Signal, absent, input, gate, latch, driver_of, pins_of, feeders, Feeds, unused}
use Rattle.netlist.specs.Places.{Order, place, Ordered, OrderedBut}
use Rattle.netlist.specs.Edits.{repinned, asked, placed, puts_of, signal_of, Beyond, named, PinBeyond}

-- a change at s changes no other driver
set_other : (n : Netlist) (s t : ℕ) (x : Signal) → (t ≡ s → ⊥) → driver_of (set n s x) t ≡ driver_of n t
set_other n s t x ne = ap (λ y. y.driver) (get_or-set_other n s t x unused ne)

set_here : (n : Netlist) (s : ℕ) (x : Signal) → s < length n → driver_of (set n s x) s ≡ x.driver
set_here n s x lt = ap (λ y. y.driver) (get_or-set_same n s x unused lt)

pub asked_other : (n : Netlist) (e : Edit) (t : ℕ) → (t ≡ signal_of e → ⊥) → driver_of (asked n e) t ≡ driver_of n t
asked_other n (Input s) t ne = set_other n s t _ ne
asked_other n (Output s v) t ne = set_other n s t _ ne
asked_other n (Gate s k nets table) t ne = set_other n s t _ ne
asked_other n (Latch s net start) t ne = set_other n s t _ ne
asked_other n (Delete s) t ne = set_other n s t _ ne
asked_other n (Move s i a) t ne = set_other n s t _ ne

among_set : (xs : List ℕ) (i a x : ℕ) → Among x (set xs i a) → (x ≡ a) ⊎ Among x xs
among_set [] i a x h = absurd h
among_set (y ∷ xs) zero a x (inl e) = inl e
among_set (y ∷ xs) zero a x (inr h) = inr (inr h)
among_set (y ∷ xs) (suc i) a x (inl e) = inr (inl e)
among_set (y ∷ xs) (suc i) a x (inr h) = ⊎_elim (λ e. inl e) (λ g. inr (inr g)) (among_set xs i a x h)

moved-feeds : (d : Driver) (i a x : ℕ) → Among x (feeders (repinned d i a)) → Among x (placed d a) ⊎ Among x (feeders d)
moved-feeds absent i a x h = absurd h
moved-feeds input i a x h = absurd h
moved-feeds (gate t on) i a x h = ⊎_elim (λ e. inl (inl e)) (λ g. inr g) (among_set on i a x h)
moved-feeds (latch v b) i a x h = absurd h

-- what feeds the signal of an edit then: a signal that a pin is put on, or what fed it before
here_feeds : (n : Netlist) (e : Edit) (x : ℕ) → signal_of e < length n → Feeds (asked n e) x (signal_of e) → Among x (puts_of n e) ⊎ Feeds n x (signal_of e)
here_feeds n (Input s) x lt h = absurd (subst (λ d. Among x (feeders d)) (set_here n s _ lt) h)
here_feeds n (Output s v) x lt h = inr (subst (λ d. Among x (feeders d)) (set_here n s _ lt) h)
here_feeds n (Gate s k nets table) x lt h = inl (subst (λ d. Among x (feeders d)) (set_here n s _ lt) h)
here_feeds n (Latch s net start) x lt h = absurd (subst (λ d. Among x (feeders d)) (set_here n s _ lt) h)
here_feeds n (Delete s) x lt h = absurd (subst (λ d. Among x (feeders d)) (set_here n s _ lt) h)
here_feeds n (Move s i a) x lt h = moved-feeds (driver_of n s) i a x (subst (λ d. Among x (feeders d)) (set_here n s _ lt) h)

-- a signal that a pin is put on feeds the signal of the edit then
among_set_here : (xs : List ℕ) (i a : ℕ) → i < length xs → Among a (set xs i a)
among_set_here [] i a lt = absurd (omega arith)
among_set_here (x ∷ xs) zero a lt = inl refl
among_set_here (x ∷ xs) (suc i) a lt = inr (among_set_here xs i a (omega arith))

moved_here : (d : Driver) (i a x : ℕ) → (length (pins_of d) ≤ i → ⊥) → Among x (placed d a) → Among x (feeders (repinned d i a))
moved_here absent i a x has h = absurd h
moved_here input i a x has h = absurd h
moved_here (gate t on) i a x has (inl e) =
    subst (λ y. Among y (set on i a)) (sym e) (among_set_here on i a (⊎_elim (λ lt. lt) (λ le. absurd (has le)) (cases_lt i (length on))))
moved_here (gate t on) i a x has (inr h) = absurd h
moved_here (latch v b) i a x has h = absurd h

pub puts_feed : (n : Netlist) (e : Edit) (x : ℕ) → signal_of e < length n → (PinBeyond n e → ⊥) → Among x (puts_of n e) → Feeds (asked n e) x (signal_of e)
puts_feed n (Input s) x lt has h = absurd h
puts_feed n (Output s v) x lt has h = absurd h
puts_feed n (Gate s k nets table) x lt has h = subst (λ d. Among x (feeders d)) (sym (set_here n s _ lt)) h
puts_feed n (Latch s net start) x lt has h = absurd h
puts_feed n (Delete s) x lt has h = absurd h
puts_feed n (Move s i a) x lt has h = subst (λ d. Among x (feeders d)) (sym (set_here n s _ lt)) (moved_here (driver_of n s) i a x has h)

-- the nets that a pin is put on count
placed_net : (d : Driver) (a x : ℕ) → Among x (placed d a) → x ≡ a
placed_net absent a x h = absurd h
placed_net input a x h = absurd h
placed_net (gate t on) a x (inl e) = e
placed_net (gate t on) a x (inr h) = absurd h
placed_net (latch v b) a x h = absurd h

not_beyond : (m : ℕ) (xs : List ℕ) (x : ℕ) → (Beyond m xs → ⊥) → Among x xs → x < m
not_beyond m [] x nb h = absurd h
not_beyond m (y ∷ xs) x nb (inl e) = ⊎_elim (λ lt. lt) (λ le. absurd (nb (inl (subst (λ z. m ≤ z) e le)))) (cases_lt x m)
not_beyond m (y ∷ xs) x nb (inr h) = not_beyond m xs x (λ b. nb (inr b)) h

pub puts_below : (m : ℕ) (n : Netlist) (e : Edit) (x : ℕ) → (Beyond m (named e) → ⊥) → Among x (puts_of n e) → x < m
puts_below m n (Input s) x nb h = absurd h
puts_below m n (Output s v) x nb h = absurd h
puts_below m n (Gate s k nets table) x nb h = not_beyond m (take k nets) x (λ b. nb (inr b)) h
puts_below m n (Latch s net start) x nb h = absurd h
puts_below m n (Delete s) x nb h = absurd h
puts_below m n (Move s i a) x nb h = not_beyond m (a ∷ []) x (λ b. nb (inr b)) (inl (placed_net (driver_of n s) a x h))

-- every gate but that of the edit stands behind what feeds it, as before
pub asked-others : (n : Netlist) (o : Order) (e : Edit) → Ordered n o → OrderedBut (signal_of e) (asked n e) o
asked-others n o e ordered a t h ne = ordered a t (subst (λ d. Among a (feeders d)) (asked_other n e t ne) h)

-- with all pins put, so does that gate
pub asked_ordered : (n : Netlist) (o o' : Order) (e : Edit) → signal_of e < length n → Ordered n o → OrderedBut (signal_of e) (asked n e) o'
    → ((x : ℕ) → place o x < place o (signal_of e) → place o' x < place o' (signal_of e))
    → ((x : ℕ) → Among x (puts_of n e) → place o' x < place o' (signal_of e)) → Ordered (asked n e) o'
asked_ordered n o o' e lt ordered others stays before a t h =
    ⊎_elim
    (λ same.
    let here : Feeds (asked n e) a (signal_of e) = subst (λ x. Feeds (asked n e) a x) same h in
    subst (λ x. place o' a < place o' x) (sym same) (⊎_elim (λ put. before a put) (λ old. stays a (ordered a (signal_of e) old)) (here_feeds n e a lt here)))
    (λ ne. others a t h ne)
    (cases_eq t (signal_of e))
