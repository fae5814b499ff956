-- Where what moves is the gate and all that is reached from it up to the signal, the order that the rule gives is an order again.
use Rattle.std.proofs.Common.{◌≡◌, ℕ, ◌<◌, ◌≤◌, Bool, true, false, not, eqb, List, length, get_or, sym, ap, ◌∙◌, ⊎_elim, arith}
use Rattle.std.proofs.lemmas.List.{get_or_past}
use Rattle.std.proofs.lemmas.Bool.{cases_lt}
use Rattle.reach.specs.Flags.{marked}
use Rattle.netlist.specs.Netlist.{Netlist, Leads}
use Rattle.netlist.specs.Netlist.Leads.{here, onward}
use Rattle.netlist.specs.Places.{Order, place, those, Arranges, OrderedBut, Moves}
use Rattle.places.specs.Refill.{flagged, filled}
use Rattle.places.proofs.Standing.{in_place}
use Rattle.places.proofs.Filled.{permutes_different, filled-before, filled-behind}
use Rattle.places.proofs.Counting.{marked-those, those_alike, flagged-up, flagged-set}

-- What moves: all that is reached and stands no further than the signal.
pub record Moving (n : Netlist) (o : Order) (s a : ℕ) (f : ℕ → Bool) : Type 0 where
  pub reached : (x : ℕ) → f x ≡ true → Leads n s x
  pub upto : (x : ℕ) → f x ≡ true → place o x ≤ place o a
  pub all : (x : ℕ) → Leads n s x → place o x ≤ place o a → f x ≡ true

module _ (n : Netlist) (m : ℕ) (o : Order) (s a : ℕ) (perm : Arranges m o) (near : place o s ≤ place o a) (within : place o a < m) where
  module _ (f : ℕ → Bool) (moves : Moving n o s a f) where
    gate-moves : f s ≡ true
    gate-moves = moves.all s here near

    pub moved-others : OrderedBut s n o → OrderedBut s n (filled f o (place o s) (place o a))
    moved-others ordered x t feeds other =
        filled-before m o (place o s) (place o a) perm near within f x t (ordered x t feeds other)
        (λ e le. moves.all t (onward (moves.reached x e) feeds) le)

    pub moved_stays : (x : ℕ) → place o x < place o s → place (filled f o (place o s) (place o a)) x < place (filled f o (place o s) (place o a)) s
    moved_stays x lt = filled-before m o (place o s) (place o a) perm near within f x s lt (λ e le. gate-moves)

    pub moved_before : f a ≡ false → place (filled f o (place o s) (place o a)) a < place (filled f o (place o s) (place o a)) s
    moved_before stays =
        filled-behind m o (place o s) (place o a) perm near within f a s stays gate-moves near (omega arith) (omega arith) near

  module _ (flags : List ℕ) (long : length flags ≡ 1024) (moves : Moving n o s a (flagged flags)) where
    moved-count : marked flags ≡ length (those (flagged flags) o)
    moved-count =
        marked-those o flags (permutes_different m o perm)
        (λ x lit.
        ⊎_elim
        (λ lt. in_place o x (omega (arith, moves.upto x (flagged-set flags x lt lit), within, perm.long)))
        (λ le. absurd (lit (get_or_past flags x 0 (omega arith))))
        (cases_lt x 1024))
        ∙ ap length (those_alike (λ x. not (eqb (get_or flags x 0) 0)) (flagged flags) o (λ x among. sym (flagged-up flags long x)))

    pub moved_order : (o' : Order) (count : ℕ) → o' ≡ filled (flagged flags) o (place o s) (place o a) → count ≡ marked flags → Moves n o s a o' count
    moved_order o' count is counted =
        record {
          moving = flagged flags;
          reached = λ x e. (moves.reached x e, moves.upto x e);
          all = moves.all;
          filled = is;
          counts = counted ∙ moved-count;
        }
