-- The netlist and the order that every editor has, whatever calls were made.
use Rattle.std.proofs.Common.{ℕ, zero, suc, List, refl, sym, subst, ⊎_elim, arith}
use Rattle.std.proofs.lemmas.Bool.{cases_lt}
use Rattle.std.proofs.lemmas.List.{nil_from_length}
use Rattle.words.specs.Meaning.{Meaning}
use Rattle.reach.specs.Reach.{Among}
use Rattle.netlist.specs.Netlist.{driver_of, feeders, Whole}
use Rattle.board.specs.Board.{netlist_of}
use Rattle.board.specs.Standing.{Stands, Fitting}
use Rattle.board.proofs.Signals.{driver-at, driver_past}
use Rattle.editor.specs.Calls.{oldest}
use Rattle.editor.specs.State.{Reached}
use Rattle.editor.specs.Steps.{InOrder}
use Rattle.editor.proofs.Wholeness.{whole_of}

-- words of no signals
pub stands_none : (ws : List ℕ) → Stands 0 ws
stands_none ws = record {
  sound = record {
    chained = record {
      long = omega arith;
      within = λ q lt. absurd (omega arith);
      firsts = λ a lt. absurd (omega arith);
      nexts = λ q lt some. absurd (omega arith);
      backs = λ q lt some. absurd (omega arith);
    };
    spelled = λ s i lt few. absurd (omega arith);
    seated = λ s lt. absurd (omega arith);
  };
  permutes = record { long = refl; each = λ s lt. absurd (omega arith); below = λ p lt. absurd (omega arith); once = λ p lt. absurd (omega arith) };
  ordered = λ a s h. absurd (subst (λ d. Among a (feeders d)) (driver_past 0 ws s (omega arith)) h);
  fits = λ s lt. absurd (omega arith);
}

pub reached_stands : (m : ℕ) (a : Meaning) → Reached m a → Stands m a.image
reached_stands zero a reached = stands_none a.image
reached_stands (suc m) a reached = let (log, led) = reached (omega arith) in led.present.stands

reached_whole : (m : ℕ) (a : Meaning) → Reached m a → Whole (netlist_of m (oldest a.image a.saved))
reached_whole zero a reached = whole_of 0 (oldest a.image a.saved) (stands_none (oldest a.image a.saved)).sound (λ h. absurd (let lt = h.1.signal in omega arith))
reached_whole (suc m) a reached = let (log, led) = reached (omega arith) in led.whole

fitting : (m : ℕ) (ws : List ℕ) → Stands m ws → (s : ℕ) → Fitting (driver_of (netlist_of m ws) s)
fitting m ws stands s =
    ⊎_elim (λ lt. subst Fitting (sym (driver-at m ws s lt)) (stands.fits s lt)) (λ le. subst Fitting (sym (driver_past m ws s le)) tt) (cases_lt s m)

pub in_order : (m : ℕ) (a : Meaning) → Reached m a → InOrder m a
in_order m a reached =
    let stands = reached_stands m a reached in
    record {
      permutes = stands.permutes;
      ordered = stands.ordered;
      fits = fitting m a.image stands;
      whole = λ shut. subst (λ saved. Whole (netlist_of m (oldest a.image saved))) (nil_from_length a.saved shut) (reached_whole m a reached);
    }
