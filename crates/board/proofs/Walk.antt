-- The walk up a chain to the place of a pin, and what the calls that change a chain leave.
use Rattle.std.proofs.Common.{◌≡◌, ℕ, zero, suc, ◌-◌, ◌*◌, ◌<◌, ◌≤◌, List, sym, ap, ◌∙◌, subst, ⊎_elim, arith}
use Rattle.std.proofs.lemmas.Bool.{cases_eq}
use Rattle.board.specs.Layout.{pin, next, back}
use Rattle.board.specs.Chain.{Least, Greatest, Chained, Repins}
use Rattle.board.specs.Links.{inserted, removed}
use Rattle.board.proofs.Rows.{On}
use Rattle.board.proofs.Linked.{enter_repins, leave_repins}

-- The walk has come to a link of the chain no further than pin q, and has read what comes after it.
pub record Walked (m : ℕ) (ws : List ℕ) (q s before behind : ℕ) : Type 0 where
  pub on : On (pin m ws) (4 * m) (suc s) before
  pub under : before ≤ q
  pub after : Least (pin m ws) (4 * m) (suc s) before behind

-- from q on is from behind q on, where q is not among them
past_pin : (P : ℕ → ℕ) (top v q d : ℕ) → (P q ≡ v → ⊥) → Least P top v q d → Least P top v (suc q) d
past_pin P top v q zero off h = λ x le lt e. h x (omega arith) lt e
past_pin P top v q (suc p) off h = (
  ⊎_elim (λ e. absurd (off (ap P e ∙ h.2))) (λ ne. omega (arith, h.0)) (cases_eq q p),
  h.1,
  h.2,
  λ x le lt e. h.3 x (omega arith) lt e,
)

-- ---- the calls

pub attached : (m : ℕ) (ws ws' : List ℕ) (q s b d : ℕ) → ws' ≡ inserted m ws q s b d
    → (Chained m ws → q < 4 * m → s < m → Greatest (pin m ws) (suc s) q b × Least (pin m ws) (4 * m) (suc s) q d)
    → Chained m ws → q < 4 * m → s < m → pin m ws q ≡ 0 → Repins m ws q (suc s) ws'
attached m ws ws' q s b d is gap chained q-low s_low was =
    let found = gap chained q-low s_low in
    subst (Repins m ws q (suc s)) (sym is)
    (enter_repins m ws q s b d chained q-low s_low was found.0
    (past_pin (pin m ws) (4 * m) (suc s) q d (λ e. let k : 0 ≡ suc s = sym was ∙ e in omega arith) found.1))

pub detached : (m : ℕ) (ws ws' : List ℕ) (q on b d : ℕ) → 0 < on → on ≡ pin m ws q → b ≡ back m ws q → d ≡ next m ws q
    → ws' ≡ removed m ws q (on - 1) b d → Chained m ws → q < 4 * m → Repins m ws q 0 ws'
detached m ws ws' q on b d some on-is b-is d-is is chained q-low =
    let s : suc (on - 1) ≡ on = omega arith in
    subst (Repins m ws q 0) (sym (is ∙ (λ i. removed m ws q (on - 1) (b-is i) (d-is i))))
    (leave_repins m ws q (on - 1) chained q-low (sym on-is ∙ sym s))
