-- The rules of edits leave one outcome.
use Rattle.std.proofs.Common.{◌≡◌, ℕ, suc, cond, not, eqb, List, [], ◌∷◌, ◌++◌, length, take, drop, Ok, Err, sym, refl, ap, ◌∙◌, subst, ⊎_elim, arith}
use Rattle.std.proofs.lemmas.Bool.{cases_lt, cases_order}
use Rattle.std.specs.Cmp.{both_ways}
use Rattle.netlist.specs.declared.edit.Refusal.{Refusal}
use Rattle.netlist.specs.declared.edit.Refusal.TheVariants.{NoEditor, NoBatch, BatchOpen, NoSuchSignal, OutOfRange, Driven, NotDriven, NoSuchPin, InUse, NoLevelForMark, NoMark, MarkOpen, AbsentInUse, Looped}
use Rattle.netlist.specs.Refusals.{number}
use Rattle.netlist.specs.Netlist.{Netlist}
use Rattle.netlist.specs.Places.{Order, place, those, segment, Moves, Puts, PutsAll}
use Rattle.netlist.specs.Edits.{Board, asked, puts_of, signal_of}
use Rattle.netlist.specs.Laws.{EditsDetermined}

-- ---- places

module _ (n : Netlist) (o : Order) (s a : ℕ) where
  moving-same : (o₁ o₂ : Order) (c₁ c₂ : ℕ) (h : Moves n o s a o₁ c₁) (g : Moves n o s a o₂ c₂) → (x : ℕ) → h.moving x ≡ g.moving x
  moving-same o₁ o₂ c₁ c₂ h g x =
      both_ways (h.moving x) (g.moving x)
      (λ e. let r = h.reached x e in g.all x r.0 r.1) (λ e. let r = g.reached x e in h.all x r.0 r.1)

  moves_determined : (o₁ o₂ : Order) (c₁ c₂ : ℕ) → Moves n o s a o₁ c₁ → Moves n o s a o₂ c₂ → (o₁ ≡ o₂) × (c₁ ≡ c₂)
  moves_determined o₁ o₂ c₁ c₂ h g =
      let same = moving-same o₁ o₂ c₁ c₂ h g in
      let xs = segment o (place o s) (place o a) in
      let move : those h.moving xs ≡ those g.moving xs = λ i. those (λ x. same x i) xs in
      let stay : those (λ x. not (h.moving x)) xs ≡ those (λ x. not (g.moving x)) xs = λ i. those (λ x. not (same x i)) xs in (
        h.filled ∙ (λ i. take (place o s) o ++ (stay i ++ (move i ++ drop (suc (place o a)) o))) ∙ sym g.filled,
        h.counts ∙ (λ i. length (those (λ x. same x i) o)) ∙ sym g.counts,
      )

  puts_determined : (o₁ o₂ : Order) (c₁ c₂ : ℕ) → Puts n o s a o₁ c₁ → Puts n o s a o₂ c₂ → (o₁ ≡ o₂) × (c₁ ≡ c₂)
  puts_determined o₁ o₂ c₁ c₂ h g =
      ⊎_elim
      (λ before. let x = h.0 before in let y = g.0 before in (x.0 ∙ sym y.0, x.1 ∙ sym y.1))
      (λ behind. moves_determined o₁ o₂ c₁ c₂ (h.1 behind) (g.1 behind))
      (cases_lt (place o a) (place o s))

all_determined : (n : Netlist) (s : ℕ) (nets : List ℕ) (o p o₁ o₂ : Order) (c₁ c₂ : ℕ) → o ≡ p → PutsAll n o s nets o₁ c₁ → PutsAll n p s nets o₂ c₂ → (o₁ ≡ o₂) × (c₁ ≡ c₂)
all_determined n s [] o p o₁ o₂ c₁ c₂ e h g = (h.0 ∙ e ∙ sym g.0, h.1 ∙ sym g.1)
all_determined n s (a ∷ nets) o p o₁ o₂ c₁ c₂ e (m₁, k₁, t₁, put₁, rest₁, sum₁) (m₂, k₂, t₂, put₂, rest₂, sum₂) =
    let one = puts_determined n p s a m₁ m₂ k₁ k₂ (subst (λ q. Puts n q s a m₁ k₁) e put₁) put₂ in
    let more = all_determined n s nets m₁ m₂ o₁ o₂ t₁ t₂ one.0 rest₁ rest₂ in
    (more.0, omega (arith, one.1, more.1, sum₁, sum₂))

-- ---- replies

-- the refusal that has a number
abbrev refusal_of : ℕ → Refusal
refusal_of k = cond (eqb k 1) NoEditor (cond (eqb k 10) NoBatch (cond (eqb k 11) BatchOpen (cond (eqb k 12) NoSuchSignal (cond (eqb k 13) OutOfRange (cond (eqb k 14) Driven (cond (eqb k 15) NotDriven (cond (eqb k 16) NoSuchPin (cond (eqb k 19) InUse (cond (eqb k 20) NoLevelForMark (cond (eqb k 21) NoMark (cond (eqb k 22) MarkOpen (cond (eqb k 24) AbsentInUse (Looped)))))))))))))

refusal-of : (r : Refusal) → refusal_of (number r) ≡ r
refusal-of NoEditor = refl
refusal-of NoBatch = refl
refusal-of BatchOpen = refl
refusal-of NoSuchSignal = refl
refusal-of OutOfRange = refl
refusal-of Driven = refl
refusal-of NotDriven = refl
refusal-of NoSuchPin = refl
refusal-of InUse = refl
refusal-of NoLevelForMark = refl
refusal-of NoMark = refl
refusal-of MarkOpen = refl
refusal-of AbsentInUse = refl
refusal-of Looped = refl

pub same-refusal : (r t : Refusal) → number r ≡ number t → r ≡ t
same-refusal r t e = sym (refusal-of r) ∙ ap refusal_of e ∙ refusal-of t

same_board : {b c : Board} → b.netlist ≡ c.netlist → b.order ≡ c.order → b ≡ c
same_board p q = λ i. record { netlist = p i; order = q i }

pub edits_determined : EditsDetermined
edits_determined m levels b e b₁ b₂ (Ok c₁) (Ok c₂) h g =
    let places = all_determined (asked b.netlist e) (signal_of e) (puts_of b.netlist e) b.order b.order b₁.order b₂.order c₁ c₂ refl h.2 g.2 in
    (same_board (h.1 ∙ sym g.1) places.0, ap Ok places.1)
edits_determined m levels b e b₁ b₂ (Ok c₁) (Err t) h g = absurd (h.0 (number t) g.0)
edits_determined m levels b e b₁ b₂ (Err r) (Ok c₂) h g = absurd (g.0 (number r) h.0)
edits_determined m levels b e b₁ b₂ (Err r) (Err t) h g =
    let same : number r ≡ number t =
    ⊎_elim (λ q. q) (⊎_elim (λ less. absurd (g.1 (number r) less h.0)) (λ more. absurd (h.1 (number t) more g.0))) (cases_order (number r) (number t)) in
    (h.2 ∙ sym g.2, ap Err (same-refusal r t same))
