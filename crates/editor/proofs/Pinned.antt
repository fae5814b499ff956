-- The signals that four pins are on, one after the other.
use Rattle.std.proofs.Common.{◌≡◌, ℕ, zero, suc, ◌+◌, ◌-◌, ◌<◌, ◌≤◌, List, [], ◌∷◌, ◌++◌, length, get_or, drop, sym, refl, ap, ◌∙◌, subst, ⊎_elim, arith}
use Rattle.std.proofs.lemmas.List.{append-nil, append_assoc, length-append, length-take-le, drop_all, drop_more, get_or-take, ext_get_or}
use Rattle.std.proofs.lemmas.Bool.{cases_lt}
use Rattle.board.specs.Board.{nets}
use Rattle.editor.specs.declared.questions.Pins.{Pins}
use Rattle.editor.specs.Questions.{AreOn}

-- ---- pins on some signals

count_on : (p : Pins) (on : List ℕ) → AreOn p on → p.count ≡ length on
count_on p on h = sym (length-take-le p.count p.nets (omega (arith, h.few, h.room))) ∙ ap length h.nets

net_on : (p : Pins) (on : List ℕ) (k : ℕ) → AreOn p on → k < p.count → get_or p.nets k 0 ≡ get_or on k 0
net_on p on k h lt = sym (get_or-take p.count p.nets k 0 lt) ∙ ap (λ l. get_or l k 0) h.nets

same_nets : (x y : Pins) (on : List ℕ) → x.count ≡ y.count → AreOn x on → AreOn y on → (k : ℕ) → get_or x.nets k 0 ≡ get_or y.nets k 0
same_nets x y on counts h g k =
    ⊎_elim (λ below. net_on x on k h below ∙ sym (net_on y on k g (omega (arith, below, counts))))
    (λ past. h.rest k past ∙ sym (g.rest k (omega (arith, past, counts))))
    (cases_lt k x.count)

-- only these pins are on these signals
pub one_pins : (x y : Pins) (on : List ℕ) → AreOn x on → AreOn y on → x ≡ y
one_pins x y on h g =
    let counts : x.count ≡ y.count = count_on x on h ∙ sym (count_on y on g) in
    let same : x.nets ≡ y.nets = ext_get_or 0 x.nets y.nets (h.room ∙ sym g.room) (λ k lt. same_nets x y on counts h g k) in
    λ i. record { count = counts i; nets = same i }

-- ---- the words of pins

-- So many words are read, and none of them is 0: the pins are on these signals, and the others follow.
pub record Got (words : List ℕ) (pins : Pins) (i : ℕ) : Type 0 where
  pub on : List ℕ
  pub are : AreOn pins on
  pub told : on ++ nets (drop i words) ≡ nets words
  pub many : pins.count ≡ i

nets_some : (w : ℕ) (ws : List ℕ) → 1 ≤ w → nets (w ∷ ws) ≡ (w - 1) ∷ nets ws
nets_some zero ws some = absurd (omega arith)
nets_some (suc w) ws some = let e : w ≡ suc w - 1 = omega arith in ap (λ x. x ∷ nets ws) e

nets-end : (w : ℕ) (ws : List ℕ) → w ≡ 0 → nets (w ∷ ws) ≡ []
nets-end w ws e = ap (λ x. nets (x ∷ ws)) e

pub got_none : (words : List ℕ) (p : Pins) → AreOn p [] → Got words p 0
got_none words p h = record { on = []; are = h; told = refl; many = count_on p [] h }

module _ (words : List ℕ) (p : Pins) (i : ℕ) where
  pub got_more : (q : Pins) (net : ℕ) → i < length words → 1 ≤ get_or words i 0 → net ≡ get_or words i 0 - 1
      → ((on : List ℕ) → AreOn p on → AreOn q (on ++ net ∷ [])) → Got words p i → Got words q (i + 1)
  got_more q net lt some is more h = record {
    on = h.on ++ net ∷ [];
    are = more h.on h.are;
    told =
        append_assoc h.on (net ∷ []) (nets (drop (i + 1) words))
        ∙ ap (λ x. h.on ++ (x ∷ nets (drop (i + 1) words))) is
        ∙ ap (λ l. h.on ++ l) (sym (ap nets (drop_more words i 0 lt) ∙ nets_some (get_or words i 0) (drop (i + 1) words) some))
        ∙ h.told;
    many =
        omega (arith, count_on q (h.on ++ net ∷ []) (more h.on h.are), length-append h.on (net ∷ []), count_on p h.on h.are, h.many);
  }

  pub got_end : i < length words → get_or words i 0 ≡ 0 → Got words p i → AreOn p (nets words)
  got_end lt z h =
      subst (AreOn p)
      (sym (append-nil h.on) ∙ ap (λ l. h.on ++ l) (sym (ap nets (drop_more words i 0 lt) ∙ nets-end (get_or words i 0) (drop (i + 1) words) z)) ∙ h.told)
      h.are

  pub got_all : length words ≤ i → Got words p i → AreOn p (nets words)
  got_all ge h = subst (AreOn p) (sym (append-nil h.on) ∙ ap (λ l. h.on ++ nets l) (sym (drop_all i words ge)) ∙ h.told) h.are

-- the first of them alone
pub first-net : (words : List ℕ) → get_or words 0 0 - 1 ≡ get_or (nets words) 0 0
first-net [] = refl
first-net (zero ∷ words) = refl
first-net (suc a ∷ words) = omega arith
