-- The bytes through a line that a word opens, a line at a time.
use Rattle.std.proofs.Common.{◌≡◌, ℕ, ◌+◌, ◌<◌, min, true, false, cond, List, [], ◌∷◌, length, take, drop, sym, ap, ◌∙◌, ⊎_elim, arith, length-drop}
use Rattle.std.proofs.lemmas.Bool.{cases_lt}
use Rattle.std.proofs.lemmas.List.{drop-drop, drop_all, length-take-le}
use Rattle.text.specs.Rules.{Rules}
use Rattle.text.specs.Lines.{lines}
use Rattle.text.specs.Front.{opens_with_lem, through}
use Rattle.text.proofs.Cuts.{Step, lines_more}

-- where the line ends that is looked for from `at` on
abbrev pub goal_from : Rules → List ℕ → List ℕ → ℕ → ℕ
goal_from k w text at = at + min (through k w (lines (drop at text))) (length (drop at text))

module _ (k : Rules) (w : List ℕ) {text : List ℕ} {at m next : ℕ} {after raw : List ℕ} (s : Step text at m next after raw) where
  long : length raw ≡ m
  long = ap length s.cut ∙ length-take-le m after s.within

  this : through k w (lines (drop at text)) ≡ length raw + 1 + cond (opens_with_lem k w raw) 0 (through k w (lines (drop (m + 1) after)))
  this =
      let size = ap length s.is ∙ length-drop at text in
      let some : 0 < length after = omega (arith, s.inside) in
      ap (λ l. through k w (lines l)) (sym s.is) ∙ ap (through k w) (lines_more after some ∙ ap (λ j. take j after ∷ lines (drop (j + 1) after)) (sym s.stops) ∙ ap (λ l. l ∷ lines (drop (m + 1) after)) (sym s.cut))

  pub ends : opens_with_lem k w raw ≡ true → next ≡ goal_from k w text at
  ends e =
      let here : through k w (lines (drop at text)) ≡ length raw + 1 + 0 = this ∙ ap (λ b. length raw + 1 + cond b 0 (through k w (lines (drop (m + 1) after)))) e in
      let size = ap length s.is in
      omega (arith, here, long, size, s.on)

  pub goes : opens_with_lem k w raw ≡ false → goal_from k w text next ≡ goal_from k w text at
  goes e =
      let here : through k w (lines (drop at text)) ≡ length raw + 1 + through k w (lines (drop (m + 1) after)) = this ∙ ap (λ b. length raw + 1 + cond b 0 (through k w (lines (drop (m + 1) after)))) e in
      let size = ap length s.is in
      let all = size ∙ length-drop at text in
      ⊎_elim
      (λ h.
      let gone : drop (m + 1) after ≡ [] = drop_all (m + 1) after (omega arith) in
      let end : drop next text ≡ [] = drop_all next text (omega (arith, s.on, s.inside)) in
      let none : through k w (lines (drop next text)) ≡ 0 = ap (λ l. through k w (lines l)) end in
      let none' : through k w (lines (drop (m + 1) after)) ≡ 0 = ap (λ l. through k w (lines l)) gone in
      let short : length (drop next text) ≡ 0 = ap length end in
      omega (arith, here, none, none', short, long, size, s.on))
      (λ h.
      let there : at + (m + 1) ≡ next = omega (arith, s.on) in
      let same : drop (m + 1) after ≡ drop next text = ap (drop (m + 1)) s.is ∙ drop-drop (m + 1) at text ∙ ap (λ j. drop j text) there in
      let back : through k w (lines (drop (m + 1) after)) ≡ through k w (lines (drop next text)) = ap (λ l. through k w (lines l)) same in
      let rest = ap length (sym same) ∙ length-drop (m + 1) after in
      omega (arith, here, back, rest, long, size, there))
      (cases_lt (length after) (m + 1))

pub none_left : (k : Rules) (w text : List ℕ) (at : ℕ) → length text < at + 1 → at ≡ goal_from k w text at
none_left k w text at h =
    let end : drop at text ≡ [] = drop_all at text (omega arith) in
    let none : through k w (lines (drop at text)) ≡ 0 = ap (λ l. through k w (lines l)) end in
    omega (arith, none)

pub from_start : (k : Rules) (w text : List ℕ) → goal_from k w text 0 ≡ min (through k w (lines text)) (length text)
from_start k w text = omega arith
