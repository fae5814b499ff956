-- The words of an empty netlist, written one after the other.
use Rattle.std.proofs.Common.{◌≡◌, ℕ, ◌+◌, ◌*◌, ◌<◌, ◌≤◌, ◌⊎◌, List, length, set, sym, refl, ap, ◌∙◌, subst, ⊎_elim, arith}
use Rattle.std.proofs.lemmas.List.{get_or-set_same, get_or-set_other, length-set}
use Rattle.std.proofs.lemmas.Bool.{cases_eq}
use Rattle.words.specs.Meaning.{Meaning, size, wrote}
use Rattle.netlist.specs.Edits.{empty_board}
use Rattle.board.specs.Layout.{word}
use Rattle.board.specs.Board.{board_of}
use Rattle.board.specs.Standing.{Stands}
use Rattle.board.specs.Stored.{Cleared}
use Rattle.editor.specs.Making.{Seated}
use Rattle.editor.proofs.Laid.{laid_stands, laid_board}

pub size_more : (a b c : Meaning) (at w : ℕ) → c ≡ wrote b at w → size b ≡ size a → size c ≡ size a
size_more a b c at w e h = ap size e ∙ length-set b.image at w ∙ h

-- ---- each signal at its own place

pub seated_none : (m : ℕ) (ws : List ℕ) → Seated m 0 ws ws
seated_none m ws = record { seats = λ s lt. absurd (omega arith); holders = λ p lt. absurd (omega arith); others = λ at h. refl }

pub seated_more : (m n : ℕ) (ws : List ℕ) (b c d : Meaning) (x y : ℕ) → n < m → 5 * m ≤ size b → c ≡ wrote b x n → d ≡ wrote c y n → x ≡ 3 * m + n
    → y ≡ 4 * m + n → Seated m n ws b.image → Seated m (n + 1) ws d.image
seated_more m n ws b c d x y lt long e f is_x is_y h =
    let image : d.image ≡ set (set b.image x n) y n = ap (λ z. z.image) f ∙ ap (λ z. set z.image y n) e in
    let below-x : x < length b.image = omega arith in
    let below-y : y < length (set b.image x n) = omega (arith, length-set b.image x n) in
    let told : (at : ℕ) → (at ≡ x → ⊥) → (at ≡ y → ⊥) → word d.image at ≡ word b.image at =
    λ at p q. ap (λ l. word l at) image ∙ get_or-set_other (set b.image x n) y at n 0 q ∙ get_or-set_other b.image x at n 0 p in
    record {
      seats = λ s less.
          ⊎_elim
          (λ same.
          let is : 3 * m + s ≡ x = omega arith in
          ap (word d.image) is ∙ ap (λ l. word l x) image ∙ get_or-set_other (set b.image x n) y x n 0 (λ q. omega arith) ∙ get_or-set_same b.image x n 0 below-x
          ∙ sym same)
          (λ other. told (3 * m + s) (λ q. omega arith) (λ q. omega arith) ∙ h.seats s (omega arith))
          (cases_eq s n);
      holders = λ p less.
          ⊎_elim
          (λ same.
          let is : 4 * m + p ≡ y = omega arith in
          ap (word d.image) is ∙ ap (λ l. word l y) image ∙ get_or-set_same (set b.image x n) y n 0 below-y ∙ sym same)
          (λ other. told (4 * m + p) (λ q. omega arith) (λ q. omega arith) ∙ h.holders p (omega arith))
          (cases_eq p n);
      others = λ at out.
          told at (⊎_elim (λ l q. omega arith) (λ r q. omega arith) out) (⊎_elim (λ l q. omega arith) (λ r q. omega arith) out) ∙ h.others at out;
    }

pub seated_all : (m n : ℕ) (ws ws' : List ℕ) → n ≤ m → m ≤ n → Seated m n ws ws' → Seated m m ws ws'
seated_all m n ws ws' le ge h = let e : n ≡ m = omega arith in subst (λ k. Seated m k ws ws') e h

-- ---- both

pub empty_laid : (m : ℕ) (a b c : Meaning) → Cleared a b → (5 * m ≤ size b → Seated m m b.image c.image) → size c ≡ size b → 24 * m + 24 ≤ size a
    → Stands m c.image × (board_of m c.image ≡ empty_board m)
empty_laid m a b c cleared seats long room =
    let seated : Seated m m b.image c.image = seats (omega (arith, cleared.long)) in
    let enough : 18 * m ≤ length c.image = omega (arith, cleared.long) in
    let zeros : (at : ℕ) → (at < 3 * m) ⊎ (5 * m ≤ at) → word c.image at ≡ 0 = λ at out. seated.others at out ∙ cleared.zero at in (
      laid_stands m c.image enough zeros seated.seats seated.holders,
      laid_board m c.image enough zeros seated.seats seated.holders,
    )
