-- A batch on the empty board of five signals, with D = 3.
use Rattle.std.proofs.Common.{◌≡◌, ℕ, zero, suc, ◌+◌, ◌-◌, ◌*◌, ◌<◌, ◌≤◌, ◌⊎◌, List, [], ◌∷◌, ◌++◌, length, get_or, set, replicate, Ok, refl, ap, ◌∙◌, inl, inr, ⊎_elim, arith}
use Rattle.std.proofs.lemmas.List.{get_or-replicate, get_or_past, length-replicate, length-append, get_or_append_left, get_or-append_right}
use Rattle.std.proofs.lemmas.Bool.{cases_lt}
use Rattle.words.specs.Meaning.{Meaning, opened}
use Rattle.netlist.specs.declared.edit.Edit.TheVariants.{Input}
use Rattle.netlist.specs.Edits.{asked}
use Rattle.board.specs.Layout.{word, seat, holder}
use Rattle.board.specs.Board.{netlist_of, order_of}
use Rattle.editor.specs.declared.call.Call.TheVariants.{Begin}
use Rattle.editor.specs.Log.{Entry, Led}
use Rattle.editor.specs.Laws.{Fresh}
use Rattle.editor.proofs.Laid.{laid_board, laid_stands}
use Rattle.editor.proofs.Led.{led_start, led_begin, entry}

abbrev middle : List ℕ
middle = 0 ∷ 1 ∷ 2 ∷ 3 ∷ 4 ∷ 0 ∷ 1 ∷ 2 ∷ 3 ∷ 4 ∷ []

-- five signals, each at its own place, in 144 words
unfoldable pub image₅ : List ℕ
image₅ = replicate 15 0 ++ (middle ++ replicate 119 0)

always_zero : (n k : ℕ) → ◌≡◌ {A = ℕ} (get_or (replicate n 0) k 0) 0
always_zero n k = ⊎_elim (λ lt. get_or-replicate n k 0 0 lt) (λ le. get_or_past (replicate n 0) k 0 (omega (arith, length-replicate {A = ℕ} n 0))) (cases_lt k n)

zeros : (at : ℕ) → (at < 15) ⊎ (25 ≤ at) → word image₅ at ≡ 0
unfolding image₅
zeros at (inl lt) = get_or_append_left (replicate 15 0) (middle ++ replicate 119 0) 0 at (omega (arith, length-replicate {A = ℕ} 15 0)) ∙ always_zero 15 at
zeros at (inr le) =
    get_or-append_right (replicate 15 0) (middle ++ replicate 119 0) 15 at 0 (length-replicate {A = ℕ} 15 0) (omega arith)
    ∙ get_or-append_right middle (replicate 119 0) 10 (at - 15) 0 refl (omega arith) ∙ always_zero 119 (at - 15 - 10)

part : (k : ℕ) → k < 10 → word image₅ (15 + k) ≡ get_or middle k 0
unfolding image₅
part k lt =
    get_or-append_right (replicate 15 0) (middle ++ replicate 119 0) 15 (15 + k) 0 (length-replicate {A = ℕ} 15 0) (omega arith)
    ∙ get_or_append_left middle (replicate 119 0) 0 (15 + k - 15) (omega arith) ∙ (let e : 15 + k - 15 ≡ k = omega arith in ap (λ x. get_or middle x 0) e)

low : (s : ℕ) → s < 5 → get_or middle s 0 ≡ s
low zero lt = refl
low (suc zero) lt = refl
low (suc (suc zero)) lt = refl
low (suc (suc (suc zero))) lt = refl
low (suc (suc (suc (suc zero)))) lt = refl
low (suc (suc (suc (suc (suc s))))) lt = absurd (omega arith)

high : (s : ℕ) → s < 5 → get_or middle (5 + s) 0 ≡ s
high s lt = get_or-append_right (0 ∷ 1 ∷ 2 ∷ 3 ∷ 4 ∷ []) (0 ∷ 1 ∷ 2 ∷ 3 ∷ 4 ∷ []) 5 (5 + s) 0 refl (omega arith)
    ∙ (let e : 5 + s - 5 ≡ s = omega arith in ap (λ x. get_or (0 ∷ 1 ∷ 2 ∷ 3 ∷ 4 ∷ []) x 0) e) ∙ again s lt where
      again : (s : ℕ) → s < 5 → get_or (0 ∷ 1 ∷ 2 ∷ 3 ∷ 4 ∷ []) s 0 ≡ s
      again zero lt = refl
      again (suc zero) lt = refl
      again (suc (suc zero)) lt = refl
      again (suc (suc (suc zero))) lt = refl
      again (suc (suc (suc (suc zero)))) lt = refl
      again (suc (suc (suc (suc (suc s))))) lt = absurd (omega arith)

seats : (s : ℕ) → s < 5 → seat 5 image₅ s ≡ s
seats s lt = let e : 3 * 5 + s ≡ 15 + s = omega arith in ap (word image₅) e ∙ part s (omega arith) ∙ low s lt

holders : (p : ℕ) → p < 5 → holder 5 image₅ p ≡ p
holders p lt = let e : 4 * 5 + p ≡ 15 + (5 + p) = omega arith in ap (word image₅) e ∙ part (5 + p) (omega arith) ∙ high p lt

long : 18 * 5 ≤ length image₅
unfolding image₅
long = omega (arith, length-append (replicate 15 0) (middle ++ replicate 119 0), length-append middle (replicate 119 0), length-replicate {A = ℕ} 15 0, length-replicate {A = ℕ} 119 0)

zeros₅ : (at : ℕ) → (at < 3 * 5) ⊎ (5 * 5 ≤ at) → word image₅ at ≡ 0
zeros₅ at h = zeros at (⊎_elim (λ lt. inl (omega arith)) (λ le. inr (omega arith)) h)

unfoldable pub start₅ : Meaning
start₅ = record { limit = 3; image = image₅; saved = [] }

unfoldable pub batch₅ : Meaning
batch₅ = opened start₅

pub log₅ : List Entry
log₅ = entry Begin (Ok 0) ∷ []

pub fresh₅ : Fresh log₅ batch₅
unfolding start₅ batch₅ log₅
fresh₅ =
    let start : Led 5 [] start₅ =
    led_start 5 start₅ (omega arith) (omega arith) (omega arith) refl (laid_stands 5 image₅ long zeros₅ seats holders) (laid_board 5 image₅ long zeros₅ seats holders) in
    record {
      led = led_begin 5 [] start₅ (opened start₅) 0 refl refl start;
      limit = refl;
      batch = refl;
      empty = ap (λ b. b.netlist) (laid_board 5 image₅ long zeros₅ seats holders);
    }

-- the words with signal 0 as an input
pub entered₅ : (ws : List ℕ) × ((netlist_of 5 ws ≡ asked (netlist_of 5 batch₅.image) (Input 0)) × (order_of 5 ws ≡ order_of 5 batch₅.image))
unfolding start₅ batch₅ image₅
entered₅ = (set image₅ 0 1, (refl, refl))
