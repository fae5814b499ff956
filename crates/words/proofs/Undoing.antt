-- Notes taken back.
use Rattle.std.proofs.Common.{◌≡◌, ℕ, zero, suc, ◌<◌, List, ◌∷◌, length, get_or, set, sym, refl, ap, ◌∙◌, ⊎_elim, arith}
use Rattle.std.proofs.lemmas.List.{set-set, set_comm, length-set}
use Rattle.std.proofs.lemmas.Bool.{cases_eq}
use Rattle.words.specs.InverseLog.{word_at, value_at, undo, pile, HasNoted}

-- the same notes take back the same
pub undo-same : (ws ws' : List ℕ) (n level c : ℕ)
    → ((i : ℕ) → i < c → word_at ws' n level i ≡ word_at ws n level i) → ((i : ℕ) → i < c → value_at ws' n level i ≡ value_at ws n level i)
    → (image : List ℕ) → undo ws' n level c image ≡ undo ws n level c image
undo-same ws ws' n level zero words values image = refl
undo-same ws ws' n level (suc c) words values image =
    ap (undo ws' n level c) (λ i. set image (words c (omega arith) i) (values c (omega arith) i))
    ∙ undo-same ws ws' n level c (λ i h. words i (omega arith)) (λ i h. values i (omega arith)) (set image (word_at ws n level c) (value_at ws n level c))

-- a word that is noted is taken back, whatever it holds
pub undo_noted : (ws : List ℕ) (n level c w v : ℕ) (image : List ℕ) → HasNoted ws n level c w → undo ws n level c (set image w v) ≡ undo ws n level c image
undo_noted ws n level zero w v image (i, below, is) = absurd (omega arith)
undo_noted ws n level (suc c) w v image (i, below, is) =
    ⊎_elim
    (λ same. ap (undo ws n level c) (ap (λ k. set (set image k v) (word_at ws n level c) (value_at ws n level c)) (sym same) ∙ set-set image (word_at ws n level c) v (value_at ws n level c)))
    (λ other.
    let earlier : i < c = ⊎_elim (λ last. absurd (other (ap (word_at ws n level) (sym last) ∙ is))) (λ ne. omega arith) (cases_eq i c) in
    ap (undo ws n level c) (set_comm image w (word_at ws n level c) v (value_at ws n level c) (λ e. other (sym e)))
    ∙ undo_noted ws n level c w v (set image (word_at ws n level c) (value_at ws n level c)) (i, earlier, is))
    (cases_eq (word_at ws n level c) w)

pub length-undo : (ws : List ℕ) (n level c : ℕ) (image : List ℕ) → length (undo ws n level c image) ≡ length image
length-undo ws n level zero image = refl
length-undo ws n level (suc c) image =
    length-undo ws n level c (set image (word_at ws n level c) (value_at ws n level c)) ∙ length-set image (word_at ws n level c) (value_at ws n level c)

-- levels that take back the same have saved the same images
pub pile-same : (ws ws' : List ℕ) (n : ℕ) (noted noted' : List ℕ) (k : ℕ)
    → ((level : ℕ) → level < k → (image : List ℕ) → undo ws' n level (get_or noted' level 0) image ≡ undo ws n level (get_or noted level 0) image)
    → (image : List ℕ) → pile ws' n noted' k image ≡ pile ws n noted k image
pile-same ws ws' n noted noted' zero same image = refl
pile-same ws ws' n noted noted' (suc k) same image =
    let here = same k (omega arith) image in
    ap (λ im. im ∷ pile ws' n noted' k im) here
    ∙ ap (λ older. undo ws n k (get_or noted k 0) image ∷ older) (pile-same ws ws' n noted noted' k (λ level below. same level (omega arith)) (undo ws n k (get_or noted k 0) image))

pub length-pile : (ws : List ℕ) (n : ℕ) (noted : List ℕ) (k : ℕ) (image : List ℕ) → length (pile ws n noted k image) ≡ k
length-pile ws n noted zero image = refl
length-pile ws n noted (suc k) image = ap suc (length-pile ws n noted k (undo ws n k (get_or noted k 0) image))
