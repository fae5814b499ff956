-- Writes one after the other change nothing but words of the present image.
use Rattle.std.proofs.Common.{◌≡◌, ℕ, ◌+◌, ◌<◌, ◌≤◌, List, length, set, refl, ap, ◌∙◌, ⊎_elim, arith}
use Rattle.std.proofs.lemmas.List.{get_or_past, get_or-set_same, get_or-set_other, length-set}
use Rattle.std.proofs.lemmas.Bool.{cases_eq, cases_lt}
use Rattle.board.specs.Layout.{word}
use Rattle.board.specs.Stored.{Stored, reworded, Stays, OnlyWords, Cleared}

pub stays-refl : (b : Stored) → Stays b b
stays-refl b = record { signals = refl; size = refl; behind = refl }

pub stays-trans : (a b c : Stored) → Stays a b → Stays b c → Stays a c
stays-trans a b c h k = record { signals = k.signals ∙ h.signals; size = k.size ∙ h.size; behind = k.behind ∙ h.behind }

pub only_words-refl : (b : Stored) → OnlyWords b b
only_words-refl b = record { stays = stays-refl b; inside = record { levels = refl; limit = refl } }

pub only_words-trans : (a b c : Stored) → OnlyWords a b → OnlyWords b c → OnlyWords a c
only_words-trans a b c h k = record {
  stays = stays-trans a b c h.stays k.stays;
  inside = record { levels = k.inside.levels ∙ h.inside.levels; limit = k.inside.limit ∙ h.inside.limit };
}

-- as many words in place of those that there are
pub only_words-reworded : (a b : Stored) (ws : List ℕ) → length ws ≡ length a.words.image → b ≡ reworded a ws → OnlyWords a b
only_words-reworded a b ws long is = record {
  stays = record { signals = ap (λ x. x.signals) is; size = ap (λ x. length x.words.image) is ∙ long; behind = ap (λ x. x.lent) is };
  inside = record { levels = ap (λ x. x.words.saved) is; limit = ap (λ x. x.words.limit) is };
}

-- one word
pub only_words-set : (a b : Stored) (at w : ℕ) → b ≡ reworded a (set a.words.image at w) → OnlyWords a b
only_words-set a b at w is = only_words-reworded a b (set a.words.image at w) (length-set a.words.image at w) is

-- ---- every word 0

word_here : (ws : List ℕ) (at : ℕ) → word (set ws at 0) at ≡ 0
word_here ws at =
    ⊎_elim (λ lt. get_or-set_same ws at 0 0 lt) (λ le. get_or_past (set ws at 0) at 0 (omega (arith, length-set ws at 0))) (cases_lt at (length ws))

pub zeros_more : (ws : List ℕ) (at : ℕ) → ((k : ℕ) → k < at → word ws k ≡ 0) → (k : ℕ) → k < at + 1 → word (set ws at 0) k ≡ 0
zeros_more ws at h k lt =
    ⊎_elim
    (λ same. ap (word (set ws at 0)) same ∙ word_here ws at)
    (λ other. get_or-set_other ws at k 0 0 other ∙ h k (omega arith))
    (cases_eq k at)

pub zeros_all : (a b : Stored) (at : ℕ) → OnlyWords a b → length b.words.image ≡ length a.words.image → ((k : ℕ) → k < at → word b.words.image k ≡ 0)
    → length a.words.image ≤ at → Cleared a.words b.words
zeros_all a b at only long h le = record {
  inside = only.inside;
  long = long;
  zero = λ k. ⊎_elim (λ lt. h k lt) (λ past. get_or_past b.words.image k 0 (omega arith)) (cases_lt k at);
}
