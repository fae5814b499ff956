-- Decimal numbers and lines, read from their front.
use Rattle.std.proofs.Common.{◌≡◌, ◌≢◌, ◌==◌, ℕ, zero, suc, ◌+◌, ◌-◌, ◌*◌, ◌<◌, ◌≤◌, List, [], ◌∷◌, ◌++◌, length, get_or, take, drop, position, Some, None, codes, Option, sym, refl, ap, ◌∙◌, subst, arith, MatchOption}
use Rattle.std.proofs.lemmas.Bool.Decides.{nat_tests}
use Rattle.std.proofs.lemmas.List.{length-append, get_or_at, get_or_append_left, take_at, drop_at, drop-drop, drop_more, take-append-drop}
use Rattle.std.proofs.lemmas.List.Quantifiers.{position-Some}
use Rattle.std.proofs.lemmas.List.Sums.{position_or_len_is}
use Rattle.std.proofs.lemmas.Option.{same_Some}
use Rattle.store_script.specs.declared.command.Command.{Command}
use Rattle.store_script.specs.declared.command.Command.TheVariants.{Set, Open, Keep, Drop, Show}
use Rattle.store_script.specs.Commands.{Digits, Decimal, Operands, SetOperands, Spells}

-- more digits say no less
pub digits_grow : (bs : List ℕ) (before n : ℕ) → Digits bs before n → before ≤ n
digits_grow [] before n h = omega arith
digits_grow (b ∷ bs) before n h = let more = digits_grow bs (before * 10 + (b - 48)) n h.2 in omega arith

-- ---- operands

-- digits hold no blank
no_blank : (bs : List ℕ) (before n k : ℕ) → Digits bs before n → k < length bs → get_or bs k 0 ≢ 32
no_blank [] before n k h within is = absurd (omega arith)
no_blank (b ∷ bs) before n zero h within is = omega (arith, h.0)
no_blank (b ∷ bs) before n (suc k) h within is = no_blank bs (before * 10 + (b - 48)) n k h.2 (omega arith) is

abbrev pub blank_of : List ℕ → Option ℕ
blank_of text = position (λ b. b == 32) text

-- so the first blank parts them
module _ (text : List ℕ) (at word : ℕ) (said : Operands text at word) where
  abbrev width : ℕ
  width = length said.first

  within : width < length text
  within = omega (arith, ap length said.parted, length-append said.first (32 ∷ said.second))

  at_width : get_or text width 0 ≡ 32
  at_width = ap (λ xs. get_or xs width 0) said.parted ∙ get_or_at said.first 32 said.second 0 width refl

  before_width : (k : ℕ) → k < width → get_or text k 0 ≢ 32
  before_width k less is =
      no_blank said.first 0 at k said.number.1 less
      (sym (ap (λ xs. get_or xs k 0) said.parted ∙ get_or_append_left said.first (32 ∷ said.second) 0 k less) ∙ is)

  pub blank_is : blank_of text ≡ Some width
  blank_is =
      let first = position_or_len_is (λ b. b == 32) text width 0 (omega (arith, within)) (λ k less. grind (arith, nat_tests, before_width k less)) (λ _. grind (arith, nat_tests, at_width)) in
      grind (arith, nat_tests, first, within)

  module _ (blank : ℕ) (found : blank_of text ≡ Some blank) where
    same : blank ≡ width
    same = same_Some _ _ (sym found ∙ blank_is)

    pub first_is : take blank text ≡ said.first
    first_is = ap (λ n. take n text) same ∙ ap (take width) said.parted ∙ take_at said.first (32 ∷ said.second) width refl

    pub second_is : drop (blank + 1) text ≡ said.second
    second_is =
        ap (λ n. drop (n + 1) text) same ∙ sym (drop-drop 1 width text) ∙ ap (λ xs. drop 1 (drop width xs)) said.parted
        ∙ ap (drop 1) (drop_at said.first (32 ∷ said.second) width refl)

pub operands : (text : List ℕ) (blank at word : ℕ) → blank_of text ≡ Some blank → Decimal (take blank text) at → Decimal (drop (blank + 1) text) word → Operands text at word
operands text blank at word found number value =
    let h = position-Some (λ b. b == 32) text blank 0 found in
    let is : get_or text blank 0 ≡ 32 = grind (arith, nat_tests, h.1) in
    record {
      first = take blank text;
      second = drop (blank + 1) text;
      parted = sym (take-append-drop blank text) ∙ ap (λ xs. take blank text ++ xs) (drop_more text blank 0 h.0 ∙ ap (λ b. b ∷ drop (blank + 1) text) is);
      number = number;
      value = value;
    }

-- ---- lines

-- a line that begins with `set ` is no other command
set_alone : (rest : List ℕ) (c : Command) → Spells (codes "set " ++ rest) c → (at : ℕ) × (word : ℕ) × Operands rest at word
set_alone rest (Set at word) (text, is, said) = (at, word, subst (λ xs. Operands xs at word) (sym (ap (drop 4) is)) said)
set_alone rest Open h = absurd (omega (arith, ap (λ xs. get_or xs 0 0) h))
set_alone rest Keep h = absurd (omega (arith, ap (λ xs. get_or xs 0 0) h))
set_alone rest Drop h = absurd (omega (arith, ap (λ xs. get_or xs 0 0) h))
set_alone rest Show h = absurd (omega (arith, ap (λ xs. get_or xs 1 0) h))

-- and says what its operands say
pub spelled : (line rest : List ℕ) (r : Option Command) → line ≡ codes "set " ++ rest
    → MatchOption r ((at word : ℕ) → Operands rest at word → ⊥) (λ c. SetOperands rest c)
    → MatchOption r ((c : Command) → Spells line c → ⊥) (λ c. Spells line c)
spelled line rest None is none =
    λ c h. let said = set_alone rest c (subst (λ xs. Spells xs c) is h) in none said.0 said.1 said.2
spelled line rest (Some (Set at word)) is h = (rest, is, h)
spelled line rest (Some Open) is h = absurd h
spelled line rest (Some Keep) is h = absurd h
spelled line rest (Some Drop) is h = absurd h
spelled line rest (Some Show) is h = absurd h
