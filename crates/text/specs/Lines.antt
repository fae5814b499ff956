-- The lines of a text, and what each holds.
use Rattle.std.specs.Prelude.{◌≡◌, ℕ, ◌+◌, Bool, true, false, cond, List, [], ◌∷◌, ◌++◌, map, length, drop, min, Some, None, Ok, Err, vec_items, Option, Result, Vec, ◌==◌, nat_le, slice_get}
use Rattle.std.specs.List.{list_all}
use Rattle.std.specs.declared.alloc.Global.{Global}
use Rattle.text.specs.Rules.{Rules, allowed}
use Rattle.text.specs.Words.{Part, spelled, words, fits}
use Rattle.text.specs.declared.words.Word.{Word}
use Rattle.text.specs.declared.words.Line.{Line}
use Rattle.text.specs.Numbers.{text_fault}
use Rattle.text.specs.declared.faults.LineFault.{LineFault}
use Rattle.text.specs.declared.faults.ReadFault.{ReadFault}
use Rattle.text.specs.declared.faults.ReadFault.TheVariants.{Text, Memory}

-- what a comment leaves of a line: the bytes before the first `#` (35)
abbrev pub shown : List ℕ → List ℕ
shown [] = []
shown (b ∷ bs) = cond (b == 35) [] (b ∷ shown bs)

-- the number of what is wrong with a line, by whether its bytes are all allowed and whether its words all fit:
-- a wrong byte (31) anywhere in it comes before a wrong word (32)
abbrev pub first_wrong : Bool → Bool → Option ℕ
first_wrong false t = Some 31
first_wrong true false = Some 32
first_wrong true true = None

-- what is wrong with a line: the number of the fault, and the first byte of the line's first word, if it has one
pub record Wrong : Type 0 where
  pub number : ℕ
  pub first_byte : Option ℕ

abbrev pub wrong : ℕ → Option ℕ → Wrong
wrong f b = record { number = f; first_byte = b }

-- the first byte of the first word, whatever stands in it
abbrev pub opening : List Part → Option ℕ
opening [] = None
opening (w ∷ ws) = slice_get w.bytes 0

abbrev pub verdict : Option ℕ → List Part → Result (List Part) Wrong
verdict None ws = Ok ws
verdict (Some f) ws = Err (wrong f (opening ws))

-- the words of line n, which begins at `at`, or what is wrong with it
abbrev pub judged : Rules → ℕ → ℕ → List ℕ → Result (List Part) Wrong
judged k n at bs =
    verdict
    (first_wrong (list_all (allowed k) (shown bs)) (list_all (λ p. fits p.bytes) (words k n at (shown bs))))
    (words k n at (shown bs))

-- the line is right and holds words
abbrev pub Wordy : Result (List Part) Wrong → Type 0
Wordy (Ok []) = ⊥
Wordy (Ok (w ∷ ws)) = Unit {0}
Wordy (Err f) = ⊥

-- what a fault of the code says
abbrev pub wrong_of : LineFault → Wrong
wrong_of f = wrong (text_fault f.fault) f.first_byte

-- what the code answers for line n where j is right: want of memory hides no fault
abbrev pub Found : Result (List Part) Wrong → ℕ → Result (Vec Word Global) ReadFault → Type 0
Found j n (Ok v) = j ≡ Ok (map spelled (vec_items v))
Found j n (Err (Text f)) = (j ≡ Err (wrong_of f)) × (f.line ≡ n)
Found j n (Err Memory) = Wordy j

-- b goes in front of the first line, which there may not be yet
abbrev pub begins : ℕ → List (List ℕ) → List (List ℕ)
begins b [] = (b ∷ []) ∷ []
begins b (l ∷ ls) = (b ∷ l) ∷ ls

-- the lines of a text, each without the byte 10 that ends it: the last may lack it
abbrev pub lines : List ℕ → List (List ℕ)
lines [] = []
lines (b ∷ bs) = cond (b == 10) ([] ∷ lines bs) (begins b (lines bs))

-- a line that counts, by its number: it holds words, or it is faulty
pub data Item : Type 0 where
  holds : ℕ → List Part → Item
  faulty : ℕ → Wrong → Item

-- a line that is left without words is skipped
abbrev pub item : ℕ → Result (List Part) Wrong → List Item
item n (Ok []) = []
item n (Ok (w ∷ ws)) = holds n (w ∷ ws) ∷ []
item n (Err f) = faulty n f ∷ []

-- the lines that count, where the first has the number n and begins at `at`
abbrev pub items : Rules → ℕ → ℕ → List (List ℕ) → List Item
items k n at [] = []
items k n at (l ∷ ls) = item n (judged k n at l) ++ items k (n + 1) (at + length l + 1) ls

-- what a text holds from `at` on, where line n begins
abbrev pub rest : Rules → List ℕ → ℕ → ℕ → List Item
rest k text at n = items k n at (lines (drop at text))

-- the same of a text that may have `limit` bytes: over that it is refused (30) before any line
abbrev pub left : Rules → ℕ → List ℕ → ℕ → ℕ → List Item
left k limit text at n = cond (nat_le (length text) limit) (rest k text at n) (faulty 0 (wrong 30 None) ∷ [])

-- what a text holds: every line that counts, in order, with its number, counted from 1. No limit is over 1,048,576 bytes
abbrev pub contents : Rules → ℕ → List ℕ → List Item
contents k limit text = left k (min limit 1048576) text 0 1

abbrev pub first : List Item → Option Item
first [] = None
first (i ∷ is) = Some i

-- what a line of the code holds
abbrev pub told : Line → Item
told l = holds l.number (map spelled (vec_items l.words))

-- and a fault of the code
abbrev pub told_fault : LineFault → Item
told_fault f = faulty f.line (wrong_of f)

-- the next line that counts holds words
abbrev pub Ready : List Item → Type 0
Ready [] = ⊥
Ready (holds n ws ∷ is) = Unit {0}
Ready (faulty n f ∷ is) = ⊥

-- what a reader answers that has `old` left to give before and `new` after. At a refusal it stays where it was
abbrev pub Gives : List Item → List Item → Result (Option Line) ReadFault → Type 0
Gives old new (Ok None) = (old ≡ []) × (new ≡ [])
Gives old new (Ok (Some l)) = old ≡ told l ∷ new
Gives old new (Err (Text f)) = (new ≡ old) × (first old ≡ Some (told_fault f))
Gives old new (Err Memory) = (new ≡ old) × Ready old

-- the first fault of a text
abbrev pub first_fault_lem : List Item → Option Item
first_fault_lem [] = None
first_fault_lem (holds n ws ∷ is) = first_fault_lem is
first_fault_lem (faulty n f ∷ is) = Some (faulty n f)

-- all lines of a text that hold words, where none is faulty, or the first fault. Want of memory stands in for no fault of
-- the first line that counts: that line holds words
abbrev pub Reads : List Item → Result (Vec Line Global) ReadFault → Type 0
Reads is (Ok v) = is ≡ map told (vec_items v)
Reads is (Err (Text f)) = first_fault_lem is ≡ Some (told_fault f)
Reads is (Err Memory) = Ready is
