-- Three levels are one for a batch, one for a mark, and one that stays free.
use Rattle.std.proofs.Common.{◌≡◌, ℕ, suc, ◌<◌, Ok, Err, Result, refl, ap, ◌∙◌, inr, ⊎_elim, arith}
use Rattle.words.specs.Meaning.{Meaning, levels, opened}
use Rattle.netlist.specs.declared.edit.Refusal.{Refusal}
use Rattle.editor.specs.declared.call.Call.TheVariants.{Begin, Mark}
use Rattle.editor.specs.Calls.{RefusedWith, Replies}
use Rattle.cases.specs.Marks.{SecondMarkRefused}

begin_accepted : (m : ℕ) (a a' : Meaning) (r : Result ℕ Refusal) → levels a ≡ 0 → Replies m a Begin a' r → (r ≡ Ok 0) × (a' ≡ opened a)
begin_accepted m a a' (Ok count) shut h = (ap Ok h.1.1, h.1.0)
begin_accepted m a a' (Err r) shut h = absurd (omega (arith, h.0.1))

first_mark : (m : ℕ) (a a' : Meaning) (r : Result ℕ Refusal) → a.limit ≡ 3 → levels a ≡ 1 → Replies m a Mark a' r → (r ≡ Ok 0) × (a' ≡ opened a)
first_mark m a a' (Ok count) three one h = (ap Ok h.1.1, h.1.0)
first_mark m a a' (Err r) three one h = absurd (⊎_elim (λ ten. omega (arith, ten.1)) (λ twenty. omega (arith, twenty.1)) h.0)

second_mark : (m : ℕ) (a a' : Meaning) (r : Result ℕ Refusal) → a.limit ≡ 3 → levels a ≡ 2 → Replies m a Mark a' r → RefusedWith 20 r
second_mark m a a' (Ok count) three two h = absurd (h.0 20 (inr (refl, omega arith)))
second_mark m a a' (Err r) three two h = ⊎_elim (λ ten. absurd (omega (arith, ten.1))) (λ twenty. twenty.0) h.0

pub second_refused : SecondMarkRefused
second_refused m store made begun marked after r t u first marks =
    let made_some : 0 < made.signals = omega (arith, (first.starts.served first.fits).0, first.fits.some) in
    let begun_some : 0 < begun.signals = omega (arith, first.begins.signals) in
    let marked_some : 0 < marked.signals = omega (arith, first.marks.signals) in
    let (begins, batch) = begin_accepted made.signals made.words begun.words r (first.starts.closed made_some) (first.begins.serves.some made_some) in
    let three : begun.words.limit ≡ 3 = ap (λ a. a.limit) batch ∙ first.starts.limit ∙ first.limit in
    let one : levels begun.words ≡ 1 = ap levels batch ∙ ap suc (first.starts.closed made_some) in
    let (mark, level) = first_mark begun.signals begun.words marked.words t three one (first.marks.serves.some begun_some) in (
      begins,
      mark,
      second_mark marked.signals marked.words after.words u (ap (λ a. a.limit) level ∙ three) (ap levels level ∙ ap suc one) (marks.serves.some marked_some),
    )
