-- The start of an editor.
use Rattle.std.proofs.Common.{◌≡◌, ℕ, ◌+◌, ◌*◌, ◌≤◌, min, [], length, sym, ap, ◌∙◌, subst, arith}
use Rattle.std.proofs.lemmas.List.{nil_from_length}
use Rattle.words.specs.Meaning.{Meaning, Lent, size}
use Rattle.netlist.specs.Edits.{empty_board}
use Rattle.board.specs.Board.{board_of}
use Rattle.board.specs.Standing.{Stands}
use Rattle.board.specs.Stored.{Stored, OnlyWords}
use Rattle.editor.specs.Making.{Fits}
use Rattle.editor.specs.Made.{Starts}
use Rattle.editor.specs.State.{Reached}
use Rattle.editor.proofs.Led.{led_start}

-- the words of a new board are those of an empty netlist
abbrev pub Lays : Stored → Stored → Type 0
Lays b laid =
    b.signals ≤ 1024 → 24 * b.signals + 24 ≤ size b.words → Stands b.signals laid.words.image × (board_of b.signals laid.words.image ≡ empty_board b.signals)

starts_over : (b laid : Stored) → Fits b.signals b.words → OnlyWords b laid → Lays b laid → Starts b.signals b.words laid.signals laid.words
starts_over b laid fits only lays =
    let l = lays fits.few fits.words in
    record {
      limit = only.inside.limit;
      size = only.stays.size;
      served = λ _. (
        only.stays.signals,
        led_start b.signals laid.words (omega (arith, fits.some)) fits.few (omega (arith, fits.two, only.inside.limit)) (only.inside.levels ∙ nil_from_length b.words.saved fits.closed) l.0 l.1,
      );
      closed = λ _. ap length only.inside.levels ∙ fits.closed;
      refused = λ not. absurd (not fits);
    }

pub starts : (m : ℕ) (a : Meaning) (lent : Lent) (b laid : Stored) → b ≡ record { signals = min m 1024; words = a; lent = lent } → Fits m a → OnlyWords b laid → Lays b laid
    → Starts m a laid.signals laid.words
starts m a lent b laid given fits only lays =
    let most : min m 1024 ≡ m = omega (arith, fits.few) in
    let is : b ≡ record { signals = m; words = a; lent = lent } = given ∙ ap (λ n. record { signals = n; words = a; lent = lent }) most in
    subst (λ x. Starts x.signals x.words laid.signals laid.words) is (starts_over b laid (subst (λ x. Fits x.signals x.words) (sym is) fits) only lays)

-- an editor that has signals was led to
pub reached_new : (m m' : ℕ) (a a' : Meaning) → Fits m a → Starts m a m' a' → Reached m' a'
reached_new m m' a a' fits h = let (same, led) = h.served fits in subst (λ n. Reached n a') (sym same) (λ some. ([], led))
