-- From what a call does on the board of an editor to the step that it adds to every log.
use Rattle.std.proofs.Common.{◌≡◌, ℕ, ◌<◌, ◌≤◌, List, [], Ok, Err, Result, sym, refl, subst, arith}
use Rattle.words.specs.Meaning.{Meaning}
use Rattle.reach.specs.Listed.{along}
use Rattle.reach.specs.declared.path.Path.{Path}
use Rattle.netlist.specs.declared.edit.Edit.{Edit}
use Rattle.netlist.specs.declared.edit.Refusal.{Refusal}
use Rattle.netlist.specs.declared.edit.Refusal.TheVariants.{Looped}
use Rattle.netlist.specs.Netlist.{Netlist, Loop, SmallestFirst}
use Rattle.netlist.specs.Edits.{asked}
use Rattle.board.specs.Board.{Sound}
use Rattle.board.specs.Stored.{Stored, Stays}
use Rattle.edits.specs.Makes.{Workable, Makes, Early}
use Rattle.editor.specs.declared.call.Call.{Call}
use Rattle.editor.specs.declared.call.Call.TheVariants.{Begin, Mark, KeepMark, DropMark, Keep, Drop, Make}
use Rattle.editor.specs.Calls.{Replies, Serves}
use Rattle.editor.specs.Log.{Entry, Led}
use Rattle.editor.specs.Shown.{Shows}
use Rattle.editor.specs.State.{Reached}
use Rattle.editor.specs.Steps.{Steps}
use Rattle.editor.proofs.Led.{led_step}

-- a call that is no edit
abbrev pub NoEdit : Call → Type 0
NoEdit Begin = Unit {0}
NoEdit Mark = Unit {0}
NoEdit KeepMark = Unit {0}
NoEdit DropMark = Unit {0}
NoEdit Keep = Unit {0}
NoEdit Drop = Unit {0}
NoEdit (Make e) = ⊥

-- what a call does on the board of an editor
pub record Done (b : Stored) (c : Call) (b' : Stored) (r : Result ℕ Refusal) : Type 0 where
  pub serves : Serves b.signals b.words c b'.words r
  pub steps : Steps b.signals b.words c b'.words r
  pub stays : Stays b b'

serves_some : (m : ℕ) (a : Meaning) (c : Call) (a' : Meaning) (r : Result ℕ Refusal) → 0 < m → Replies m a c a' r → Serves m a c a' r
serves_some m a c a' r lt h = record { none = λ z. absurd (omega arith); some = λ _. h }

-- a call of batches and marks
pub done_by : (b b' : Stored) (c : Call) (r : Result ℕ Refusal) → NoEdit c → Reached b.signals b.words → 0 < b.signals
    → (2 ≤ b.words.limit → Sound b.signals b.words.image → Replies b.signals b.words c b'.words r) → Stays b b' → Done b c b' r
done_by b b' c r other reached some h stays =
    let (before, at) = reached some in
    let replies : Replies b.signals b.words c b'.words r = h at.two at.present.stands.sound in
    record {
      serves = serves_some b.signals b.words c b'.words r some replies;
      steps = λ log led. led_step b.signals log b.words b'.words c r led replies (λ e q. absurd (subst NoEdit q other));
      stays = stays;
    }

workable : (m : ℕ) (log : List Entry) (a : Meaning) → Led m log a → Workable m a
workable m log a led = record { few = led.few; stands = led.present.stands; room = led.room }

pub reached_workable : (m : ℕ) (a : Meaning) → Reached m a → 0 < m → Workable m a
reached_workable m a reached some = let (log, led) = reached some in workable m log a led

makes_replies : (m : ℕ) (a : Meaning) (e : Edit) (a' : Meaning) (r : Result ℕ Refusal) → Makes m a e a' r → Replies m a (Make e) a' r
makes_replies m a e a' (Ok count) h = (h.edits.0, (h.inside, h.edits.1, h.edits.2))
makes_replies m a e a' (Err r) h = (h.edits.0, h.edits.1, h.untouched)

-- an edit
pub done_make : (b b' : Stored) (e : Edit) (r : Result ℕ Refusal) → Reached b.signals b.words → 0 < b.signals
    → (Workable b.signals b.words → Makes b.signals b.words e b'.words r) → Stays b b' → Done b (Make e) b' r
done_make b b' e r reached some makes stays =
    let made : Makes b.signals b.words e b'.words r = makes (reached_workable b.signals b.words reached some) in
    let replies = makes_replies b.signals b.words e b'.words r made in
    record {
      serves = serves_some b.signals b.words (Make e) b'.words r some replies;
      steps = λ log led. led_step b.signals log b.words b'.words (Make e) r led replies (λ _ _. made.stands);
      stays = stays;
    }

-- what the store means after it was led to as well
pub reached_after : (b b' : Stored) (c : Call) (r : Result ℕ Refusal) → Done b c b' r → Reached b.signals b.words → Reached b'.signals b'.words
reached_after b b' c r done reached =
    subst (λ m. Reached m b'.words) (sym done.stays.signals) (λ some. let (log, led) = reached some in (_, done.steps log led))

-- ---- the loop that is shown

pub shows_early : (n : Netlist) (e : Edit) (r : Result ℕ Refusal) (shown : List ℕ) → Early r → shown ≡ [] → Shows n e r shown
shows_early n e (Ok count) shown h gone = gone
shows_early n e (Err r) shown h gone = (λ _. gone, λ q. absurd (omega arith))

pub shows_loop : (n : Netlist) (e : Edit) (path : Path) (shown : List ℕ) → Loop (asked n e) (along path) → ((k : Netlist) → Loop k (along path) → Loop k shown × SmallestFirst shown)
    → Shows n e (Err Looped) shown
shows_loop n e path shown loop shows = (λ ne. absurd (ne refl), λ _. shows (asked n e) loop)
