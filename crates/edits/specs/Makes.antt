-- What an edit leaves.
use Rattle.std.specs.Prelude.{◌≡◌, ℕ, ◌<◌, ◌≤◌, ◌⊎◌, List, Ok, Err, Result, IsErr}
use Rattle.words.specs.Meaning.{Meaning, levels}
use Rattle.netlist.specs.declared.edit.Edit.{Edit}
use Rattle.netlist.specs.declared.edit.Refusal.{Refusal}
use Rattle.netlist.specs.declared.edit.Refusal.TheVariants.{NoLevelForMark, Looped as LoopAsked}
use Rattle.netlist.specs.Refusals.{number}
use Rattle.netlist.specs.Places.{PutsAll}
use Rattle.reach.specs.Listed.{along}
use Rattle.edits.specs.declared.fault.EditFault.{EditFault}
use Rattle.edits.specs.declared.fault.EditFault.TheVariants.{Refused, Looped}
use Rattle.reach.specs.declared.path.Path.{Path}
use Rattle.netlist.specs.Netlist.{Netlist, Loop}
use Rattle.netlist.specs.Edits.{Edits, asked, puts_of, signal_of}
use Rattle.board.specs.Board.{board_of, netlist_of, order_of, Sound}
use Rattle.board.specs.Standing.{Stands, Inside}
use Rattle.board.specs.Stored.{Stored, Stays}
use Rattle.edits.specs.Checks.{Smallest, Unrefused}

-- where edits are made: a board that is in order, and a level is left
pub record Workable (m : ℕ) (a : Meaning) : Type 0 where
  pub few : m ≤ 1024
  pub stands : Stands m a.image
  pub room : levels a < a.limit

abbrev pub reply_of : Result ℕ EditFault → Result ℕ Refusal
reply_of (Ok count) = Ok count
reply_of (Err (Refused r)) = Err r
reply_of (Err (Looped path)) = Err LoopAsked

-- a path comes with refusal 25 alone, and is a loop of the netlist asked for
abbrev pub Faults : Netlist → Edit → Result ℕ EditFault → Type 0
Faults n e (Ok count) = Unit {0}
Faults n e (Err (Refused r)) = number r < 25
Faults n e (Err (Looped path)) = Loop (asked n e) (along path)

-- a refusal that is seen before a pin is put
abbrev pub Early : Result ℕ Refusal → Type 0
Early (Ok count) = count ≡ 0
Early (Err r) = number r < 25

-- the netlist asked for is in the words, and the pins have their places; or it has a loop
abbrev pub Placing : ℕ → List ℕ → Edit → List ℕ → Result ℕ Path → Type 0
Placing m ws e ws' (Ok total) = Stands m ws' × (netlist_of m ws' ≡ asked (netlist_of m ws) e)
    × PutsAll (asked (netlist_of m ws) e) (order_of m ws) (signal_of e) (puts_of (netlist_of m ws) e) (order_of m ws') total
Placing m ws e ws' (Err path) = Loop (asked (netlist_of m ws) e) (along path)

-- a refused edit leaves the whole meaning of the store
abbrev pub Untouched : Meaning → Meaning → Result ℕ Refusal → Type 0
Untouched before after (Ok count) = Unit {0}
Untouched before after (Err r) = after ≡ before

-- The reply and the board after it are those of the rules; the board is in order again; only an accepted edit changes words, and none changes a level.
pub record Makes (m : ℕ) (before : Meaning) (e : Edit) (after : Meaning) (r : Result ℕ Refusal) : Type 0 where
  pub edits : Edits m (levels before) (board_of m before.image) e (board_of m after.image) r
  pub stands : Stands m after.image
  pub inside : Inside before after
  pub untouched : Untouched before after r

-- why an edit is refused where no level is left: the smallest number below 25 that applies, or else 20
abbrev pub NoRoom : ℕ → ℕ → Netlist → Edit → Result ℕ Refusal → Type 0
NoRoom m levels n e (Ok count) = ⊥
NoRoom m levels n e (Err r) = Smallest m levels n e r ⊎ (Unrefused m levels n e × (r ≡ NoLevelForMark))

-- All levels of the store are open: an edit is refused, on any words, and no word is changed.
pub record Full (before : Stored) (e : Edit) (after : Stored) (r : Result ℕ Refusal) : Type 0 where
  pub refused : IsErr r
  pub which : before.signals ≤ 1024 → Sound before.signals before.words.image →
      NoRoom before.signals (levels before.words) (netlist_of before.signals before.words.image) e r
  pub untouched : after.words ≡ before.words

-- An edit that puts no pin: whatever refuses it is seen at once, and M and the memory behind the store stay.
pub record MakesPlain (before : Stored) (e : Edit) (after : Stored) (r : Result ℕ Refusal) : Type 0 where
  pub makes : Workable before.signals before.words → Makes before.signals before.words e after.words r
  pub early : Workable before.signals before.words → Early r
  pub stays : Stays before after
