-- Theorems about the calls and the questions of an editor, and worked cases of batches and marks.
use Rattle.std.specs.Prelude.{◌≡◌, ℕ, List, None, Ok, Err, Result}
use Rattle.words.specs.Meaning.{Meaning, levels}
use Rattle.netlist.specs.declared.edit.Edit.{Edit}
use Rattle.netlist.specs.declared.edit.Edit.TheVariants.{Input}
use Rattle.netlist.specs.declared.edit.Refusal.{Refusal}
use Rattle.netlist.specs.declared.edit.Refusal.TheVariants.{NoLevelForMark}
use Rattle.netlist.specs.Refusals.{number}
use Rattle.netlist.specs.Netlist.{absent, input, driver_of, empty_netlist}
use Rattle.netlist.specs.Edits.{Board}
use Rattle.board.specs.Board.{netlist_of}
use Rattle.editor.specs.declared.call.Call.{Call}
use Rattle.editor.specs.declared.call.Call.TheVariants.{Mark, DropMark, Make}
use Rattle.editor.specs.Calls.{Replies, Serves}
use Rattle.editor.specs.Log.{Entry, Gives, Led}
use Rattle.editor.specs.Questions.{Question, asks_signals, asks_levels, asks_batch, asks_marks, asks_kind, asks_output, asks_pins, asks_table, asks_start, asks_place, asks_signal, asks_missing, Answer, Answers}

-- Stores that tell equal words, equal D and as many open levels.
pub record TellAlike (a b : Meaning) : Type 0 where
  pub image : a.image ≡ b.image
  pub limit : a.limit ≡ b.limit
  pub depth : levels a ≡ levels b

-- Editors of one M over such stores reply alike to every call and answer alike to every question. The loop shown is no question.
pub record EqualWordsReplyAlike : Type 0 where
  pub calls : (m : ℕ) (a b a' b' : Meaning) (c : Call) (r t : Result ℕ Refusal) → TellAlike a b → Serves m a c a' r → Serves m b c b' t → r ≡ t
  pub questions : (m : ℕ) (a b : Meaning) (q : Question) (r t : Answer q) → TellAlike a b → Answers m a q r → Answers m b q t → r ≡ t

-- nothing is told: no signal, and nothing of any. Levels are no part of this.
abbrev pub IsNothing : (q : Question) → Answer q → Type 0
IsNothing asks_signals r = r ≡ 0
IsNothing asks_levels r = Unit {0}
IsNothing asks_batch r = Unit {0}
IsNothing asks_marks r = Unit {0}
IsNothing (asks_kind s) r = r ≡ None
IsNothing (asks_output s) r = r ≡ None
IsNothing (asks_pins s) r = r ≡ None
IsNothing (asks_table s) r = r ≡ None
IsNothing (asks_start s) r = r ≡ None
IsNothing (asks_place s) r = r ≡ None
IsNothing (asks_signal p) r = r ≡ None
IsNothing asks_missing r = r ≡ None

-- An editor of no signals answers as for the empty netlist of none, whatever the words.
abbrev pub NoSignalsTellNothing : Type 0
NoSignalsTellNothing = (a : Meaning) (q : Question) (r : Answer q) → Answers 0 a q r → IsNothing q r

-- The same edits, made in turn on the empty board, give one board.
abbrev pub EditsGiveOneBoard : Type 0
EditsGiveOneBoard = (m : ℕ) (edits : List Edit) (b c : Board) → Gives m edits b → Gives m edits c → b ≡ c

-- Calls led to a batch with no mark, on a store of D = 3, and each of the five signals is absent.
pub record Fresh (log : List Entry) (a : Meaning) : Type 0 where
  pub led : Led 5 log a
  pub limit : a.limit ≡ 3
  pub batch : levels a ≡ 1
  pub empty : netlist_of 5 a.image ≡ empty_netlist 5

-- The same whatever calls led there: no log is asked for.
pub record FreshBatch (a : Meaning) : Type 0 where
  pub limit : a.limit ≡ 3
  pub batch : levels a ≡ 1
  pub empty : netlist_of 5 a.image ≡ empty_netlist 5

-- What every such batch replies to a mark, to a second one, to an input under the mark and to a drop of it.
pub record EveryFreshBatch : Type 0 where
  -- a mark is accepted,
  pub mark : (a b : Meaning) (r : Result ℕ Refusal) → FreshBatch a → Replies 5 a Mark b r → r ≡ Ok 0
  -- and a second one is refused with 20;
  pub second_mark : (a b c : Meaning) (r : Result ℕ Refusal) → FreshBatch a → Replies 5 a Mark b (Ok 0) → Replies 5 b Mark c r
      → r ≡ Err NoLevelForMark
  -- an input that is entered under the mark is accepted, and there;
  pub entered : (a b c : Meaning) (r : Result ℕ Refusal) → FreshBatch a → Replies 5 a Mark b (Ok 0) → Replies 5 b (Make (Input 0)) c r
      → (r ≡ Ok 0) × (driver_of (netlist_of 5 c.image) 0 ≡ input)
  -- the mark is dropped, and the signal is absent again
  pub taken_back : (a b c d : Meaning) (r : Result ℕ Refusal) → FreshBatch a → Replies 5 a Mark b (Ok 0)
      → Replies 5 b (Make (Input 0)) c (Ok 0) → Replies 5 c DropMark d r → (r ≡ Ok 0) × (driver_of (netlist_of 5 d.image) 0 ≡ absent)

-- Worked cases with five signals, in a batch. Each reply is the only one (`EqualWordsReplyAlike`).
pub record WorkedBatches : Type 0 where
  pub log : List Entry
  pub first : Meaning
  pub second : Meaning
  pub third : Meaning
  pub fourth : Meaning
  pub refusal : Refusal
  pub fresh : Fresh log first
  pub mark : Replies 5 first Mark second (Ok 0)
  -- a second mark is refused with 20, and changes nothing
  pub mark_again : Replies 5 second Mark second (Err refusal)
  pub with_twenty : number refusal ≡ 20
  -- an input that is entered under the mark is there,
  pub input_zero : Replies 5 second (Make (Input 0)) third (Ok 0)
  pub entered : driver_of (netlist_of 5 third.image) 0 ≡ input
  -- and with the mark dropped the signal is absent again
  pub drop_mark : Replies 5 third DropMark fourth (Ok 0)
  pub taken_back : driver_of (netlist_of 5 fourth.image) 0 ≡ absent
  -- every batch that begins like this one replies alike
  pub every : EveryFreshBatch
