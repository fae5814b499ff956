-- What it is for a text to be read, said of the text and the netlist alone.
use Rattle.std.specs.Prelude.{◌≡◌, ℕ, ◌≤◌, true, false, List, length, map}
use Rattle.text.specs.Rules.{file_rules}
use Rattle.names.specs.Names.{Apart, entered, fits}
use Rattle.netlist.specs.Netlist.{Netlist, Loop, Whole, absent, driver_of, output_of, empty_netlist}
use Rattle.netlist.specs.Places.{Order}
use Rattle.netlist.specs.Edits.{Board}
use Rattle.blif.specs.Statement.{Name, Words, Statement, IsFile, all_mentioned}
use Rattle.blif.specs.Rows.{AreLines, all_rows}
use Rattle.blif.specs.Description.{Claim, ClaimAll, driven, Once, seen, Describes}
use Rattle.blif.specs.Calls.{edit_of, InTurn}
use Rattle.blif.specs.File.{Met}

-- The text is a file that claims this: it drives no name twice, and uses m names at most, with those that are there.
pub record Says (m : ℕ) (text : List ℕ) (t t' : Met) (cs : List Claim) : Type 0 where
  pub lines : List Words
  pub statements : List Statement
  pub rows : AreLines (all_rows file_rules text) lines
  pub file : IsFile lines t'.model statements
  pub claims : ClaimAll statements cs
  pub met : t'.signals ≡ entered t.signals (all_mentioned statements)
  pub few : fits m t.signals (all_mentioned statements) ≡ true
  pub once : Once (driven cs)

-- The netlist, whose signals have these names, each another, is the one that is claimed, and no other signal is
-- in use. It is whole, and has no loop.
pub record Stated (ns : List Name) (cs : List Claim) (n : Netlist) : Type 0 where
  pub apart : Apart ns
  pub describes : Describes cs (seen ns n)
  pub nameless : (s : ℕ) → length ns ≤ s → (driver_of n s ≡ absent) × (output_of n s ≡ false)
  pub whole : Whole n
  pub unlooped : (xs : List ℕ) → Loop n xs → ⊥

-- What a read gives where it is accepted: the netlist that the text describes, with the order and the count
-- that its edits give in turn.
pub record Gives (m : ℕ) (text : List ℕ) (t t' : Met) (o : Order) (b : Board) (count : ℕ) : Type 0 where
  pub claims : List Claim
  pub says : Says m text t t' claims
  pub stated : Stated t'.signals claims b.netlist
  pub in_turn : InTurn m (map (edit_of t'.signals) claims) (record { netlist = empty_netlist m; order = o }) b count
