-- An accepted reading means that the text says what is claimed.
use Rattle.std.specs.Prelude.{◌≡◌, ℕ, true, List, map, None, Option}
use Rattle.names.specs.Names.{entered, fits}
use Rattle.editor.specs.Log.{Entry}
use Rattle.std.specs.List.{AllByRecursion}
use Rattle.blif.specs.declared.fault.FileFault.{FileFault}
use Rattle.blif.specs.Statement.{Words, Statement, IsFile, all_mentioned}
use Rattle.blif.specs.Form.{nothing}
use Rattle.blif.specs.Rows.{Row, AreLines}
use Rattle.blif.specs.Description.{Claim, ClaimAll}
use Rattle.blif.specs.Calls.{edit_of, Made}
use Rattle.blif.specs.Building.{Numbered}
use Rattle.blif.specs.File.{Met, Lines, at}

-- The rows are a file whose claims are those of the calls, on names that have numbers below m.
pub record FileSaid (m : ℕ) (t t' : Met) (rows : List Row) (log : List Entry) (total : ℕ) : Type 0 where
  pub lines : List Words
  pub statements : List Statement
  pub claims : List Claim
  pub are : AreLines rows lines
  pub file : IsFile lines t'.model statements
  pub claimed : ClaimAll statements claims
  pub met : t'.signals ≡ entered t.signals (all_mentioned statements)
  pub few : fits m t.signals (all_mentioned statements) ≡ true
  pub numbered : AllByRecursion (Numbered m t'.signals) claims
  pub made : Made (map (edit_of t'.signals) claims) log total None

-- Rows that are read to the end without a fault are a file.
abbrev pub AcceptedIsSaid : Type 0
AcceptedIsSaid = (m : ℕ) (t t' : Met) (rows : List Row) (log : List Entry) (total : ℕ) (end : Option FileFault)
    → Lines m (at nothing) t rows log t' total end → end ≡ None → FileSaid m t t' rows log total
