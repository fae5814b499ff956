use Rattle.std.specs.Prelude.{ℕ}
use Rattle.table.specs.declared.fault.TableFault.{TableFault}
use Rattle.table.specs.declared.fault.TableFault.TheVariants.{Unfit}
use Rattle.table.specs.declared.fault.CoverFault.{CoverFault}
use Rattle.table.specs.declared.fault.CoverFault.TheVariants.{Malformed, BothWays}
use Rattle.table.specs.declared.fault.ReadFault.{ReadFault}
use Rattle.table.specs.declared.fault.ReadFault.TheVariants.{OfTable, OfLine}

-- The numbers of the refusals.
abbrev pub table_number : TableFault → ℕ
table_number Unfit = 13

abbrev pub cover_number : CoverFault → ℕ
cover_number Malformed = 35
cover_number BothWays = 37

abbrev pub read_number_lem : ReadFault → ℕ
read_number_lem (OfTable fault) = table_number fault
read_number_lem (OfLine fault) = cover_number fault
