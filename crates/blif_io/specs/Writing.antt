-- What the writer makes of one statement after the other.
use Rattle.std.specs.Prelude.{◌≡◌, ◌≤◌, ◌<◌, ◌++◌, ℕ, Bool, List, length, drop, filter, codes, None, Ok, Err, Option, Result}
use Rattle.std.specs.List.{flat_map, range_with_len}
use Rattle.netlist.specs.Netlist.{Netlist, driver_of, output_of}
use Rattle.netlist.specs.Places.{Order}
use Rattle.blif_io.specs.declared.calls.Listing.{Listing}
use Rattle.blif_io.specs.declared.calls.Listing.TheVariants as listing
use Rattle.blif.specs.declared.fault.WriteFault.{WriteFault}
use Rattle.blif.specs.declared.fault.WriteFault.TheVariants.{Short}
use Rattle.blif.specs.Statement.{Name, Statement, inputs, outputs}
use Rattle.blif.specs.Written.{file_of, is_input, latch_statement, gate_statement, lines_of_statement, spelled}
use Rattle.blif.specs.Promises.{write_number}
use Rattle.blif.specs.Returning.{Exportable}

-- statements as they are spelled
abbrev pub spelled_statements : List Statement → List ℕ
spelled_statements ss = spelled (flat_map lines_of_statement ss)

-- whether a line of inputs or of outputs lists a signal
abbrev pub lists : Listing → Netlist → ℕ → Bool
lists listing.Inputs n s = is_input (driver_of n s)
lists listing.Outputs n s = output_of n s

-- the signals below m that it lists
abbrev pub listed_below : Listing → Netlist → ℕ → List ℕ
listed_below l n m = filter (λ s. lists l n s) (range_with_len 0 m)

-- the first word of such a line, and its statement
abbrev pub keyword_of : Listing → List ℕ
keyword_of listing.Inputs = codes ".inputs"
keyword_of listing.Outputs = codes ".outputs"

abbrev pub listing_of : Listing → List Name → Statement
listing_of listing.Inputs xs = inputs xs
listing_of listing.Outputs xs = outputs xs

-- the statements of the latches below m, and of the gates along an order
abbrev pub latches_below : List Name → Netlist → ℕ → List Statement
latches_below ns n m = flat_map (λ s. latch_statement ns s (driver_of n s)) (range_with_len 0 m)

abbrev pub gates_along : List Name → Netlist → Order → List Statement
gates_along ns n o = flat_map (λ s. gate_statement ns s (driver_of n s)) o

-- what bars a write whatever its text is, if anything does
abbrev pub bar_of : Result (Unit {0}) WriteFault → Option ℕ
bar_of (Ok _) = None
bar_of (Err f) = write_number f

-- no netlist of m signals that can be read back makes a longer file
abbrev pub HasRoom : ℕ → ℕ → Type 0
HasRoom m room = (model : Name) (ns : List Name) (n : Netlist) (o : Order) → Exportable m model ns n o
    → length (file_of model m ns n o) ≤ room

-- a text goes to the front of a buffer that has room for it, and its length is told
abbrev pub Puts : List ℕ → List ℕ → List ℕ → Result ℕ WriteFault → Type 0
Puts text buffer buffer' (Ok long) = (length text ≤ length buffer) × (long ≡ length text)
    × (buffer' ≡ text ++ drop (length text) buffer)
Puts text buffer buffer' (Err f) = (length buffer < length text) × (f ≡ Short) × (buffer' ≡ buffer)
