-- What a host has when a store gives its words back.
use Rattle.std.specs.Prelude.{ℕ, List, ◌++◌, length, take, drop}
use Rattle.std.specs.Borrow.{Lends, MutBor, Fml, Array, u32}
use Rattle.memory.specs.Room.{Host}
use Rattle.memory.specs.contracts.Memory.{the_row}

-- as many words as before, as the store leaves them; N and D stay
abbrev pub returned : Host → List ℕ → Host
returned host ws = record { words = take (length host.words) (ws ++ drop (length ws) host.words); size = host.size; limit = host.limit }

abbrev pub LendsWords : MutBor Host → MutBor (List ℕ) → Fml
LendsWords host ws = Lends the_row (Array u32 0) host ws (returned host.now)
