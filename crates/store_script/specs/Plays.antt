-- What a command makes of a store.
use Rattle.std.specs.Prelude.{◌≡◌, Ok, Err, Result}
use Rattle.words.specs.Meaning.{Meaning, Sets, Opens, Keeps, Drops}
use Rattle.words.specs.Refusals.{number}
use Rattle.words.specs.declared.store.StoreRefusal.{StoreRefusal}
use Rattle.store_script.specs.declared.command.Command.{Command}
use Rattle.store_script.specs.declared.command.Command.TheVariants.{Set, Open, Keep, Drop, Show}

abbrev Reply : Type 0
Reply = Result (Unit {0}) StoreRefusal

-- the meaning before and after a command, and its reply; showing alters nothing
abbrev pub Plays : Meaning → Meaning → Command → Reply → Type 0
Plays m m' (Set at word) r = Sets m m' at word r
Plays m m' Open r = Opens m m' r
Plays m m' Keep r = Keeps m m' r
Plays m m' Drop r = Drops m m' r
Plays m m' Show r = (r ≡ Ok tt) × (m' ≡ m)

-- both accept, or both refuse with one number
abbrev pub Alike : Reply → Reply → Type 0
Alike (Ok _) (Ok _) = Unit {0}
Alike (Ok _) (Err f) = ⊥
Alike (Err e) (Ok _) = ⊥
Alike (Err e) (Err f) = number e ≡ number f

-- two stores that meant the same reply alike, and mean the same again
abbrev pub Agree : Meaning → Meaning → Reply → Meaning → Meaning → Reply → Type 0
Agree a a' r b b' t = a ≡ b → Alike r t × (a' ≡ b')
