-- The number of each refusal of a store.
use Rattle.std.specs.Prelude.{ℕ}
use Rattle.words.specs.declared.store.StoreRefusal.{StoreRefusal}
use Rattle.words.specs.declared.store.StoreRefusal.TheVariants.{Unfit, NoSuchWord, NoLevelLeft, NoLevelOpen}

abbrev pub number : StoreRefusal → ℕ
number Unfit = 1
number NoSuchWord = 2
number NoLevelLeft = 3
number NoLevelOpen = 4
