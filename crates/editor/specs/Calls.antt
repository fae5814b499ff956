-- What each call of an editor replies and leaves.
use Rattle.std.specs.Prelude.{◌≡◌, ℕ, suc, ◌<◌, ◌≤◌, true, ◌⊎◌, List, [], ◌∷◌, Ok, Err, Result}
use Rattle.words.specs.Meaning.{Meaning, levels, opened, kept, dropped}
use Rattle.netlist.specs.declared.edit.Refusal.{Refusal}
use Rattle.netlist.specs.Refusals.{number}
use Rattle.netlist.specs.Netlist.{Netlist, absent, driver_of, output_of, Used}
use Rattle.netlist.specs.Places.{PutsAll}
use Rattle.netlist.specs.Edits.{Applies, asked, puts_of, signal_of}
use Rattle.board.specs.Board.{netlist_of, order_of}
use Rattle.board.specs.Standing.{Inside}
use Rattle.editor.specs.declared.call.Call.{Call}
use Rattle.editor.specs.declared.call.Call.TheVariants.{Begin, Mark, KeepMark, DropMark, Keep, Drop, Make}

-- a reply that is the refusal of a number
abbrev pub RefusedWith : ℕ → Result ℕ Refusal → Type 0
RefusedWith k (Ok count) = ⊥
RefusedWith k (Err r) = number r ≡ k

-- an absent signal that a pin is on, or that is an output
pub record Missing (m : ℕ) (n : Netlist) (s : ℕ) : Type 0 where
  pub signal : s < m
  pub gone : driver_of n s ≡ absent
  pub wanted : Used n s ⊎ (output_of n s ≡ true)

-- The numbers that apply to a call with limit D, so many open levels and a netlist. A batch is open when a level is; every further level is a mark.
abbrev pub Declines : ℕ → ℕ → ℕ → Netlist → Call → ℕ → Type 0
Declines m d open' n Begin k = (k ≡ 11) × (0 < open')
Declines m d open' n Mark k = ((k ≡ 10) × (open' ≡ 0)) ⊎ ((k ≡ 20) × (d ≤ suc open'))
Declines m d open' n KeepMark k = ((k ≡ 10) × (open' ≡ 0)) ⊎ ((k ≡ 21) × (open' ≤ 1))
Declines m d open' n DropMark k = ((k ≡ 10) × (open' ≡ 0)) ⊎ ((k ≡ 21) × (open' ≤ 1))
Declines m d open' n Keep k = ((k ≡ 10) × (open' ≡ 0)) ⊎ (((k ≡ 22) × (1 < open')) ⊎ ((k ≡ 24) × ((s : ℕ) × Missing m n s)))
Declines m d open' n Drop k = (k ≡ 10) × (open' ≡ 0)
Declines m d open' n (Make e) k = Applies m open' n e k

-- the oldest image of a pile, or the present one where there is none
abbrev pub oldest : List ℕ → List (List ℕ) → List ℕ
oldest image [] = image
oldest image (saved ∷ older) = oldest saved older

-- all levels are taken back
abbrev pub emptied : Meaning → Meaning
emptied a = record { limit = a.limit; image = oldest a.image a.saved; saved = [] }

-- what a call that is not refused leaves, and the count it replies
abbrev pub Does : ℕ → Meaning → Call → Meaning → ℕ → Type 0
Does m a Begin a' count = (a' ≡ opened a) × (count ≡ 0)
Does m a Mark a' count = (a' ≡ opened a) × (count ≡ 0)
Does m a KeepMark a' count = (a' ≡ kept a) × (count ≡ 0)
Does m a DropMark a' count = (a' ≡ dropped a) × (count ≡ 0)
Does m a Keep a' count = (a' ≡ kept a) × (count ≡ 0)
Does m a Drop a' count = (a' ≡ emptied a) × (count ≡ 0)
Does m a (Make e) a' count =
    Inside a a' × (netlist_of m a'.image ≡ asked (netlist_of m a.image) e)
    × PutsAll (asked (netlist_of m a.image) e) (order_of m a.image) (signal_of e) (puts_of (netlist_of m a.image) e) (order_of m a'.image) count

-- the numbers that apply to a call on a store
abbrev pub Refuses : ℕ → Meaning → Call → ℕ → Type 0
Refuses m a c k = Declines m a.limit (levels a) (netlist_of m a.image) c k

-- the smallest number that applies
abbrev pub IsRefusal : ℕ → Meaning → Call → ℕ → Type 0
IsRefusal m a c k = Refuses m a c k × ((j : ℕ) → j < k → Refuses m a c j → ⊥)

-- The reply of an editor that has signals: what the call does, where no number applies; else the smallest that does, and nothing is changed.
abbrev pub Replies : ℕ → Meaning → Call → Meaning → Result ℕ Refusal → Type 0
Replies m a c a' (Ok count) = ((k : ℕ) → Refuses m a c k → ⊥) × Does m a c a' count
Replies m a c a' (Err r) = Refuses m a c (number r) × ((k : ℕ) → k < number r → Refuses m a c k → ⊥) × (a' ≡ a)

-- An editor of no signals refuses every call with 1 and leaves the store alone.
pub record Serves (m : ℕ) (a : Meaning) (c : Call) (a' : Meaning) (r : Result ℕ Refusal) : Type 0 where
  pub none : m ≡ 0 → RefusedWith 1 r × (a' ≡ a)
  pub some : 0 < m → Replies m a c a' r
