-- A line that says something is taken or refused, and not both.
use Rattle.std.specs.Prelude.{◌≡◌, ℕ, ◌+◌, ◌⊎◌, true, List, [], ◌∷◌, ◌++◌, map, Some, None, Ok, Option}
use Rattle.names.specs.Names.{entered, fits}
use Rattle.netlist.specs.declared.edit.Refusal.{Refusal}
use Rattle.editor.specs.Log.{Entry}
use Rattle.blif.specs.declared.fault.FileFault.{FileFault}
use Rattle.blif.specs.declared.fault.FileFault.TheVariants as file_fault
use Rattle.blif.specs.Statement.{Words, Statement, mentioned, all_mentioned, WriteAll}
use Rattle.blif.specs.Form.{Saying, Before, statements, says}
use Rattle.blif.specs.Rows.{Row, words_of, dotted, AreLines}
use Rattle.blif.specs.Description.{Claim, Claims}
use Rattle.blif.specs.Calls.{edit_of, Made}
use Rattle.blif.specs.File.{Met, Lines, at, meets, behind, ClaimsNow, refusal}

pub record Taken (m : ℕ) (b : Before) (t : Met) (r : Row) (rs : List Row) (x : Saying) (all : List Entry)
    (t' : Met) (sum : ℕ) (end : Option FileFault) : Type 0 where
  pub claims : List Claim
  pub now : ClaimsNow x claims
  pub own : List Entry
  pub later : List Entry
  pub count : ℕ
  pub total : ℕ
  pub made : Made (map (edit_of (meets t x).signals) claims) own count None
  pub on : Lines m (behind r.line x) (meets t x) rs later t' total end
  pub entries : all ≡ own ++ later
  pub sums : sum ≡ count + total

pub record Stopped (t : Met) (r : Row) (x : Saying) (all : List Entry) (t' : Met) (sum : ℕ)
    (end : Option FileFault) : Type 0 where
  pub claims : List Claim
  pub now : ClaimsNow x claims
  pub why : Refusal
  pub signal : ℕ
  pub made : Made (map (edit_of (meets t x).signals) claims) all sum (Some (why, signal))
  pub names : t' ≡ meets t x
  pub ends : end ≡ Some (refusal why r.line (Some signal))

abbrev pub LineIsTaken : Type 0
LineIsTaken =
    (m : ℕ) (b : Before) (t t' : Met) (r : Row) (rs : List Row) (x : Saying) (all : List Entry) (sum : ℕ)
    (end : Option FileFault)
    → r.fault ≡ None → says m t.signals b (words_of r) ≡ Ok x
    → Lines m (at b) t (r ∷ rs) all t' sum end → Taken m b t r rs x all t' sum end
    ⊎ (Stopped t r x all t' sum end ⊎ (end ≡ Some file_fault.Memory))

-- ---- whole statements

abbrev pub after_statement : Statement → Met → Met
after_statement s t = record { model = t.model; signals = entered t.signals (mentioned s) }

-- the calls of all statements, all accepted
pub data Through : List Statement → Met → List Entry → Met → Type 0 where
  none : {t : Met} → Through [] t [] t
  more : {s : Statement} {ss : List Statement} {t t' : Met} {own later : List Entry} (cs : List Claim) (count : ℕ)
      → Claims s cs → Made (map (edit_of (after_statement s t).signals) cs) own count None
      → Through ss (after_statement s t) later t' → Through (s ∷ ss) t (own ++ later) t'

-- the calls up to the first that is refused
pub data Stops : List Statement → Met → List Entry → Type 0 where
  here : {s : Statement} {ss : List Statement} {t : Met} {own : List Entry} (cs : List Claim) (count : ℕ)
      (why : Refusal) (signal : ℕ)
      → Claims s cs
      → Made (map (edit_of (after_statement s t).signals) cs) own count (Some (why, signal)) → Stops (s ∷ ss) t own
  later : {s : Statement} {ss : List Statement} {t : Met} {own more : List Entry} (cs : List Claim) (count : ℕ)
      → Claims s cs → Made (map (edit_of (after_statement s t).signals) cs) own count None
      → Stops ss (after_statement s t) more → Stops (s ∷ ss) t (own ++ more)

abbrev pub Dotted : List Words → Type 0
Dotted [] = Unit {0}
Dotted (w ∷ ls) = dotted w ≡ true

-- the lines of the statements are gone through
pub record Gone (m : ℕ) (ss : List Statement) (t : Met) (after : List Words) (all : List Entry) (t' : Met)
    (end : Option FileFault) : Type 0 where
  pub rows : List Row
  pub own : List Entry
  pub later : List Entry
  pub total : ℕ
  pub then : Met
  pub through : Through ss t own then
  pub left : AreLines rows after
  pub on : Lines m (at statements) then rows later t' total end
  pub entries : all ≡ own ++ later

-- Lines that are statements make the calls of those statements, to the end or to the first that is refused,
-- unless memory runs out.
abbrev pub StatementsAreFollowed : Type 0
StatementsAreFollowed =
    (m : ℕ) (ss : List Statement) (body after : List Words) (rows : List Row) (t t' : Met) (all : List Entry)
    (sum : ℕ) (end : Option FileFault)
    → WriteAll ss body → AreLines rows (body ++ after) → Dotted after
    → fits m t.signals (all_mentioned ss) ≡ true → Lines m (at statements) t rows all t' sum end
    → (end ≡ Some file_fault.Memory) ⊎ (Stops ss t all ⊎ Gone m ss t after all t' end)
