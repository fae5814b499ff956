-- Where the code stands, and what it makes of one line.
use Rattle.std.specs.Prelude.{true, [], ◌∷◌, ◌≡◌, ℕ, ◌+◌, List, ◌++◌, ◌≤◌, map, length, Some, None, Ok, Err, Option, Result, vec_items}
use Rattle.table.specs.Line.{Line}
use Rattle.table.specs.Cover.{Read}
use Rattle.table.specs.Reading.{line_of}
use Rattle.table.specs.declared.shape.CoverLine.{CoverLine}
use Rattle.names.specs.Names.{fits}
use Rattle.names.specs.Numbers.{Refuses, name_fault}
use Rattle.names.specs.declared.faults.NameFault.{NameFault}
use Rattle.names.specs.declared.faults.NameFault.TheVariants.{NoRoom, Memory}
use Rattle.blif.specs.declared.fault.FormFault.TheVariants.{TooManyNames}
use Rattle.blif_io.specs.declared.place.OpenGate.{OpenGate}
use Rattle.blif.specs.declared.fault.FormFault.{FormFault}
use Rattle.names.specs.declared.table.NameTable.{NameTable}
use Rattle.netlist.specs.declared.edit.Edit.{Edit}
use Rattle.netlist.specs.declared.edit.Edit.TheVariants.{Input, Output}
use Rattle.netlist.specs.declared.edit.Refusal.{Refusal}
use Rattle.netlist.specs.Edits.{signal_of}
use Rattle.editor.specs.Log.{Entry}
use Rattle.desk.specs.State.{State}
use Rattle.blif.specs.declared.fault.FileFault.{FileFault}
use Rattle.blif.specs.declared.fault.FileFault.TheVariants as file_fault
use Rattle.blif.specs.declared.form.Form.{Form}
use Rattle.blif.specs.declared.form.Form.TheVariants as form
use Rattle.blif_io.specs.declared.calls.Listing.{Listing}
use Rattle.blif_io.specs.declared.calls.Listing.TheVariants as listing
use Rattle.blif_io.specs.declared.place.Before.{Before as Front}
use Rattle.blif_io.specs.declared.place.Before.TheVariants as front
use Rattle.blif_io.specs.declared.place.Place.{Place}
use Rattle.blif_io.specs.declared.place.Step.{Step}
use Rattle.blif_io.specs.declared.place.Place.TheVariants as here
use Rattle.blif_io.specs.declared.place.Refused.{Refused}
use Rattle.text.specs.declared.words.Line.{Line as TextLine}
use Rattle.text.specs.Lines.{told}
use Rattle.blif.specs.Statement.{Name, inputs, outputs, latch, names}
use Rattle.blif.specs.Description.{Claim, drives, marks, input, latched}
use Rattle.blif.specs.Form.{Saying, model, states, finish, Before, nothing, statements, ended, allowed, CoverSays}
use Rattle.blif.specs.Rows.{Row, row_of}
use Rattle.blif.specs.Calls.{number_of, four, Made}
use Rattle.blif.specs.File.{Met, Point, at, covering, Lines, Covers, meets, form as form_lem}
use Rattle.blif.specs.Chain.{Chain}

abbrev pub met : NameTable → Met
met t = record { model = vec_items t.model; signals = t.signals }

-- a line that holds words, as the format sees it
abbrev pub viewed : TextLine → Row
viewed l = row_of (told l)

abbrev pub before_of : Front → Before
before_of front.Nothing = nothing
before_of front.Statements = statements
before_of front.Ended = ended

-- the code's place is this point, under these names
abbrev pub Stands : List Name → Place → Point → Type 0
Stands ns (here.At b) p = p ≡ at (before_of b)
Stands ns (here.Covering g) p =
    (pins : List Name) × (x : Name) × (cover : List Line) × (p ≡ covering g.line pins x cover)
    × (g.signal ≡ number_of ns x) × (g.nets ≡ four (map (number_of ns) pins))
    × (g.cover.listed.pins ≡ length pins) × Read cover g.cover

-- what the code is told of the reply to an edit
abbrev pub Replied : Edit → Result ℕ Refusal → Result ℕ Refused → Type 0
Replied e (Ok count) (Ok told) = told ≡ count
Replied e (Ok count) (Err f) = ⊥
Replied e (Err r) (Ok told) = ⊥
Replied e (Err r) (Err f) = (f.refusal ≡ r) × (f.signal ≡ signal_of e)

-- edits made in turn at a desk, and the sum of their counts
abbrev pub Plays : State → List Edit → State → Result ℕ Refused → Type 0
Plays d es d' (Ok count) = (own : List Entry) × Chain d own d' × Made es own count None
Plays d es d' (Err f) = (own : List Entry) × (count : ℕ) × Chain d own d'
    × Made es own count (Some (f.refusal, f.signal))

-- the edit of a name that a line lists
abbrev pub listed : Listing → ℕ → Edit
listed listing.Inputs s = Input s
listed listing.Outputs s = Output s 1

-- what a line claims by itself
abbrev pub claims_now : Saying → List Claim
claims_now (model x) = []
claims_now (states (inputs xs)) = map (λ x. drives x input) xs
claims_now (states (outputs xs)) = map marks xs
claims_now (states (latch a x start)) = drives x (latched start a) ∷ []
claims_now (states (names pins x cover)) = []
claims_now finish = []

-- What follows from the new point follows from the old one and the rows taken, where the rows behind are of a
-- kind; a fault ends there.
abbrev pub Takes : ℕ → State → Met → Point → List Row → (List Row → Type 0) → State → NameTable
    → Result Step FileFault → Type 0
Takes m d t p taken fit d' names' (Ok step) =
    (own : List Entry) × (p' : Point) × Chain d own d' × Stands names'.signals step.place p'
    × ((rs : List Row) (later : List Entry) (t' : Met) (total : ℕ) (end : Option FileFault) → fit rs
    → Lines m p' (met names') rs later t' total end
    → Lines m p t (taken ++ rs) (own ++ later) t' (step.count + total) end)
Takes m d t p taken fit d' names' (Err f) = (own : List Entry) × Chain d own d'
    × ((rs : List Row) → fit rs → (sum : ℕ) × Lines m p t (taken ++ rs) own (met names') sum (Some f))

-- the rows behind are no cover lines
abbrev pub Uncovered : List Row → Type 0
Uncovered rs = Covers rs → ⊥

-- one cover line more of an open gate
abbrev pub TakesCover : OpenGate → List Line → List (List ℕ) → Result OpenGate FormFault → Type 0
TakesCover g cover ws (Ok g') =
    (line : Line) × CoverSays g.cover.listed.pins cover ws (Ok line) × Read (cover ++ line ∷ []) g'.cover
    × (g'.line ≡ g.line) × (g'.signal ≡ g.signal) × (g'.nets ≡ g.nets)
    × (g'.cover.listed.pins ≡ g.cover.listed.pins)
TakesCover g cover ws (Err f) = CoverSays g.cover.listed.pins cover ws (Err f)

-- the words as a line of a cover
abbrev pub LineOf : Option Line → Option CoverLine → Type 0
LineOf o None = o ≡ None
LineOf o (Some l) = o ≡ Some (line_of l)

abbrev pub Anything : List Row → Type 0
Anything rs = Unit {0}

-- what the names become at a line that says x, in its place: 36, then 38
abbrev pub Admits : ℕ → Met → Before → Saying → Met → ℕ → Result (Unit {0}) FileFault → Type 0
Admits m t b x t' n (Ok _) = (allowed m t.signals b (Ok x) ≡ Ok x) × (t' ≡ meets t x)
Admits m t b x t' n (Err file_fault.Memory) = t' ≡ t
Admits m t b x t' n (Err (file_fault.Form e)) = (allowed m t.signals b (Ok x) ≡ Err e.fault) × (e.line ≡ n) × (t' ≡ t)
Admits m t b x t' n (Err (file_fault.Text e)) = ⊥
Admits m t b x t' n (Err (file_fault.Editor e)) = ⊥

-- what a line is told whose names do not enter
abbrev pub of_names : NameFault → ℕ → FileFault
of_names NoRoom n = form_lem TooManyNames n
of_names Memory n = file_fault.Memory

-- whether the names of a line would enter
abbrev pub WouldEnter : ℕ → List Name → List Name → Result (Unit {0}) NameFault → Type 0
WouldEnter m ns ws (Ok x) = fits m ns ws ≡ true
WouldEnter m ns ws (Err f) = Refuses m ns ws (name_fault f)

-- how many words a line of a form has behind its first
abbrev pub Shaped : Form → ℕ → Type 0
Shaped form.Model k = k ≡ 1
Shaped form.Inputs k = Unit {0}
Shaped form.Outputs k = Unit {0}
Shaped (form.Latch start) k = (2 ≤ k) × (start ≤ 3)
Shaped form.Names k = (1 ≤ k) × (k ≤ 5)
Shaped form.End k = Unit {0}
