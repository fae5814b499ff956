-- The reading of a file, line by line: which calls it makes, which names it meets, and how it ends.
use Rattle.std.specs.Prelude.{◌≡◌, ℕ, ◌+◌, ◌<◌, ◌≤◌, false, List, [], ◌∷◌, ◌++◌, map, length, Some, None, Ok, Err, Option, Result, ◌≢◌}
use Rattle.text.specs.declared.faults.LineFault.{LineFault}
use Rattle.text.specs.declared.faults.TextFault.TheVariants.{TooLong}
use Rattle.text.specs.Rules.{file_rules}
use Rattle.table.specs.Line.{Line}
use Rattle.names.specs.Names.{entered}
use Rattle.netlist.specs.declared.edit.Refusal.{Refusal}
use Rattle.netlist.specs.Netlist.{Netlist, absent, driver_of}
use Rattle.netlist.specs.declared.edit.Refusal.TheVariants.{NoEditor, BatchOpen, AbsentInUse}
use Rattle.editor.specs.declared.call.Call.{Call}
use Rattle.editor.specs.declared.call.Call.TheVariants.{Begin, Keep, Drop}
use Rattle.editor.specs.Log.{Entry}
use Rattle.editor.specs.Calls.{Missing}
use Rattle.blif.specs.declared.fault.FormFault.{FormFault}
use Rattle.blif.specs.declared.fault.FormFault.TheVariants.{Misplaced, Driven}
use Rattle.blif.specs.declared.fault.FileFault.{FileFault}
use Rattle.blif.specs.declared.fault.FileFault.TheVariants as file_fault
use Rattle.blif.specs.Statement.{Name, inputs, outputs, latch, names, mentioned}
use Rattle.blif.specs.Form.{Saying, model, states, finish, Before, nothing, statements, ended, says, CoverSays}
use Rattle.blif.specs.Rows.{Row, words_of, dotted, all_rows, FaultOf}
use Rattle.blif.specs.Description.{Claim, Claims}
use Rattle.blif.specs.Calls.{edit_of, Made}

-- the names met: that of the model, and those of signals
pub record Met : Type 0 where
  pub model : Name
  pub signals : List Name

abbrev pub meets : Met → Saying → Met
meets t (model x) = record { model = x; signals = t.signals }
meets t (states s) = record { model = t.model; signals = entered t.signals (mentioned s) }
meets t finish = t

-- where a line stands: by what is before it, or behind the line n of a `.names` and these lines of its cover
pub data Point : Type 0 where
  at : Before → Point
  covering : ℕ → List Name → Name → List Line → Point

abbrev pub behind : ℕ → Saying → Point
behind n (model x) = at statements
behind n (states (inputs xs)) = at statements
behind n (states (outputs xs)) = at statements
behind n (states (latch a x start)) = at statements
behind n (states (names pins x cover)) = covering n pins x []
behind n finish = at ended

-- what a line claims by itself; a gate is added behind its cover
abbrev pub ClaimsNow : Saying → List Claim → Type 0
ClaimsNow (model x) cs = cs ≡ []
ClaimsNow (states (inputs xs)) cs = Claims (inputs xs) cs
ClaimsNow (states (outputs xs)) cs = Claims (outputs xs) cs
ClaimsNow (states (latch a x start)) cs = Claims (latch a x start) cs
ClaimsNow (states (names pins x cover)) cs = cs ≡ []
ClaimsNow finish cs = cs ≡ []

-- a cover goes on up to a line that begins with a dot, or the end
abbrev pub Covers : List Row → Type 0
Covers [] = ⊥
Covers (r ∷ rs) = dotted (words_of r) ≡ false

abbrev pub form : FormFault → ℕ → FileFault
form f n = file_fault.Form (record { fault = f; line = n })

abbrev pub refusal : Refusal → ℕ → Option ℕ → FileFault
refusal r n s = file_fault.Editor (record { refusal = r; line = n; signal = s })

-- the text is over its limit
abbrev pub over_limit : FileFault
over_limit = file_fault.Text (record { fault = TooLong; line = 0; first_byte = None })

-- From a point on: the lines, the calls, the names in the end, the sum of the counts, and the fault that ends
-- it. Memory is wanted only where a line holds words.
pub data Lines (m : ℕ) : Point → Met → List Row → List Entry → Met → ℕ → Option FileFault → Type 0 where
  whole : {t : Met} → Lines m (at ended) t [] [] t 0 None
  unfinished : {b : Before} {t : Met} → b ≢ ended → Lines m (at b) t [] [] t 0 (Some (form Misplaced 0))
  bad_text : {b : Before} {t : Met} {r : Row} {rs : List Row} (f : LineFault) → FaultOf r f
      → Lines m (at b) t (r ∷ rs) [] t 0 (Some (file_fault.Text f))
  bad_form : {b : Before} {t : Met} {r : Row} {rs : List Row} (f : FormFault) → r.fault ≡ None
      → says m t.signals b (words_of r) ≡ Err f
      → Lines m (at b) t (r ∷ rs) [] t 0 (Some (form f r.line))
  refused : {b : Before} {t : Met} {r : Row} {rs : List Row} {own : List Entry} {count : ℕ} (x : Saying)
      (cs : List Claim) (why : Refusal) (s : ℕ)
      → r.fault ≡ None → says m t.signals b (words_of r) ≡ Ok x
      → ClaimsNow x cs → Made (map (edit_of (meets t x).signals) cs) own count (Some (why, s))
      → Lines m (at b) t (r ∷ rs) own (meets t x) count (Some (refusal why r.line (Some s)))
  taken : {b : Before} {t t' : Met} {r : Row} {rs : List Row} {own later : List Entry} {count total : ℕ}
      {end : Option FileFault} (x : Saying) (cs : List Claim)
      → r.fault ≡ None
      → says m t.signals b (words_of r) ≡ Ok x → ClaimsNow x cs
      → Made (map (edit_of (meets t x).signals) cs) own count None
      → Lines m (behind r.line x) (meets t x) rs later t' total end
      → Lines m (at b) t (r ∷ rs) (own ++ later) t' (count + total) end
  bad_cover_text : {n : ℕ} {pins : List Name} {x : Name} {cover : List Line} {t : Met} {r : Row}
      {rs : List Row} (f : LineFault)
      → Covers (r ∷ rs) → FaultOf r f
      → Lines m (covering n pins x cover) t (r ∷ rs) [] t 0 (Some (file_fault.Text f))
  bad_cover : {n : ℕ} {pins : List Name} {x : Name} {cover : List Line} {t : Met} {r : Row} {rs : List Row}
      (f : FormFault)
      → Covers (r ∷ rs) → r.fault ≡ None
      → CoverSays (length pins) cover (words_of r) (Err f)
      → Lines m (covering n pins x cover) t (r ∷ rs) [] t 0 (Some (form f r.line))
  covered : {n : ℕ} {pins : List Name} {x : Name} {cover : List Line} {t t' : Met} {r : Row} {rs : List Row}
      {later : List Entry} {total : ℕ} {end : Option FileFault} (line : Line)
      → Covers (r ∷ rs) → r.fault ≡ None → CoverSays (length pins) cover (words_of r) (Ok line)
      → Lines m (covering n pins x (cover ++ line ∷ [])) t rs later t' total end
      → Lines m (covering n pins x cover) t (r ∷ rs) later t' total end
  gate_refused : {n : ℕ} {pins : List Name} {x : Name} {cover : List Line} {t : Met} {rs : List Row}
      {own : List Entry} {count : ℕ} (cs : List Claim) (why : Refusal) (s : ℕ)
      → (Covers rs → ⊥) → Claims (names pins x cover) cs → Made (map (edit_of t.signals) cs) own count (Some (why, s))
      → Lines m (covering n pins x cover) t rs own t count (Some (refusal why n (Some s)))
  gate : {n : ℕ} {pins : List Name} {x : Name} {cover : List Line} {t t' : Met} {rs : List Row}
      {own later : List Entry} {count total : ℕ} {end : Option FileFault} (cs : List Claim)
      → (Covers rs → ⊥) → Claims (names pins x cover) cs → Made (map (edit_of t.signals) cs) own count None
      → Lines m (at statements) t rs later t' total end
      → Lines m (covering n pins x cover) t rs (own ++ later) t' (count + total) end
  short : {p : Point} {t : Met} {r : Row} {rs : List Row} → r.fault ≡ None
      → Lines m p t (r ∷ rs) [] t 0 (Some file_fault.Memory)

abbrev pub call : Call → Result ℕ Refusal → Entry
call c r = record { call = c; reply = r }

-- ---- a whole read

-- A read may begin: the editor has signals, no batch is open, the text is within the limit, and no signal is driven.
pub record Due (m open' limit : ℕ) (n : Netlist) (text : List ℕ) : Type 0 where
  pub some : 0 < m
  pub closed : open' ≡ 0
  pub within : length text ≤ limit
  pub empty : (s : ℕ) → driver_of n s ≡ absent

-- What bars a read before its first line, of an editor of m signals with so many levels open: the first of 1,
-- 11, 30 and 40 that applies.
pub data Bars (m open' limit : ℕ) (n : Netlist) (text : List ℕ) : FileFault → Type 0 where
  no_editor : m ≡ 0 → Bars m open' limit n text (refusal NoEditor 0 None)
  batch_open : 0 < m → 0 < open' → Bars m open' limit n text (refusal BatchOpen 0 None)
  too_long : 0 < m → open' ≡ 0 → limit < length text → Bars m open' limit n text over_limit
  occupied : (s : ℕ) → 0 < m → open' ≡ 0 → length text ≤ limit → driver_of n s ≢ absent
      → Bars m open' limit n text (form Driven 0)

-- A read that is barred makes no call. Any other counts as begin, the calls of its lines in turn, and keep; at
-- a fault, drop. `opening` are its calls up to the last line's, and `closing` those behind; `before` is the
-- netlist when it is called, and `last` the one between the two.
pub data Reads (m open' limit : ℕ) (before : Netlist) (text : List ℕ) (t : Met) (last : Netlist) : List Entry
    → List Entry → Met → Result ℕ FileFault → Type 0 where
  barred : (f : FileFault) → Bars m open' limit before text f → Reads m open' limit before text t last [] [] t (Err f)
  faulty : {own : List Entry} {t' : Met} (total : ℕ) (f : FileFault) → Due m open' limit before text
      → Lines m (at nothing) t (all_rows file_rules text) own t' total (Some f)
      → Reads m open' limit before text t last (call Begin (Ok 0) ∷ own) (call Drop (Ok 0) ∷ []) t' (Err f)
  unkept : {own : List Entry} {t' : Met} (total : ℕ) (s : ℕ) → Due m open' limit before text
      → Lines m (at nothing) t (all_rows file_rules text) own t' total None
      → Missing m last s → ((a : ℕ) → a < s → Missing m last a → ⊥)
      → Reads m open' limit before text t last (call Begin (Ok 0) ∷ own)
      (call Keep (Err AbsentInUse) ∷ call Drop (Ok 0) ∷ []) t' (Err (refusal AbsentInUse 0 (Some s)))
  read : {own : List Entry} {t' : Met} {total : ℕ} → Due m open' limit before text
      → Lines m (at nothing) t (all_rows file_rules text) own t' total None
      → Reads m open' limit before text t last (call Begin (Ok 0) ∷ own) (call Keep (Ok 0) ∷ []) t' (Ok total)
