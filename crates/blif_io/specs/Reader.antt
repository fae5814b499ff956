-- What the reading of all rows leaves.
use Rattle.std.specs.Prelude.{◌≡◌, ℕ, List, [], Some, None, Ok, Err, Result}
use Rattle.editor.specs.Log.{Entry}
use Rattle.desk.specs.State.{State}
use Rattle.blif.specs.declared.fault.FileFault.{FileFault}
use Rattle.blif.specs.Form.{nothing}
use Rattle.blif.specs.Rows.{Row}
use Rattle.blif.specs.File.{Met, Point, at, Lines}
use Rattle.blif.specs.Chain.{Chain}

-- the calls of rows, the sum of their counts, and the fault that ends them
abbrev pub ReadsRows : State → Met → List Row → State → Met → Result ℕ FileFault → Type 0
ReadsRows d t rows d' t' (Ok total) = (own : List Entry) × Chain d own d'
    × Lines d.editor.signals (at nothing) t rows own t' total None
ReadsRows d t rows d' t' (Err f) = (own : List Entry) × Chain d own d'
    × ((total : ℕ) × Lines d.editor.signals (at nothing) t rows own t' total (Some f))

-- behind the last row
abbrev pub Finishes : ℕ → State → Met → Point → State → Result ℕ FileFault → Type 0
Finishes m d t p d' (Ok total) = (total ≡ 0) × (d' ≡ d) × Lines m p t [] [] t 0 None
Finishes m d t p d' (Err f) = (own : List Entry) × Chain d own d'
    × ((total : ℕ) × Lines m p t [] own t total (Some f))
