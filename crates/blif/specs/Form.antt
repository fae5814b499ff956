-- What is wrong with the form of a line: the smallest of 33 to 38.
use Rattle.std.specs.Prelude.{◌≡◌, ℕ, zero, suc, ◌-◌, Bool, true, false, cond, ◌&&◌, List, [], ◌∷◌, length, Some, None, Ok, Err, codes, Option, Result, nat_le, take, slice_index_or}
use Rattle.std.specs.Option.{option_map_or}
use Rattle.std.specs.Str.{bytes_eq}
use Rattle.table.specs.Line.{Line, Formed, Differs}
use Rattle.table.specs.Cover.{Refuses}
use Rattle.table.specs.declared.fault.CoverFault.{CoverFault}
use Rattle.table.specs.declared.fault.CoverFault.TheVariants as cover_fault
use Rattle.names.specs.Names.{fits}
use Rattle.blif.specs.declared.form.Keyword.{Keyword}
use Rattle.blif.specs.declared.form.Keyword.TheVariants.{Model, Inputs, Outputs, Latch, Names, End}
use Rattle.blif.specs.declared.fault.FormFault.{FormFault}
use Rattle.blif.specs.declared.fault.FormFault.TheVariants.{UnknownWord, WordCount, Malformed, TooManyNames, BothWays, Misplaced}
use Rattle.blif.specs.Statement.{Name, Words, Statement, inputs, outputs, latch, names, mentioned}

-- what a line says by itself; the cover of a `.names` is on the lines that follow
pub data Saying : Type 0 where
  model : Name → Saying
  states : Statement → Saying
  finish : Saying

abbrev pub said_model : Words → Result Saying FormFault
said_model [] = Err WordCount
said_model (x ∷ []) = Ok (model x)
said_model (x ∷ (y ∷ ws)) = Err WordCount

-- a start value is one digit, 0 to 3
abbrev pub start_digit : List ℕ → Option ℕ
start_digit [] = None
start_digit (b ∷ []) = cond (nat_le 48 b && nat_le b 51) (Some (b - 48)) None
start_digit (b ∷ (c ∷ bs)) = None

abbrev pub said_latch : Words → Result Saying FormFault
said_latch [] = Err WordCount
said_latch (a ∷ []) = Err WordCount
said_latch (a ∷ x ∷ []) = Ok (states (latch a x 3))
said_latch (a ∷ x ∷ d ∷ []) = option_map_or (λ start. Ok (states (latch a x start))) (start_digit d) (Err Malformed)
said_latch (a ∷ x ∷ d ∷ (w ∷ ws)) = Err WordCount

-- up to four pins, and the gate behind them
abbrev pub said_names : Words → Result Saying FormFault
said_names ws =
    cond (nat_le 1 (length ws) && nat_le (length ws) 5)
    (Ok (states (names (take (length ws - 1) ws) (slice_index_or ws (length ws - 1) []) []))) (Err WordCount)

abbrev pub said_end : Words → Result Saying FormFault
said_end [] = Ok finish
said_end (w ∷ ws) = Err WordCount

-- the first words of lines
abbrev pub keyword_of : List ℕ → Option Keyword
keyword_of w =
    cond (bytes_eq w (codes ".model")) (Some Model)
    (cond (bytes_eq w (codes ".inputs")) (Some Inputs)
    (cond (bytes_eq w (codes ".outputs")) (Some Outputs)
    (cond (bytes_eq w (codes ".latch")) (Some Latch)
    (cond (bytes_eq w (codes ".names")) (Some Names)
    (cond (bytes_eq w (codes ".end")) (Some End) None)))))

abbrev pub said_by : Option Keyword → Words → Result Saying FormFault
said_by None ws = Err UnknownWord
said_by (Some Model) ws = said_model ws
said_by (Some Inputs) ws = Ok (states (inputs ws))
said_by (Some Outputs) ws = Ok (states (outputs ws))
said_by (Some Latch) ws = said_latch ws
said_by (Some Names) ws = said_names ws
said_by (Some End) ws = said_end ws

-- what a line that is no cover line says: 33 to 35
abbrev pub said : Words → Result Saying FormFault
said [] = Err UnknownWord
said (w ∷ ws) = said_by (keyword_of w) ws

-- what stands before a line: nothing, `.model` and statements, or `.end`
pub data Before : Type 0 where
  nothing : Before
  statements : Before
  ended : Before

-- `.model` is first and no other line is, `.end` is last
abbrev pub placed : Before → Saying → Bool
placed nothing (model x) = true
placed nothing (states s) = false
placed nothing finish = false
placed statements (model x) = false
placed statements (states s) = true
placed statements finish = true
placed ended x = false

abbrev pub named_in : Saying → List Name
named_in (model x) = []
named_in (states s) = mentioned s
named_in finish = []

-- the same where ns are the names met, of m at most: then 36, then 38
abbrev pub allowed : ℕ → List Name → Before → Result Saying FormFault → Result Saying FormFault
allowed m ns b (Ok x) = cond (fits m ns (named_in x)) (cond (placed b x) (Ok x) (Err Misplaced)) (Err TooManyNames)
allowed m ns b (Err f) = Err f

abbrev pub says : ℕ → List Name → Before → Words → Result Saying FormFault
says m ns b ws = allowed m ns b (said ws)

-- ---- cover lines

abbrev pub of_cover : CoverFault → FormFault
of_cover cover_fault.Malformed = Malformed
of_cover cover_fault.BothWays = BothWays

-- the line that the words of a cover line are, at a gate with so many pins, if they are as many as they should be
abbrev pub cover_line : ℕ → Words → Option Line
cover_line k [] = None
cover_line zero (o ∷ []) = Some (record { plane = []; output = o })
cover_line (suc k) (o ∷ []) = None
cover_line zero (p ∷ (o ∷ ws)) = None
cover_line (suc k) (p ∷ o ∷ []) = Some (record { plane = p; output = o })
cover_line (suc k) (p ∷ o ∷ (w ∷ ws)) = None

abbrev pub CoverFaulty : ℕ → List Line → Option Line → FormFault → Type 0
CoverFaulty k lines None f = f ≡ WordCount
CoverFaulty k lines (Some line) f = (g : CoverFault) × Refuses k lines line g × (f ≡ of_cover g)

-- what a cover line says behind those lines: 34, 35, 37
abbrev pub CoverSays : ℕ → List Line → Words → Result Line FormFault → Type 0
CoverSays k lines ws (Ok line) = (cover_line k ws ≡ Some line) × Formed k line × (Differs lines line → ⊥)
CoverSays k lines ws (Err f) = CoverFaulty k lines (cover_line k ws) f
