-- What a call says of the board that it was given, carried to a board of as many signals.
use Rattle.std.proofs.Common.{◌≡◌, ℕ, suc, ◌*◌, ◌<◌, List, subst}
use Rattle.board.specs.Layout.{pin}
use Rattle.board.specs.Chain.{Chained, Repins}
use Rattle.edits.specs.Cells.{Wirable, Changed, cell_at, as_wired}

abbrev pub Attaches : ℕ → List ℕ → ℕ → ℕ → List ℕ → Type 0
Attaches m ws q a ws' = Chained m ws → q < 4 * m → a < m → pin m ws q ≡ 0 → Repins m ws q (suc a) ws'

abbrev pub Releases : ℕ → List ℕ → ℕ → List ℕ → Type 0
Releases m ws q ws' = Chained m ws → q < 4 * m → Repins m ws q 0 ws'

abbrev pub Wires : ℕ → List ℕ → ℕ → ℕ → List ℕ → List ℕ → Type 0
Wires m ws s k on ws' = Wirable m ws s k on → Changed m ws s (as_wired (cell_at m ws s) k on) ws'

pub attaches-same : (k m : ℕ) (ws : List ℕ) (q a : ℕ) (ws' : List ℕ) → k ≡ m → Attaches k ws q a ws' → Attaches m ws q a ws'
attaches-same k m ws q a ws' e h = subst (λ n. Attaches n ws q a ws') e h

pub releases-same : (k m : ℕ) (ws : List ℕ) (q : ℕ) (ws' : List ℕ) → k ≡ m → Releases k ws q ws' → Releases m ws q ws'
releases-same k m ws q ws' e h = subst (λ n. Releases n ws q ws') e h

pub wires-same : (j m : ℕ) (ws : List ℕ) (s k : ℕ) (on ws' : List ℕ) → j ≡ m → Wires j ws s k on ws' → Wires m ws s k on ws'
wires-same j m ws s k on ws' e h = subst (λ n. Wires n ws s k on ws') e h
