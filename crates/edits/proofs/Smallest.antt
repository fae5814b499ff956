-- No number below one that was come to applies.
use Rattle.std.proofs.Common.{◌≡◌, ℕ, ◌<◌, ◌≤◌, inl, ⊎_elim, arith}
use Rattle.std.proofs.lemmas.Bool.{cases_lt}
use Rattle.netlist.specs.declared.edit.Edit.{Edit}
use Rattle.netlist.specs.declared.edit.Edit.TheVariants.{Input, Output, Gate, Latch, Delete, Move}
use Rattle.netlist.specs.Netlist.{Netlist}
use Rattle.netlist.specs.Edits.{Applies, no_batch, no_signal, out_of_range, driven, wrong_kind, no_pin, in_use, looped, Beyond, named, Unranged, DrivenAlready, WrongKind, PinBeyond, StillUsed, signal_of}

pub no_less : (m levels : ℕ) (n : Netlist) (e : Edit) (b : ℕ) → b ≤ 25 → (10 < b → levels ≡ 0 → ⊥) → (12 < b → Beyond m (named e) → ⊥)
    → (13 < b → Unranged e → ⊥) → (14 < b → DrivenAlready n e → ⊥) → (15 < b → WrongKind n e → ⊥) → (16 < b → PinBeyond n e → ⊥)
    → (19 < b → StillUsed n e → ⊥) → (k : ℕ) → k < b → Applies m levels n e k → ⊥
no_less m levels n e b le f g h i j l o k lt (no_batch x) = f lt x
no_less m levels n e b le f g h i j l o k lt (no_signal x) = g lt x
no_less m levels n e b le f g h i j l o k lt (out_of_range x) = h lt x
no_less m levels n e b le f g h i j l o k lt (driven x) = i lt x
no_less m levels n e b le f g h i j l o k lt (wrong_kind x) = j lt x
no_less m levels n e b le f g h i j l o k lt (no_pin x) = l lt x
no_less m levels n e b le f g h i j l o k lt (in_use x) = o lt x
no_less m levels n e b le f g h i j l o k lt (looped xs y) = absurd (omega arith)

below : (m s : ℕ) → (m ≤ s → ⊥) → s < m
below m s h = ⊎_elim (λ lt. lt) (λ le. absurd (h le)) (cases_lt s m)

-- the signal of an edit is one that counts
pub signal-below : (m : ℕ) (e : Edit) → (Beyond m (named e) → ⊥) → signal_of e < m
signal-below m (Input s) h = below m s (λ le. h (inl le))
signal-below m (Output s v) h = below m s (λ le. h (inl le))
signal-below m (Gate s k on t) h = below m s (λ le. h (inl le))
signal-below m (Latch s a v) h = below m s (λ le. h (inl le))
signal-below m (Delete s) h = below m s (λ le. h (inl le))
signal-below m (Move s i a) h = below m s (λ le. h (inl le))
