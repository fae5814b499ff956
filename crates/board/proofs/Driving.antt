-- What the kind of a signal says of its driver.
use Rattle.std.proofs.Common.{◌≡◌, ℕ, zero, suc, ◌<◌, ◌≤◌, List, sym, refl, ap, ◌∙◌}
use Rattle.netlist.specs.Netlist.{driver_of}
use Rattle.board.specs.declared.kind.Kind.TheVariants.{Absent}
use Rattle.board.specs.Kinds.{kind_of, kind_by}
use Rattle.board.specs.Layout.{kind, value}
use Rattle.board.specs.Board.{driven, netlist_of}
use Rattle.board.proofs.Signals.{driver-at, driver_past}

kind-driven : (k v : ℕ) (on : List ℕ) → kind_by k ≡ kind_of (driven k v on)
kind-driven zero v on = refl
kind-driven (suc zero) v on = refl
kind-driven (suc (suc zero)) v on = refl
kind-driven (suc (suc (suc k))) v on = refl

pub kind-told : (m : ℕ) (ws : List ℕ) (s : ℕ) → s < m → kind_by (kind m ws s) ≡ kind_of (driver_of (netlist_of m ws) s)
kind-told m ws s lt = kind-driven (kind m ws s) (value m ws s) _ ∙ ap kind_of (sym (driver-at m ws s lt))

pub kind_past : (m : ℕ) (ws : List ℕ) (s : ℕ) → m ≤ s → Absent ≡ kind_of (driver_of (netlist_of m ws) s)
kind_past m ws s le = ap kind_of (sym (driver_past m ws s le))
