-- The netlist and the order that the words of a store tell.
use Rattle.std.specs.Prelude.{◌≡◌, ℕ, zero, suc, ◌+◌, ◌*◌, ◌<◌, List, [], ◌∷◌, ◌==◌, slice_index}
use Rattle.netlist.specs.Netlist.{Netlist, Driver, Signal, absent, input, gate, latch, pins_of}
use Rattle.netlist.specs.Places.{Order, place}
use Rattle.netlist.specs.Edits.{Board}
use Rattle.board.specs.Layout.{kind, output, value, seat, holder, pin}
use Rattle.board.specs.Chain.{Chained}

-- f from a number on, so many times
abbrev pub listing : {A : Type 0} → (ℕ → A) → ℕ → ℕ → List A
listing f from zero = []
listing f from (suc n) = f from ∷ listing f (suc from) n

-- the signals that pins are on, up to the first pin that is on none
abbrev pub nets : List ℕ → List ℕ
nets [] = []
nets (zero ∷ pins) = []
nets (suc a ∷ pins) = a ∷ nets pins

-- a driver by its kind, its table or start, and the signals that its pins are on
abbrev pub driven : ℕ → ℕ → List ℕ → Driver
driven zero v on = absent
driven (suc zero) v on = input
driven (suc (suc zero)) v on = gate v on
driven (suc (suc (suc k))) v on = latch v (slice_index on 0)

abbrev pub driver_at : ℕ → List ℕ → ℕ → Driver
driver_at m ws s = driven (kind m ws s) (value m ws s) (nets (pin m ws (4 * s) ∷ pin m ws (4 * s + 1) ∷ pin m ws (4 * s + 2) ∷ pin m ws (4 * s + 3) ∷ []))

abbrev pub signal_at : ℕ → List ℕ → ℕ → Signal
signal_at m ws s = record { driver = driver_at m ws s; output = (output m ws s == 1) }

abbrev pub netlist_of : ℕ → List ℕ → Netlist
netlist_of m ws = listing (signal_at m ws) 0 m

abbrev pub order_of : ℕ → List ℕ → Order
order_of m ws = listing (holder m ws) 0 m

-- the board: nothing but M and the words decides it
abbrev pub board_of : ℕ → List ℕ → Board
board_of m ws = record { netlist = netlist_of m ws; order = order_of m ws }

-- the word of pin i where the pins of a driver are on these signals
abbrev pub pin_word : List ℕ → ℕ → ℕ
pin_word [] i = 0
pin_word (a ∷ on) zero = suc a
pin_word (a ∷ on) (suc i) = pin_word on i

-- What is kept twice agrees: the chains with the pins, the pins with what drives each signal, the place of each signal with the signal at each place.
pub record Sound (m : ℕ) (ws : List ℕ) : Type 0 where
  pub chained : Chained m ws
  pub spelled : (s i : ℕ) → s < m → i < 4 → pin m ws (4 * s + i) ≡ pin_word (pins_of (driver_at m ws s)) i
  pub seated : (s : ℕ) → s < m → seat m ws s ≡ place (order_of m ws) s
