-- The signals of a netlist, from the words.
use Rattle.std.proofs.Common.{◌≡◌, ℕ, ◌<◌, ◌≤◌, false, eqb, List, get_or, ap}
use Rattle.netlist.specs.Netlist.{absent, driver_of, output_of, unused}
use Rattle.board.specs.Layout.{output}
use Rattle.board.specs.Board.{driver_at, signal_at, netlist_of}
use Rattle.board.proofs.Listing.{listing-first, listing_past}

-- the signal at a number, from the words
pub netlist_at : (m : ℕ) (ws : List ℕ) (s : ℕ) → s < m → get_or (netlist_of m ws) s unused ≡ signal_at m ws s
netlist_at m ws s lt = listing-first (signal_at m ws) m s unused lt

pub driver-at : (m : ℕ) (ws : List ℕ) (s : ℕ) → s < m → driver_of (netlist_of m ws) s ≡ driver_at m ws s
driver-at m ws s lt = ap (λ x. x.driver) (netlist_at m ws s lt)

pub driver_past : (m : ℕ) (ws : List ℕ) (s : ℕ) → m ≤ s → driver_of (netlist_of m ws) s ≡ absent
driver_past m ws s le = ap (λ x. x.driver) (listing_past (signal_at m ws) 0 m s unused le)

pub output_at : (m : ℕ) (ws : List ℕ) (s : ℕ) → s < m → output_of (netlist_of m ws) s ≡ eqb (output m ws s) 1
output_at m ws s lt = ap (λ x. x.output) (netlist_at m ws s lt)

pub output_past : (m : ℕ) (ws : List ℕ) (s : ℕ) → m ≤ s → output_of (netlist_of m ws) s ≡ false
output_past m ws s le = ap (λ x. x.output) (listing_past (signal_at m ws) 0 m s unused le)
