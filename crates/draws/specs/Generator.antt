-- A linear congruential generator on 64 bits, and the number below a bound that a state gives.
use Rattle.std.specs.Prelude.{ℕ, zero, suc, ◌+◌, ◌*◌, ◌/◌, ◌%◌, ◌^◌}

abbrev pub next_state : ℕ → ℕ
next_state state = (state * 6364136223846793005 + 1442695040888963407) % 2 ^ 64

-- the lower 33 bits repeat soonest, so they are left out
abbrev pub drawn : ℕ → ℕ → ℕ
drawn state zero = 0
drawn state (suc n) = (state / 2 ^ 33) % suc n
