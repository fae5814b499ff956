use Rattle.std.specs.Prelude.{ℕ, ◌^◌, ◌<◌, ◌≤◌}

-- A gate has at most four pins, and its table no bit at or above 2 ^ pins.
abbrev pub IsTable : ℕ → ℕ → Type 0
IsTable pins bits = (pins ≤ 4) × (bits < 2 ^ (2 ^ pins))
