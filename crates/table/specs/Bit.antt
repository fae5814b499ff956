use Rattle.std.specs.Prelude.{ℕ, ◌/◌, ◌%◌, ◌^◌}

-- Bit i of n. In a minterm it is what pin i carries; in a table it is the value at minterm i.
abbrev pub bit : ℕ → ℕ → ℕ
bit n i = n / 2 ^ i % 2
