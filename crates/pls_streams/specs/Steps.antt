-- A counter that stays at the last value of a u64.
use Rattle.std.specs.Prelude.{ℕ, ◌+◌, ◌-◌, ◌^◌, min, max}

-- a count that rose by k, or as far as 2^64 - 1
abbrev pub up_by : ℕ → ℕ → ℕ
up_by k n = max n (min (n + k) (2 ^ 64 - 1))

-- a number as 64 bits can say it: 2^64 - 1 where it is greater
abbrev pub capped : ℕ → ℕ
capped number = min number (2 ^ 64 - 1)
