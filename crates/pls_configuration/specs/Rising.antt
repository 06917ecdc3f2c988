-- Numbers in rising order.
use Rattle.std.specs.Prelude.{ℕ, ◌<◌, List, AllPairs}

-- each number of the list is below those behind it
abbrev pub IsRising : List ℕ → Type 0
IsRising numbers = AllPairs (λ number later. number < later) numbers
