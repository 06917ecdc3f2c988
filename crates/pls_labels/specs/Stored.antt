-- Labels and the room for more.
use Rattle.std.specs.Prelude.{ℕ, ◌+◌, ◌*◌, ◌/◌, Bool, List}

-- the labels, and how many bits can still be put without memory
pub record Stored : Type 0 where
  pub labels : List (List Bool)
  pub spare : ℕ

-- what a label of so many bits costs: each begins at a word of its own
abbrev pub cost : ℕ → ℕ
cost bits = 64 * ((bits + 63) / 64)
