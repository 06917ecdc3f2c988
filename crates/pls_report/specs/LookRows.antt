-- The rows of a look, and the looks that were kept.
use Rattle.std.specs.Prelude.{ℕ, List}
use Rattle.pls_sim.specs.declared.outcome.Outcome.{Outcome}

-- what is shown of each node, and the texts of the looks that were kept
pub record ShownRows : Type 0 where
  pub rows : List (ℕ × Outcome × List ℕ)
  pub kept : List (List ℕ)
