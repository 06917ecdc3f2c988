-- Lines of rows of which some have changed since.
use Rattle.std.specs.Prelude.{◌≡◌, ℕ, Bool, false, List, length, slice_get, Some}
use Rattle.pls_sim.specs.declared.outcome.Outcome.{Outcome}
use Rattle.pls_report.specs.inner.Kept.{row_line}

-- the lines are those of the rows, but for the rows that changed
pub record AreRenewed (rows : List (ℕ × Outcome × List ℕ)) (changed : List Bool)
    (lines : List (List ℕ)) : Type 0 where
  pub each : length changed ≡ length rows
  pub as_many : length lines ≡ length rows
  pub same : (i : ℕ) (row : ℕ × Outcome × List ℕ) → slice_get rows i ≡ Some row
      → slice_get changed i ≡ Some false → slice_get lines i ≡ Some (row_line row)
