-- The first of the places beside one that are a level nearer.
use Rattle.std.specs.Prelude.{◌≡◌, ℕ, ◌+◌, ◌≤◌, ◌==◌, min, Bool, true, false, List, length, slice_get, slice_index_or, Contains, Option, Some, None}
use Rattle.pls_configuration.specs.declared.row.NodeRow.{NodeRow}
use Rattle.pls_graph.specs.Places.{beside}

-- one place is a level nearer than another
abbrev pub is_level_nearer : List ℕ → ℕ → ℕ → Bool
is_level_nearer levels place other =
    slice_index_or levels place 0 == slice_index_or levels other 0 + 1

-- the lesser of a place and of what was found
abbrev pub lesser : Option ℕ → ℕ → ℕ
lesser None other = other
lesser (Some found) other = min found other

-- the least of the numbers that pass, where one does
abbrev pub IsLeast : (ℕ → Bool) → List ℕ → Option ℕ → Type 0
IsLeast test numbers None = (number : ℕ) → Contains numbers number → test number ≡ false
IsLeast test numbers (Some least) = Contains numbers least × (test least ≡ true)
    × ((number : ℕ) → Contains numbers number → test number ≡ true → least ≤ number)

-- for each place the first of those beside it that are a level nearer
pub record AreNearest (rows : List NodeRow) (levels : List ℕ) (parents : List (Option ℕ))
    : Type 0 where
  pub each : length parents ≡ length rows
  pub nearest : (place : ℕ) (parent : Option ℕ) → slice_get parents place ≡ Some parent
      → IsLeast (is_level_nearer levels place) (beside rows place) parent
