-- Levels from the node at a place.
use Rattle.std.specs.Prelude.{◌≡◌, ℕ, List, length, slice_get, Some}
use Rattle.pls_configuration.specs.declared.row.NodeRow.{NodeRow}
use Rattle.pls_configuration.specs.Walk.{edges_of}
use Rattle.pls_graph.specs.Levels.{IsLevel}

-- the fewest edges of any walk from the node at a place to each node, in the order of the rows
pub record AreLevelsFrom (rows : List NodeRow) (place : ℕ) (levels : List ℕ) : Type 0 where
  pub each : length levels ≡ length rows
  pub level : (first row : NodeRow) (i level : ℕ) → slice_get rows place ≡ Some first
      → slice_get rows i ≡ Some row → slice_get levels i ≡ Some level
      → IsLevel (edges_of rows) first.id row.id level
