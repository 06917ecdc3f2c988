-- The least weights of walks from one node.
use Rattle.std.specs.Prelude.{◌≡◌, ℕ, List, length, slice_get, Option, Some, None}
use Rattle.pls_configuration.specs.declared.row.NodeRow.{NodeRow}
use Rattle.pls_configuration.specs.Walk.{AreJoined, edges_of}
use Rattle.pls_facts.specs.Weight.{IsDistance}

-- what is found for v: its distance from u, or that no walk from u leads there
abbrev pub IsDistanceFound : List NodeRow → ℕ → ℕ → Option ℕ → Type 0
IsDistanceFound rows u v None = AreJoined (edges_of rows) u v → ⊥
IsDistanceFound rows u v (Some weight) = IsDistance rows u v weight

-- what is found for each node, in the order of the rows, from the node at a place
pub record AreDistances (rows : List NodeRow) (root : ℕ) (found : List (Option ℕ)) : Type 0 where
  pub each : length found ≡ length rows
  pub distance : (first row : NodeRow) (place : ℕ) (entry : Option ℕ)
      → slice_get rows root ≡ Some first
      → slice_get rows place ≡ Some row → slice_get found place ≡ Some entry
      → IsDistanceFound rows first.id row.id entry
