use Rattle.std.proofs.Common.{◌≡◌, ◌<◌, ℕ, List, Some, length, slice_get}
use Rattle.pls_configuration.specs.declared.row.NodeRow.{NodeRow}
use Rattle.pls_configuration.specs.Walk.{Edge}
use Rattle.pls_centroid.specs.inner.Rooted.{AreFirstCentral, IsStage}
use Rattle.pls_centroid.proofs.splitting.centroids_of.Given as goal

-- at each top the first central place of its piece, of the first places
abbrev pub invariant-loop-place : goal.invariant-loop-place
invariant-loop-place l = record {
  each : length l.centroids.items ≡ length l.left;
  first : (rows : List NodeRow) (edges : List Edge) → IsStage rows edges l.left l.tops
      → AreFirstCentral rows edges l.tops l.place l.centroids.items;
  inside : (place c : ℕ) → slice_get l.centroids.items place ≡ Some (Some c) → c < length l.left;
}
