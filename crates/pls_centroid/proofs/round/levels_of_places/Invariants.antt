use Rattle.std.proofs.Common.{◌≡◌, ℕ, Option, Some, length, slice_get}
use Rattle.pls_centroid.specs.declared.level.CentroidLevel.{CentroidLevel}
use Rattle.pls_centroid.specs.inner.Rounds.{said_at}
use Rattle.pls_centroid.proofs.round.levels_of_places.Given as goal

-- what is said of the first places
abbrev pub invariant-loop-place : goal.invariant-loop-place
invariant-loop-place l = record {
  each : length l.said.items ≡ l.place;
  entry : (place : ℕ) (entry : Option CentroidLevel) → slice_get l.said.items place ≡ Some entry
      → entry ≡ said_at l.net l.taken l.tops l.centroids l.ways place;
}
