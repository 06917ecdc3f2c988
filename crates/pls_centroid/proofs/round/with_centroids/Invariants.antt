use Rattle.std.proofs.Common.{◌≡◌, ◌||◌, ℕ, Bool, false, Some, length, get_or, slice_get}
use Rattle.pls_centroid.specs.inner.Rounds.{is_own}
use Rattle.pls_centroid.proofs.round.with_centroids.Given as goal

-- the flags of the first places
abbrev pub invariant-loop-place : goal.invariant-loop-place
invariant-loop-place l = record {
  each : length l.flags.items ≡ l.place;
  flag : (place : ℕ) (flag : Bool) → slice_get l.flags.items place ≡ Some flag
      → flag ≡ (get_or l.taken place false || is_own l.tops l.centroids place);
}
