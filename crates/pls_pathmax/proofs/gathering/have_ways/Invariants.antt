use Rattle.std.proofs.Common.{◌≡◌, ◌<◌, ◌||◌, ℕ, true, false, List, Some, drop, get_or, slice_get}
use Rattle.pls_centroid.specs.declared.level.CentroidLevel.{CentroidLevel}
use Rattle.pls_pathmax.specs.inner.Glance.{is_own_level}
use Rattle.pls_pathmax.specs.inner.Reading.{AreLeft}
use Rattle.pls_pathmax.proofs.gathering.have_ways.Given as goal

-- the levels behind those that were asked are left, and of these it holds
abbrev pub invariant-loop-number : goal.invariant-loop-number
invariant-loop-number g l = record {
  left : (levels : List CentroidLevel) → AreLeft l.initial.numbers levels
      → AreLeft l.numbers (drop l.number levels);
  hold : (levels : List CentroidLevel) → AreLeft l.initial.numbers levels → (k : ℕ)
      (level : CentroidLevel) → k < l.number → slice_get levels k ≡ Some level
      → (is_own_level l.own level || get_or l.led_on k false) ≡ true;
}
