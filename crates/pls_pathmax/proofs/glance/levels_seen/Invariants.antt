use Rattle.std.proofs.Common.{◌≡◌, ◌-◌, List, drop}
use Rattle.pls_centroid.specs.declared.level.CentroidLevel.{CentroidLevel}
use Rattle.pls_levels.specs.Labels.{are_levels}
use Rattle.pls_pathmax.specs.Labels.{pathmax_levels}
use Rattle.pls_pathmax.specs.inner.Reading.{AreLeft}
use Rattle.pls_pathmax.proofs.KeptSoFar.{AreKeptSoFar}
use Rattle.pls_pathmax.proofs.Glances.{last_before}
use Rattle.pls_pathmax.proofs.glance.levels_seen.Given as goal

-- the levels behind those that were read are left, and of the ones that were the first are kept
abbrev pub invariant-loop-number : goal.invariant-loop-number
invariant-loop-number g l = record {
  all : are_levels pathmax_levels l.count l.initial.numbers
      ≡ are_levels pathmax_levels (l.count - l.number) l.numbers;
  left : (levels : List CentroidLevel) → AreLeft l.initial.numbers levels
      → AreLeft l.numbers (drop l.number levels);
  front : (levels : List CentroidLevel) → AreLeft l.initial.numbers levels
      → AreKeptSoFar g.row.N l.number l.kept l.front levels;
  last : (levels : List CentroidLevel) → AreLeft l.initial.numbers levels
      → l.last ≡ last_before levels l.number;
}
