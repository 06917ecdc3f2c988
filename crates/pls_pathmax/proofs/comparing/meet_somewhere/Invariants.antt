use Rattle.std.proofs.Common.{◌≡◌, ◌≤◌, List, drop}
use Rattle.std.specs.List.{list_any, zip}
use Rattle.pls_centroid.specs.declared.level.CentroidLevel.{CentroidLevel}
use Rattle.pls_pathmax.specs.Rules.{meet_lightly}
use Rattle.pls_pathmax.specs.inner.Reading.{AreLeft}
use Rattle.pls_pathmax.proofs.comparing.meet_somewhere.Given as goal

-- the levels behind those that were compared are left, and what is asked is asked of these
abbrev pub invariant-loop : goal.invariant-loop
invariant-loop g l = record {
  within : l.counter ≤ l.count;
  mine : (here : List CentroidLevel) → AreLeft l.initial.mine here
      → AreLeft l.mine (drop l.counter here);
  theirs : (there : List CentroidLevel) → AreLeft l.initial.theirs there
      → AreLeft l.theirs (drop l.counter there);
  all : (here there : List CentroidLevel) → AreLeft l.initial.mine here
      → AreLeft l.initial.theirs there
      → list_any (λ both. meet_lightly l.weight both.0 both.1) (zip here there)
      ≡ list_any (λ both. meet_lightly l.weight both.0 both.1)
      (zip (drop l.counter here) (drop l.counter there));
}
