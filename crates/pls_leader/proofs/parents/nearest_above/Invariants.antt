use Rattle.pls_leader.proofs.Nearest.{AreNearestSoFar}
use Rattle.pls_leader.proofs.parents.nearest_above.Given as goal

abbrev pub invariant-loop-place : goal.invariant-loop-place
invariant-loop-place l = AreNearestSoFar l.net l.levels l.place l.parents.items
