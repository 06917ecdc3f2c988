use Rattle.pls_diameter_bridges.proofs.Reached.{ReachSoFar}
use Rattle.pls_diameter_bridges.proofs.diameter.has_diameter_at_most.Given as goal

abbrev pub invariant-loop-place : goal.invariant-loop-place
invariant-loop-place l = ReachSoFar l.net l.most l.place
