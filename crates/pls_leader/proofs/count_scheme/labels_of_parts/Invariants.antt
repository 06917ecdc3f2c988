use Rattle.pls_leader.proofs.Nearest.{AreRightSoFar}
use Rattle.pls_leader.specs.Count.{count_says}
use Rattle.pls_leader.proofs.count_scheme.labels_of_parts.Given as goal

abbrev pub invariant-loop-place : goal.invariant-loop-place
invariant-loop-place l = AreRightSoFar (count_says l.net) l.net l.place l.labels.items
