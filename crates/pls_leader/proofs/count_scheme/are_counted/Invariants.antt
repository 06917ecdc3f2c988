use Rattle.pls_leader.proofs.Nearest.{AreCountedSoFar}
use Rattle.pls_leader.proofs.count_scheme.are_counted.Given as goal

abbrev pub invariant-loop-i : goal.invariant-loop-i
invariant-loop-i l = AreCountedSoFar l.net l.i
