use Rattle.std.proofs.Common.{◌≡◌, length}
use Rattle.pls_example_routers.proofs.nodes.labels_of.Given as goal

abbrev pub invariant-loop-i : goal.invariant-loop-i
invariant-loop-i l = length l.labels ≡ length l.nodes
