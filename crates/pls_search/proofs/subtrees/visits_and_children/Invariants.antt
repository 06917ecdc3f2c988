use Rattle.pls_search.specs.inner.Passing.{AreWaits}
use Rattle.pls_search.proofs.subtrees.visits_and_children.Given as goal

abbrev pub invariant-loop-place : goal.invariant-loop-place
invariant-loop-place l = AreWaits l.parents l.place l.waits.items
