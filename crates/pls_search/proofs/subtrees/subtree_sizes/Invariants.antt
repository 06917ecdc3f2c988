use Rattle.pls_search.specs.inner.Passing.{IsPassing, visits_from}
use Rattle.pls_search.proofs.subtrees.subtree_sizes.Given as goal

abbrev pub invariant-loop-place : goal.invariant-loop-place
invariant-loop-place l = IsPassing l.parents (visits_from l.place) l.waits.items l.sizes.items
