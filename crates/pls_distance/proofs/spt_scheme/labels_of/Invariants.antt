use Rattle.pls_distance.specs.inner.Following.{AreLabelsSoFar}
use Rattle.pls_distance.proofs.spt_scheme.labels_of.Given as goal

abbrev pub invariant-loop-place : goal.invariant-loop-place
invariant-loop-place l = AreLabelsSoFar l.root l.depths l.found l.labels.items l.place
