use Rattle.std.proofs.Common.{◌≡◌, map, take}
use Rattle.pls_example_weights.specs.SameWeights.{first_weights}
use Rattle.pls_example_weights.proofs.marker.all_weights.Given as goal

-- the labels of the nodes so far
abbrev pub invariant-loop-i : goal.invariant-loop-i
invariant-loop-i l = l.labels.items ≡ map first_weights (take l.i l.net)
