use Rattle.std.proofs.Common.{◌≡◌, map, take}
use Rattle.pls_scheme_tests.specs.IndependentSet.{mark_of}
use Rattle.pls_scheme_tests.proofs.independent_set.marks_of.Given as goal

-- the labels of the nodes so far
abbrev pub invariant-loop-i : goal.invariant-loop-i
invariant-loop-i l = l.labels.items ≡ map mark_of (take l.i l.net)
