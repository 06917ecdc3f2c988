use Rattle.std.proofs.Common.{take}
use Rattle.pls_facts.specs.inner.Found.{IsOnlyFound}
use Rattle.pls_facts.proofs.only.only_node.Given as goal

-- what is found among the nodes so far
abbrev pub invariant-loop-i : goal.invariant-loop-i
invariant-loop-i g l = IsOnlyFound g.T.StateTest.passes (take l.i l.net) l.only
