use Rattle.std.proofs.Common.{◌≡◌, take}
use Rattle.pls_parts.proofs.label_parts.lend_all.Given as goal

-- the labels so far
abbrev pub invariant-loop-i : goal.invariant-loop-i
invariant-loop-i g l = l.lent ≡ take l.i (g.L.Labels.listed l.labels)
