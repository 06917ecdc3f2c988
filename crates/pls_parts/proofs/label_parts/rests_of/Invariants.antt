use Rattle.std.proofs.Common.{◌≡◌, drop, map, take}
use Rattle.pls_parts.proofs.label_parts.rests_of.Given as goal

-- what stands behind the first bits so far
abbrev pub invariant-loop-i : goal.invariant-loop-i
invariant-loop-i l = l.rests ≡ map (drop 1) (take l.i l.labels)
