use Rattle.std.proofs.Common.{◌≡◌, map, take}
use Rattle.pls_recheck.proofs.monitor.remember_all.Given as goal

-- the labels so far are remembered
abbrev pub invariant-loop-i : goal.invariant-loop-i
invariant-loop-i g l =
    l.memories.items ≡ map (g.K.Remembers.told l.checker) (take l.i l.labels)
