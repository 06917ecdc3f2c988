use Rattle.std.proofs.Common.{take}
use Rattle.pls_leader.specs.inner.Nearest.{IsLeast, is_level_nearer}
use Rattle.pls_leader.proofs.parents.nearest_at.Given as goal

abbrev pub invariant-loop-other : goal.invariant-loop-other
invariant-loop-other l =
    IsLeast (is_level_nearer l.levels l.place) (take l.other-index l.other-items) l.nearest
