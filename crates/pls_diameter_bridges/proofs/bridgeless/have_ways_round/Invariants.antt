use Rattle.std.proofs.Common.{◌<◌, ℕ, get_or}
use Rattle.pls_diameter_bridges.specs.inner.Crossing.{HasWayRound}
use Rattle.pls_diameter_bridges.proofs.bridgeless.have_ways_round.Given as goal

-- there is a way round the edges to the later neighbours so far
abbrev pub invariant-loop-other : goal.invariant-loop-other
invariant-loop-other l =
    (k d : ℕ) → k < l.other-index → l.place < get_or l.other-items k d
    → HasWayRound l.net l.place (get_or l.other-items k d)
