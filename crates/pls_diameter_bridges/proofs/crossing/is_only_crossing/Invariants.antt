use Rattle.std.proofs.Common.{◌≡◌, ◌<◌, ℕ, true, Contains}
use Rattle.pls_graph.specs.Places.{beside}
use Rattle.pls_diameter_bridges.specs.inner.Crossing.{is_allowed}
use Rattle.pls_diameter_bridges.proofs.crossing.is_only_crossing.Given as goal

-- no port of the nodes so far crosses but that of the edge
abbrev pub invariant-loop-from : goal.invariant-loop-from
invariant-loop-from l =
    (from to : ℕ) → from < l.from → Contains (beside l.net from) to
    → is_allowed l.near l.far l.place l.other from to ≡ true
