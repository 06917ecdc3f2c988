use Rattle.std.proofs.Common.{◌≡◌, ◌<◌, length, All}
use Rattle.pls_diameter_bridges.proofs.orientation.reach_beside.Given as goal

-- there is a rank for each place, and what is reached are places
abbrev pub invariant-loop-from : goal.invariant-loop-from
invariant-loop-from l =
    (length l.homes.items ≡ length l.net) × All (λ place. place < length l.net) l.reached.items
