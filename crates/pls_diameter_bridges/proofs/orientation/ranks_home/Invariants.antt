use Rattle.std.proofs.Common.{◌≡◌, ◌<◌, length, All}
use Rattle.pls_diameter_bridges.proofs.orientation.ranks_home.Given as goal

-- there is a rank for each place, and what is reached are places
abbrev pub invariant-loop-rank : goal.invariant-loop-rank
invariant-loop-rank l =
    (length l.homes.items ≡ length l.net) × All (λ place. place < length l.net) l.reached.items
