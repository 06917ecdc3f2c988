use Rattle.std.proofs.Common.{◌≡◌, ◌<◌, length, All}
use Rattle.pls_diameter_bridges.proofs.descent.descend.Given as goal

-- what is listed for each place is listed for all, and the places that are named are places
abbrev pub invariant-loop-turn : goal.invariant-loop-turn
invariant-loop-turn l =
    (l.place < length l.net) × (length l.numbers.items ≡ length l.net)
    × (length l.parents.items ≡ length l.net) × (length l.looked.items ≡ length l.net)
    × All (λ place. place < length l.net) l.parents.items
