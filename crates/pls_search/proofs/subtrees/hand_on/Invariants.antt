use Rattle.std.proofs.Common.{◌+◌, ◌<◌, length}
use Rattle.std.specs.List.{sum_by}
use Rattle.pls_search.specs.inner.Passing.{and_at, IsPassing, visits_from}
use Rattle.pls_search.proofs.subtrees.hand_on.Given as goal

abbrev pub invariant-loop-waits : goal.invariant-loop-waits
invariant-loop-waits l =
    (l.place < length l.parents)
    × IsPassing l.parents (and_at l.place (visits_from (l.start + 1))) l.waits l.sizes

abbrev pub decreases-loop-waits : goal.decreases-loop-waits
decreases-loop-waits l = sum_by (λ count. count) l.waits
