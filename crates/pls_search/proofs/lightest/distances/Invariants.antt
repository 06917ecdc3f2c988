use Rattle.std.proofs.Common.{◌+◌, ◌*◌, count_by, is_none, heap_items, heap_len}
use Rattle.std.specs.BinaryHeap.{IsHeap}
use Rattle.pls_search.specs.inner.Ahead.{by_weight}
use Rattle.pls_search.proofs.Reaching.{Reaching}
use Rattle.pls_configuration.specs.declared.limits.TheConstants.{MAX_PORTS}
use Rattle.pls_search.proofs.lightest.distances.Given as goal

abbrev pub invariant-loop-weight : goal.invariant-loop-weight
invariant-loop-weight l =
    Reaching l.net l.root l.found.items (heap_items l.ahead)
    × IsHeap by_weight (heap_items l.ahead)

-- a place that is entered adds its neighbours, and is entered once
abbrev pub decreases-loop-weight : goal.decreases-loop-weight
decreases-loop-weight l =
    count_by is_none l.found.items * (MAX_PORTS + 1) + heap_len l.ahead
