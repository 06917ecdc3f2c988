use Rattle.std.proofs.Common.{◌≡◌, ◌+◌, ◌++◌, ◌<◌, ◌^◌, map, take, All, IsPermutation}
use Rattle.pls_configuration.specs.declared.row.Port.{Port}
use Rattle.std.specs.BinaryHeap.{IsHeap, heap_items, heap_len}
use Rattle.pls_search.specs.inner.Ahead.{by_weight, reached_at}
use Rattle.pls_search.proofs.lightest.look_beside.Given as goal

abbrev pub invariant-loop-p : goal.invariant-loop-p
invariant-loop-p l =
    IsHeap by_weight (heap_items l.ahead) × (heap_len l.ahead ≡ heap_len l.initial.ahead + l.p)
    × IsPermutation
    (heap_items l.initial.ahead ++ map (reached_at l.net l.weight) (take l.p l.port-items))
    (heap_items l.ahead)
    × All (λ (port : Port). port.weight < 2 ^ 32) (take l.p l.port-items)
