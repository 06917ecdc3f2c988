use Rattle.std.proofs.Common.{◌≡◌, ◌*◌, length, take}
use Rattle.std.specs.List.{sum_by}
use Rattle.pls_graph.specs.Size.{size_of}
use Rattle.pls_streams.specs.Steps.{capped}
use Rattle.pls_components.specs.Components.{items_at}
use Rattle.pls_components.proofs.part_bounds.room_parts.Given as goal

abbrev pub invariant-loop-k : goal.invariant-loop-k
invariant-loop-k g l = l.room ≡ capped (sum_by
    (λ places. length places * g.S.Scheme.longest l.scheme (size_of (items_at l.net places)))
    (take l.k l.parts))
