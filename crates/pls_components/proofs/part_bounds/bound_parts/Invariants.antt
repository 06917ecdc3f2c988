use Rattle.std.proofs.Common.{◌≡◌, map, take}
use Rattle.pls_graph.specs.Size.{greatest, size_of}
use Rattle.pls_streams.specs.Steps.{capped}
use Rattle.pls_components.specs.Components.{items_at}
use Rattle.pls_components.proofs.part_bounds.bound_parts.Given as goal

abbrev pub invariant-loop-k : goal.invariant-loop-k
invariant-loop-k g l = l.most ≡ capped (greatest
    (map (λ places. g.S.Scheme.longest l.scheme (size_of (items_at l.net places))) (take l.k l.parts)))
