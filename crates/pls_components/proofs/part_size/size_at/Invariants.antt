use Rattle.std.proofs.Common.{◌≡◌, take}
use Rattle.pls_graph.specs.Size.{size_of}
use Rattle.pls_components.specs.Components.{items_at}
use Rattle.pls_components.proofs.part_size.size_at.Given as goal

abbrev pub invariant-loop-place : goal.invariant-loop-place
invariant-loop-place l = l.size ≡ size_of (items_at l.net (take l.place-index l.places))
