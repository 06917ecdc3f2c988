use Rattle.std.proofs.Common.{◌≡◌, take}
use Rattle.pls_components.specs.Components.{items_at}
use Rattle.pls_components.proofs.component_list.rows_of.Given as goal

abbrev pub invariant-loop-place : goal.invariant-loop-place
invariant-loop-place l = l.rows ≡ items_at l.net (take l.place-index l.places)
