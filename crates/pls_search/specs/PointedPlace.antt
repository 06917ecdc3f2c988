-- Where the pointer of a node leads, by places.
use Rattle.std.specs.Prelude.{◌≡◌, ℕ, List, slice_get, Option, Some, None}
use Rattle.pls_configuration.specs.declared.row.NodeRow.{NodeRow}
use Rattle.pls_facts.specs.Pointer.{pointed_node}

-- the node at a place points at the node at that place, or at none
abbrev pub PointsTo : List NodeRow → ℕ → Option ℕ → Type 0
PointsTo rows place None = (row : NodeRow) → slice_get rows place ≡ Some row
    → pointed_node rows row.id ≡ None
PointsTo rows place (Some to) = (row : NodeRow) → slice_get rows place ≡ Some row
    → (other : NodeRow) × (slice_get rows to ≡ Some other)
    × (pointed_node rows row.id ≡ Some other.id)
