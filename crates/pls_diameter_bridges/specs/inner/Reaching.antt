-- What is said of the walks from one node.
use Rattle.std.specs.Prelude.{◌≡◌, ℕ, nat_le, Bool, false, List, Contains, slice_get, Option, Some, None}
use Rattle.pls_configuration.specs.declared.row.NodeRow.{NodeRow}
use Rattle.pls_configuration.specs.Walk.{edges_of}
use Rattle.pls_diameter_bridges.specs.Diameter.{AreWithin}

-- the level is found, and at most this
abbrev pub is_within : ℕ → Option ℕ → Bool
is_within most None = false
is_within most (Some level) = nat_le level most

-- at most so many edges lie between the node at a place and any other
abbrev pub ReachesAll : ℕ → List NodeRow → ℕ → Type 0
ReachesAll most rows place =
    (first row : NodeRow) → slice_get rows place ≡ Some first → Contains rows row
    → AreWithin (edges_of rows) most first.id row.id
