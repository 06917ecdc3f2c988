-- The ports that lead from the nodes nearer to one end of an edge to the others.
use Rattle.std.specs.Prelude.{◌≡◌, ℕ, ◌<◌, nat_lt, ◌==◌, Bool, true, false, not, ◌&&◌, ◌||◌, List, length, Contains, slice_get, Option, Some, None}
use Rattle.pls_configuration.specs.declared.row.NodeRow.{NodeRow}
use Rattle.pls_configuration.specs.Walk.{AreJoined, Edge, Joins, edges_of}
use Rattle.pls_graph.specs.Places.{beside}
use Rattle.pls_diameter_bridges.specs.Bridgeless.{without}

-- a level that is found; 0 where there is none
abbrev pub level_in : Option (Option ℕ) → ℕ
level_in None = 0
level_in (Some None) = 0
level_in (Some (Some level)) = level

-- the level of a place
abbrev pub level_at : List (Option ℕ) → ℕ → ℕ
level_at found place = level_in (slice_get found place)

-- the place is nearer to the one end than to the other
abbrev pub is_nearer : List (Option ℕ) → List (Option ℕ) → ℕ → Bool
is_nearer near far place = nat_lt (level_at near place) (level_at far place)

-- the port from one place to another does not cross, or is that of the edge
abbrev pub is_allowed : List (Option ℕ) → List (Option ℕ) → ℕ → ℕ → ℕ → ℕ → Bool
is_allowed near far place other from to =
    (not (is_nearer near far from) || is_nearer near far to) || (from == place && to == other)

-- of all ports none crosses but that of the edge
abbrev pub IsOnlyCrossing : List NodeRow → List (Option ℕ) → List (Option ℕ) → ℕ → ℕ → Type 0
IsOnlyCrossing rows near far place other =
    (from to : ℕ) → from < length rows → Contains (beside rows from) to
    → is_allowed near far place other from to ≡ true

-- some other port crosses
abbrev pub IsCrossedElsewhere : List NodeRow → List (Option ℕ) → List (Option ℕ) → ℕ → ℕ → Type 0
IsCrossedElsewhere rows near far place other =
    (from to : ℕ) × (from < length rows) × Contains (beside rows from) to
    × (is_allowed near far place other from to ≡ false)

-- the nodes at two places are joined by the edges but that between them
abbrev pub HasWayRound : List NodeRow → ℕ → ℕ → Type 0
HasWayRound rows place other =
    (one two : NodeRow) (edge : Edge) → slice_get rows place ≡ Some one
    → slice_get rows other ≡ Some two → Contains (edges_of rows) edge → Joins edge one.id two.id
    → AreJoined (without edge (edges_of rows)) one.id two.id

-- so are the node at a place and each neighbour at a later place
abbrev pub HaveWaysRound : List NodeRow → ℕ → Type 0
HaveWaysRound rows place =
    (other : ℕ) → Contains (beside rows place) other → place < other
    → HasWayRound rows place other
