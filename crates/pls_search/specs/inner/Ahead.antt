-- The places that a search by weights is still to look at, each with the weight of a walk there.
use Rattle.std.specs.Prelude.{◌≡◌, ℕ, ◌+◌, ◌^◌, ◌<◌, List, ◌++◌, map, All, slice_get, Some, IsPermutation}
use Rattle.std.specs.Ordering.{nat_cmp, ordering_then}
use Rattle.std.specs.declared.cmp.Ordering.{Ordering}
use Rattle.std.specs.declared.cmp.Reverse.{Reverse}
use Rattle.pls_configuration.specs.declared.row.Port.{Port}
use Rattle.pls_configuration.specs.declared.row.NodeRow.{NodeRow}
use Rattle.pls_graph.specs.Places.{place_in}

-- a place and the weight of a walk that reaches it
abbrev pub Ahead : Type 0
Ahead = Reverse (ℕ × ℕ)

-- the lighter comes first
abbrev pub by_weight : Ahead → Ahead → Ordering
by_weight one other = ordering_then (nat_cmp other.0.0 one.0.0) (nat_cmp other.0.1 one.0.1)

-- a place ahead
abbrev pub reached_by : ℕ → ℕ → Ahead
reached_by weight place = record { 0 = (weight, place) }

-- the neighbour at a port, reached through a node that is reached by this weight
abbrev pub reached_at : List NodeRow → ℕ → Port → Ahead
reached_at rows weight port = reached_by (weight + port.weight) (place_in rows port.nbr)

-- the neighbours of the node at a place stand ahead as well
abbrev pub AddBeside : List NodeRow → ℕ → ℕ → List Ahead → List Ahead → Type 0
AddBeside rows place weight old new = (row : NodeRow) → slice_get rows place ≡ Some row
    → IsPermutation (old ++ map (reached_at rows weight) row.ports) new

-- the edges of the node at a place have weights of 32 bits
abbrev pub AreLight : List NodeRow → ℕ → Type 0
AreLight rows place = (row : NodeRow) → slice_get rows place ≡ Some row
    → All (λ port. port.weight < 2 ^ 32) row.ports
