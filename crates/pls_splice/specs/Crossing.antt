-- Which two edges of a ring may be crossed, and what crossing them makes of the network.
use Rattle.std.specs.Prelude.{◌≡◌, ◌==◌, ◌&&◌, ℕ, ◌+◌, ◌<◌, ◌≤◌, ◌⊎◌, Bool, if◌then◌else◌, List, [], length, map, slice_get, slice_index_or, option_and_then}
use Rattle.std.specs.Option.{option_map_or}
use Rattle.pls_configuration.specs.declared.row.Port.{Port}
use Rattle.pls_configuration.specs.declared.row.NodeRow.{NodeRow}
use Rattle.pls_configuration.specs.Configuration.{port_to}
use Rattle.pls_splice.specs.Ring.{head_of, tail_of}
use Rattle.pls_splice.specs.declared.crossing.Ends.{Ends}

-- the identity of the node at a place
abbrev pub id_at : List NodeRow → ℕ → ℕ
id_at rows place = option_map_or (λ row. row.id) (slice_get rows place) 0

-- the weight of the edge from one node to another, by their places, and 0 where there is none
abbrev pub weight_between : List NodeRow → ℕ → ℕ → ℕ
weight_between rows i j = option_map_or (λ port. port.weight)
    (option_and_then (λ row. port_to row (id_at rows j)) (slice_get rows i)) 0

-- the weight of edge i
abbrev pub ring_edge_weight : List NodeRow → List ℕ → ℕ → ℕ
ring_edge_weight rows order i = weight_between rows (tail_of order i) (head_of order i)

-- the label of the node at a place
abbrev pub label_at : List (List Bool) → ℕ → List Bool
label_at labels place = slice_index_or labels place []

-- edges i and j agree in their weights, in the labels at their tails and in those at their heads
pub record AreAlike (rows : List NodeRow) (labels : List (List Bool)) (order : List ℕ) (i j : ℕ)
    : Type 0 where
  pub weights : ring_edge_weight rows order i ≡ ring_edge_weight rows order j
  pub tails : label_at labels (tail_of order i) ≡ label_at labels (tail_of order j)
  pub heads : label_at labels (head_of order i) ≡ label_at labels (head_of order j)

-- edges i and j may be crossed: i is the smaller number, at least three nodes are on each side, and
-- the edges are alike
pub record IsPair (rows : List NodeRow) (labels : List (List Bool)) (order : List ℕ) (i j : ℕ)
    : Type 0 where
  pub within : j < length order
  pub apart : i + 3 ≤ j
  pub around : j + 3 ≤ length order + i
  pub alike : AreAlike rows labels order i j

-- no two edges may be crossed
abbrev pub HasNoPair : List NodeRow → List (List Bool) → List ℕ → Type 0
HasNoPair rows labels order = (i j : ℕ) → ¬ IsPair rows labels order i j

-- edges i and j may be crossed, no edge before i may be with any, and none before j with i
pub record IsFirstPair (rows : List NodeRow) (labels : List (List Bool)) (order : List ℕ) (i j : ℕ)
    : Type 0 where
  pub pair : IsPair rows labels order i j
  pub first : (k l : ℕ) → IsPair rows labels order k l → (i < k) ⊎ ((i ≡ k) × (j ≤ l))

-- the identities at the ends of edges i and j
abbrev pub ends_of : List NodeRow → List ℕ → ℕ → ℕ → Ends
ends_of rows order i j = record {
  tail = id_at rows (tail_of order i);
  head = id_at rows (head_of order i);
  other_tail = id_at rows (tail_of order j);
  other_head = id_at rows (head_of order j);
}

-- whom a node names at a port that named this neighbour: each tail the head of the other edge, each
-- head its new tail, and at all other ports the neighbour is as before
abbrev pub named_after : Ends → ℕ → ℕ → ℕ
named_after ends own nbr =
    if (own == ends.tail && nbr == ends.head) then ends.other_head
    else if (own == ends.other_tail && nbr == ends.other_head) then ends.head
    else if (own == ends.head && nbr == ends.tail) then ends.other_tail
    else if (own == ends.other_head && nbr == ends.other_tail) then ends.tail
    else nbr

-- a port of a node with its neighbour after the crossing; it keeps its weight
abbrev pub cross_port : Ends → ℕ → Port → Port
cross_port ends own port = record port { nbr = named_after ends own port.nbr }

-- a row with its neighbours after the crossing; its ports keep their places
abbrev pub cross_row : Ends → NodeRow → NodeRow
cross_row ends row = record row { ports = map (cross_port ends row.id) row.ports }

-- the rows, with edges i and j crossed
abbrev pub crossed_rows : List NodeRow → List ℕ → ℕ → ℕ → List NodeRow
crossed_rows rows order i j = map (cross_row (ends_of rows order i j)) rows
