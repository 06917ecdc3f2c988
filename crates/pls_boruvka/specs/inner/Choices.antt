-- The edges that leave fragments, as the method compares them.
use Rattle.std.specs.Prelude.{◌≡◌, ◌≢◌, ℕ, ◌<◌, ◌⊎◌, min, max, if◌then◌else◌, List, length, Contains, Option, Some, None, slice_get, slice_index_or}
use Rattle.std.specs.Option.{is_some}
use Rattle.pls_configuration.specs.declared.row.Port.{Port}
use Rattle.pls_configuration.specs.declared.row.NodeRow.{NodeRow}
use Rattle.pls_configuration.specs.Walk.{Edge}
use Rattle.pls_graph.specs.Places.{place_in}
use Rattle.pls_facts.specs.EdgeOrder.{edge_key}
use Rattle.pls_facts.specs.Precedes.{IsAtMost}
use Rattle.pls_facts.specs.SpanningTree.{edge_at, pointed_edge, pointed_edges}
use Rattle.pls_boruvka.specs.declared.choice.Choice.{Choice}
use Rattle.pls_boruvka.specs.inner.Tops.{parent_at}

-- the edge
abbrev pub edge_of : Choice → Edge
edge_of choice = record { a = choice.a; b = choice.b; weight = choice.weight }

-- what orders it
abbrev pub key_of : Choice → List ℕ
key_of choice = edge_key (edge_of choice) (if is_some choice.child then 0 else 1)

-- at this place stands the node that points along the edge, or none does
abbrev pub IsChildOf : List NodeRow → Edge → Option ℕ → Type 0
IsChildOf rows edge None = Contains (pointed_edges rows) edge → ⊥
IsChildOf rows edge (Some place) =
    (row : NodeRow) × (slice_get rows place ≡ Some row) × (pointed_edge row ≡ Some edge)

-- what is kept of an edge is right
pub record IsChoice (rows : List NodeRow) (edge : Edge) (choice : Choice) : Type 0 where
  pub is : edge_of choice ≡ edge
  pub child : IsChildOf rows edge choice.child

-- the edge at a port of the node with this identity
abbrev pub choice_at : ℕ → Port → Option ℕ → Choice
choice_at id port child = record {
  weight = port.weight;
  child = child;
  a = min id port.nbr;
  b = max id port.nbr;
}

-- of two places the one whose parent is the other, or neither is
abbrev pub ChildOf : List (Option ℕ) → ℕ → ℕ → Option ℕ → Type 0
ChildOf parents place other None =
    (parent_at parents place ≢ Some other) × (parent_at parents other ≢ Some place)
ChildOf parents place other (Some child) =
    ((child ≡ place) × (parent_at parents place ≡ Some other))
    ⊎ ((child ≡ other) × (parent_at parents other ≡ Some place))

-- the top of a place
abbrev pub top_at : List ℕ → ℕ → ℕ
top_at tops place = slice_index_or tops place 0

-- an edge at one of so many ports of the node at a place leads to another fragment
pub record LeavesAt (rows : List NodeRow) (tops : List ℕ) (place count : ℕ) (choice : Choice)
    : Type 0 where
  pub row : NodeRow
  pub port : Port
  pub number : ℕ
  pub at : slice_get rows place ≡ Some row
  pub has : slice_get row.ports number ≡ Some port
  pub early : number < count
  pub apart : top_at tops (place_in rows port.nbr) ≢ top_at tops place
  pub right : IsChoice rows (edge_at row port) choice

-- an edge at any of its ports does
abbrev pub LeavesPlace : List NodeRow → List ℕ → ℕ → Choice → Type 0
LeavesPlace rows tops place choice = (count : ℕ) × LeavesAt rows tops place count choice

-- an edge leads from one of the first places to another fragment than its own, which has this top
abbrev pub LeavesTop : List NodeRow → List ℕ → ℕ → ℕ → Choice → Type 0
LeavesTop rows tops count top choice = (place : ℕ) × (place < count) × (top_at tops place ≡ top)
    × LeavesPlace rows tops place choice

-- the first of such edges, if there are any
abbrev pub IsFirstOf : (Choice → Type 0) → Option Choice → Type 0
IsFirstOf Such None = (choice : Choice) → Such choice → ⊥
IsFirstOf Such (Some first) =
    Such first × ((other : Choice) → Such other → IsAtMost (key_of first) (key_of other))

-- at each top the first edge that leaves its fragment from one of the first places
pub record AreChoices (rows : List NodeRow) (tops : List ℕ) (count : ℕ)
    (choices : List (Option Choice)) : Type 0 where
  pub each : length choices ≡ length rows
  pub first : (top : ℕ) → top < length rows
      → IsFirstOf (LeavesTop rows tops count top) (slice_index_or choices top None)

-- there is an edge, and it weighs less than this
abbrev pub IsLighter : Option Choice → ℕ → Type 0
IsLighter None weight = ⊥
IsLighter (Some one) weight = one.weight < weight

-- the earlier of two edges, where there are two
abbrev pub IsEarlier : Option Choice → Option Choice → Option Choice → Type 0
IsEarlier None other result = result ≡ other
IsEarlier (Some one) None result = result ≡ Some one
IsEarlier (Some one) (Some other) result =
    ((result ≡ Some one) × IsAtMost (key_of one) (key_of other))
    ⊎ ((result ≡ Some other) × IsAtMost (key_of other) (key_of one))
