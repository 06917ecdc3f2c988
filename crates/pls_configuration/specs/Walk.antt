-- Edges and walks of a configuration, and what it means that edges join nodes (any textbook on
-- graphs).
use Rattle.std.specs.Prelude.{◌≡◌, ℕ, nat_lt, ◌⊎◌, List, map, filter, flat_map, Contains}
use Rattle.pls_configuration.specs.declared.row.NodeRow.{NodeRow}
use Rattle.pls_configuration.specs.Configuration.{ids_of}
use Rattle.pls_configuration.specs.WalkBy.{WalkBy}

-- an unordered pair of nodes with a weight; `a` is the smaller identity
pub record Edge : Type 0 where
  pub a : ℕ
  pub b : ℕ
  pub weight : ℕ

-- the edges of a node to greater ones
abbrev pub edges_from : NodeRow → List Edge
edges_from row =
    map (λ port. record { a = row.id; b = port.nbr; weight = port.weight })
    (filter (λ port. nat_lt row.id port.nbr) row.ports)

-- the edges of a configuration, each once, as the port at its smaller end lists it
abbrev pub edges_of : List NodeRow → List Edge
edges_of rows = flat_map edges_from rows

-- the edge has these two ends
abbrev pub Joins : Edge → ℕ → ℕ → Type 0
Joins edge u v = ((edge.a ≡ u) × (edge.b ≡ v)) ⊎ ((edge.a ≡ v) × (edge.b ≡ u))

-- some edge of the list has these two ends
abbrev pub Adjacent : List Edge → ℕ → ℕ → Type 0
Adjacent edges u v = (edge : Edge) × Contains edges edge × Joins edge u v

-- from u along the listed nodes each two in turn are adjacent, and the last is v
abbrev pub Walk : List Edge → ℕ → List ℕ → ℕ → Type 0
Walk edges u nodes v = WalkBy (Adjacent edges) u nodes v

-- some walk begins at one node and ends at the other
abbrev pub AreJoined : List Edge → ℕ → ℕ → Type 0
AreJoined edges u v = (nodes : List ℕ) × Walk edges u nodes v

-- between any two of the nodes there is a walk
abbrev pub JoinAll : List Edge → List ℕ → Type 0
JoinAll edges nodes = (u v : ℕ) → Contains nodes u → Contains nodes v → AreJoined edges u v

-- the edges of the configuration join all of its nodes
abbrev pub IsConnected : List NodeRow → Type 0
IsConnected rows = JoinAll (edges_of rows) (ids_of rows)
