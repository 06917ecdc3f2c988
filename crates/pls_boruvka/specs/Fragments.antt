-- Fragments of a tree of pointers: what its joined edges bring together, and the name of each
-- (Borůvka 1926, as told by Nešetřil, Milková and Nešetřilová 2001).
use Rattle.std.specs.Prelude.{◌≡◌, ℕ, ◌<◌, ◌⊎◌, Bool, false, if◌then◌else◌, List, length, filter, get_or, Contains, Option, Some, None, slice_get}
use Rattle.std.specs.List.{filter_map}
use Rattle.pls_configuration.specs.declared.row.NodeRow.{NodeRow}
use Rattle.pls_configuration.specs.Walk.{Edge, AreJoined}
use Rattle.pls_graph.specs.Places.{place_in}
use Rattle.pls_configuration.specs.WalkBy.{WalkBy}
use Rattle.pls_facts.specs.Pointer.{pointed_node}
use Rattle.pls_facts.specs.SpanningTree.{pointed_edge}

-- nodes that these edges join are of one fragment, which has the name of its one node of least
-- depth
pub record AreFragments (joined : List Edge) (nodes : List ℕ) (depth fragment : ℕ → ℕ)
    : Type 0 where
  pub one : (u v : ℕ) → Contains nodes u → Contains nodes v → AreJoined joined u v
      → fragment u ≡ fragment v
  pub known : (u : ℕ) → Contains nodes u → Contains nodes (fragment u)
  pub holds : (u : ℕ) → Contains nodes u → AreJoined joined u (fragment u)
  pub least : (u : ℕ) → Contains nodes u → (fragment u ≡ u) ⊎ (depth (fragment u) < depth u)

-- the node that a node points at, where the node's entry is true
abbrev pub next_joined : List NodeRow → List Bool → ℕ → Option ℕ
next_joined rows joined id =
    if get_or joined (place_in rows id) false then pointed_node rows id else None

-- the edges along which the nodes point whose entries are true
abbrev pub joined_edges : List NodeRow → List Bool → List Edge
joined_edges rows joined =
    filter_map pointed_edge (filter (λ row. get_or joined (place_in rows row.id) false) rows)

-- the pointers of nodes whose entries are true lead from u to `last`, and no further
pub record JoinedChainEnds (rows : List NodeRow) (joined : List Bool) (u last : ℕ) : Type 0 where
  pub nodes : List ℕ
  pub chain : WalkBy (λ one other. next_joined rows joined one ≡ Some other) u nodes last
  pub ends : next_joined rows joined last ≡ None

-- for each node, in the order of the rows, where the pointers of nodes whose entries are true lead
-- from it, and no further
pub record AreFragmentNames (rows : List NodeRow) (joined : List Bool) (names : List ℕ)
    : Type 0 where
  pub each : length names ≡ length rows
  pub name : (row : NodeRow) (place name : ℕ) → slice_get rows place ≡ Some row
      → slice_get names place ≡ Some name → JoinedChainEnds rows joined row.id name
