-- Networks that stay in one part when any one edge is left out (any textbook on graphs: an edge
-- without which the nodes fall into two parts is a bridge).
use Rattle.std.specs.Prelude.{not, List, Contains}
use Rattle.std.specs.List.{filter}
use Rattle.pls_configuration.specs.declared.row.NodeRow.{NodeRow}
use Rattle.pls_configuration.specs.Configuration.{ids_of}
use Rattle.pls_configuration.specs.Walk.{Edge, JoinAll, edges_of}
use Rattle.pls_facts.specs.EdgeOrder.{is_same_edge}

-- the edges but this one
abbrev pub without : Edge → List Edge → List Edge
without edge edges = filter (λ other. not (is_same_edge edge other)) edges

-- for each edge, the other edges join all nodes
abbrev pub IsBridgeless : List NodeRow → Type 0
IsBridgeless rows =
    (edge : Edge) → Contains (edges_of rows) edge
    → JoinAll (without edge (edges_of rows)) (ids_of rows)
