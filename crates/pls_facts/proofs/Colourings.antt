-- Two-colourings, from the colours at the ports and from the levels.
use Rattle.std.proofs.Common.{◌≡◌, ◌≢◌, ℕ, Bool, List, Contains, nat_lt, subst}
use Rattle.std.specs.List.{filter}
use Rattle.pls_configuration.specs.declared.row.Port.{Port}
use Rattle.pls_configuration.specs.declared.row.NodeRow.{NodeRow}
use Rattle.pls_configuration.specs.Configuration.{IsNetwork}
use Rattle.pls_configuration.specs.Walk.{Edge, edges_from, edges_of}
use Rattle.pls_graph.specs.Levels.{IsLevel}
use Rattle.pls_graph.proofs.Members.{Contains-from_filter, Contains-from_flat_map, Contains-from_map}
use Rattle.pls_facts.specs.Bipartite.{Colours, IsBipartite, is_odd}
use Rattle.pls_facts.proofs.Neighbours.{port_adjacent}
use Rattle.pls_facts.proofs.Parity.{adjacent_differ, one_colour_at_levels}

-- colours that differ at each port differ across each edge
pub colours_at_ports : (rows : List NodeRow) (colour : ℕ → Bool)
    → ((row : NodeRow) (port : Port) → Contains rows row → Contains row.ports port
    → colour row.id ≢ colour port.nbr)
    → Colours colour (edges_of rows)
colours_at_ports rows colour apart edge in' =
    let (row, row_in, gives) : (row : NodeRow) × Contains rows row
    × Contains (edges_from row) edge =
    Contains-from_flat_map edges_from rows edge in' in
    let up : Port → Bool = λ port. nat_lt row.id port.nbr in
    let edge_of : Port → Edge =
    λ port. record { a = row.id; b = port.nbr; weight = port.weight } in
    let (port, kept, is) : (port : Port) × Contains (filter up row.ports) port
    × (edge_of port ≡ edge) =
    Contains-from_map edge_of (filter up row.ports) edge gives in
    subst (λ (edge : Edge). colour edge.a ≢ colour edge.b) is
    (apart row port row_in (Contains-from_filter up row.ports port kept).0)

-- where there is a two-colouring, the parities of levels from a node differ at each port
pub parities_differ : (rows : List NodeRow) → IsNetwork rows → IsBipartite rows
    → (root : ℕ) (row : NodeRow) (port : Port) (near far : ℕ) → Contains rows row
    → Contains row.ports port → IsLevel (edges_of rows) root row.id near
    → IsLevel (edges_of rows) root port.nbr far → is_odd near ≢ is_odd far
parities_differ rows net bipartite root row port near far in' has here there same =
    adjacent_differ (edges_of rows) bipartite.0 bipartite.1 row.id port.nbr
    (port_adjacent rows net row port in' has).0
    (one_colour_at_levels (edges_of rows) bipartite.0 bipartite.1 root row.id port.nbr near far
    here there same)
