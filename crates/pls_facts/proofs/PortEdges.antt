-- Each edge of a network stands at two ports, one of each of its ends.
use Rattle.std.proofs.Common.{◌≡◌, ◌∙◌, ℕ, ◌<◌, ◌==◌, true, nat_lt, List, Some, sym, ap, subst, arith, slice_get, Contains}
use Rattle.std.specs.List.{filter}
use Rattle.std.proofs.lemmas.Bool.{eqb-true, ltb-true}
use Rattle.pls_configuration.specs.declared.row.Port.{Port}
use Rattle.pls_configuration.specs.declared.row.NodeRow.{NodeRow}
use Rattle.pls_configuration.specs.Configuration.{IsNetwork, ids_of}
use Rattle.pls_configuration.specs.Walk.{Edge, edges_from, edges_of}
use Rattle.pls_graph.proofs.Finds.{found_place}
use Rattle.pls_graph.proofs.Members.{Contains-from_filter, Contains-from_flat_map, Contains-from_map, Contains-from_place, place_from_Contains}
use Rattle.pls_graph.proofs.Placed.{row_place, way_back, WayBack}
use Rattle.pls_facts.specs.inner.Graphs.{IsGraph}
use Rattle.pls_facts.specs.SpanningTree.{edge_at}
use Rattle.pls_facts.proofs.Decided.{same_Edge}
use Rattle.pls_facts.proofs.Pointed.{id_of_row}
use Rattle.pls_facts.proofs.OnlyNode.{ids_distinct}

-- the edge at a port of the row of u that names v
pub record IsAtPort (rows : List NodeRow) (edge : Edge) (u v : ℕ) : Type 0 where
  pub row : NodeRow
  pub port : Port
  pub place : ℕ
  pub number : ℕ
  pub at : slice_get rows place ≡ Some row
  pub has : slice_get row.ports number ≡ Some port
  pub owner : row.id ≡ u
  pub names : port.nbr ≡ v
  pub is : edge_at row port ≡ edge

module _ (rows : List NodeRow) (net : IsNetwork rows) where
  -- the two ports of an edge
  pub ports_of_edge : (edge : Edge) → Contains (edges_of rows) edge
      → IsAtPort rows edge edge.a edge.b × IsAtPort rows edge edge.b edge.a
  ports_of_edge edge in' =
      let (row, row_in, gives) : (row : NodeRow) × Contains rows row
      × Contains (edges_from row) edge =
      Contains-from_flat_map edges_from rows edge in' in
      let edge_of : Port → Edge =
      λ port. record { a = row.id; b = port.nbr; weight = port.weight } in
      let (port, kept, is) : (port : Port)
      × Contains (filter (λ port. nat_lt row.id port.nbr) row.ports) port
      × (edge_of port ≡ edge) =
      Contains-from_map edge_of (filter (λ port. nat_lt row.id port.nbr) row.ports) edge gives in
      let found : Contains row.ports port × (nat_lt row.id port.nbr ≡ true) =
      Contains-from_filter (λ (port : Port). nat_lt row.id port.nbr) row.ports port kept in
      let (i, at) : (i : ℕ) × (slice_get rows i ≡ Some row) =
      place_from_Contains rows row row_in in
      let (p, has) : (p : ℕ) × (slice_get row.ports p ≡ Some port) =
      place_from_Contains row.ports port found.0 in
      let owner : row.id ≡ edge.a = ap (λ (edge : Edge). edge.a) is in
      let named : port.nbr ≡ edge.b = ap (λ (edge : Edge). edge.b) is in
      let weighs : port.weight ≡ edge.weight = ap (λ (edge : Edge). edge.weight) is in
      let up : row.id < port.nbr = ltb-true row.id port.nbr found.1 in (
        record {
          row = row;
          port = port;
          place = i;
          number = p;
          at = at;
          has = has;
          owner = owner;
          names = named;
          is = same_Edge (edge_at row port) edge (omega (arith, up, owner))
              (omega (arith, up, named)) weighs;
        },
        back row port up owner named weighs (way_back rows net i row at p port has),
      )
    where
      back : (row : NodeRow) (port : Port) → row.id < port.nbr → row.id ≡ edge.a
          → port.nbr ≡ edge.b → port.weight ≡ edge.weight → WayBack rows row port
          → IsAtPort rows edge edge.b edge.a
      back row port up owner named weighs way =
          let (j, at, other) : (j : ℕ) × (slice_get rows j ≡ Some way.other)
          × (port.nbr ≡ way.other.id) =
          row_place rows net port.nbr way.other way.named in
          let (q, has, passes) : (q : ℕ) × (slice_get way.other.ports q ≡ Some way.back)
          × ((row.id == way.back.nbr) ≡ true) =
          found_place (λ port. row.id == port.nbr) way.other.ports way.back way.returns in
          let returns : row.id ≡ way.back.nbr = eqb-true row.id way.back.nbr passes in
          record {
            row = way.other;
            port = way.back;
            place = j;
            number = q;
            at = at;
            has = has;
            owner = sym other ∙ named;
            names = sym returns ∙ owner;
            is = same_Edge (edge_at way.other way.back) edge
                (omega (arith, up, owner, other, returns))
                (omega (arith, up, named, other, returns)) (sym way.weight ∙ weighs);
          }

  -- the identities of a network are distinct, and its edges join them
  pub IsGraph-network : IsGraph (edges_of rows) (ids_of rows)
  IsGraph-network = record {
    distinct = ids_distinct rows net;
    ends = λ edge in'.
        let ports = ports_of_edge edge in' in (
          subst (Contains (ids_of rows)) ports.0.owner (id_of_row rows ports.0.row
              (Contains-from_place rows ports.0.place ports.0.row ports.0.at)),
          subst (Contains (ids_of rows)) ports.1.owner (id_of_row rows ports.1.row
              (Contains-from_place rows ports.1.place ports.1.row ports.1.at)),
        );
  }
