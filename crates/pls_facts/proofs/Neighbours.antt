-- The nodes at the ports of a network, and the ports between adjacent nodes.
use Rattle.std.proofs.Common.{◌≡◌, ◌≢◌, ◌∙◌, ℕ, ◌≤◌, ◌==◌, inl, inr, true, List, [], ◌∷◌, map, Contains, Some, slice_get, sym, ap, subst, arith}
use Rattle.std.proofs.lemmas.Bool.{eqb-true}
use Rattle.std.proofs.lemmas.Option.{same_Some}
use Rattle.pls_configuration.specs.declared.row.Port.{Port}
use Rattle.pls_configuration.specs.declared.row.NodeRow.{NodeRow}
use Rattle.pls_configuration.specs.Configuration.{IsNetwork, ids_of, row_of}
use Rattle.pls_configuration.specs.Walk.{Adjacent, edges_of}
use Rattle.pls_graph.specs.Size.{greatest}
use Rattle.pls_graph.proofs.Adjacent.{Adjacent-port, Names, Names-Adjacent}
use Rattle.pls_graph.proofs.Finds.{found_place}
use Rattle.pls_graph.proofs.Joined.{Adjacent-turned}
use Rattle.pls_graph.proofs.Members.{Contains-cons_cases, Contains-from_place, Contains-map, place_from_Contains}
use Rattle.pls_graph.proofs.Placed.{names_another, neighbour_found, row_place}
use Rattle.pls_facts.proofs.Pointed.{row_of_id}

-- a number of a row is at most the greatest of all rows
pub within_greatest : (number : NodeRow → ℕ) (rows : List NodeRow) (row : NodeRow)
    → Contains rows row → number row ≤ greatest (map number rows)
within_greatest number [] row in' = absurd (omega (arith, in'.1))
within_greatest number (first ∷ rows) row in' =
    elim (Contains-cons_cases first rows row in') [
      | inl same ↦ omega (arith, ap number same)
      | inr later ↦ omega (arith, within_greatest number rows row later)
    ]

-- so is an identity
pub id_within : (rows : List NodeRow) (row : NodeRow) → Contains rows row
    → row.id ≤ greatest (ids_of rows)
id_within rows row in' = within_greatest (λ row. row.id) rows row in'

-- the row of u has a port that leads to v
pub record Leads (rows : List NodeRow) (u v : ℕ) : Type 0 where
  pub row : NodeRow
  pub port : Port
  pub found : row_of rows u ≡ Some row
  pub in' : Contains rows row
  pub has : Contains row.ports port
  pub owner : row.id ≡ u
  pub names : port.nbr ≡ v

module _ (rows : List NodeRow) (net : IsNetwork rows) where
  -- the node at a port is that of a row
  pub neighbour_row : (row : NodeRow) → Contains rows row → (port : Port)
      → Contains row.ports port
      → (other : NodeRow) × Contains rows other × (other.id ≡ port.nbr)
  neighbour_row row in' port has =
      let (i, at) : (i : ℕ) × (slice_get rows i ≡ Some row) = place_from_Contains rows row in' in
      let (p, has_at) : (p : ℕ) × (slice_get row.ports p ≡ Some port) =
      place_from_Contains row.ports port has in
      let other : (other : NodeRow) × (row_of rows port.nbr ≡ Some other) =
      neighbour_found rows net i row at p port has_at in
      let there : (j : ℕ) × (slice_get rows j ≡ Some other.0) × (port.nbr ≡ other.0.id) =
      row_place rows net port.nbr other.0 other.1 in
      (other.0, Contains-from_place rows there.0 other.0 there.1, sym there.2)

  -- the nodes of a port are adjacent, and differ
  pub port_adjacent : (row : NodeRow) (port : Port) → Contains rows row → Contains row.ports port
      → Adjacent (edges_of rows) row.id port.nbr × (row.id ≢ port.nbr)
  port_adjacent row port in' has =
      let place : (i : ℕ) × (slice_get rows i ≡ Some row) = place_from_Contains rows row in' in
      let at : (p : ℕ) × (slice_get row.ports p ≡ Some port) =
      place_from_Contains row.ports port has in (
        Adjacent-port rows net place.0 at.0 row port place.1 at.1,
        names_another rows net place.0 row place.1 at.0 port at.1,
      )

  -- a port leads from each node to each adjacent one
  pub leads : (u v : ℕ) → Adjacent (edges_of rows) u v → Leads rows u v
  leads u v adjacent =
      let way : Names rows u v = Names-Adjacent rows net u v adjacent in
      let place : (i : ℕ) × (slice_get rows i ≡ Some way.row) × (u ≡ way.row.id) =
      row_place rows net u way.row way.found in
      let at : (p : ℕ) × (slice_get way.row.ports p ≡ Some way.port)
      × ((v == way.port.nbr) ≡ true) =
      found_place (λ port. v == port.nbr) way.row.ports way.port way.names in
      record {
        row = way.row;
        port = way.port;
        found = way.found;
        in' = Contains-from_place rows place.0 way.row place.1;
        has = Contains-from_place way.row.ports at.0 way.port at.1;
        owner = sym place.2;
        names = sym (eqb-true v way.port.nbr at.2);
      }

  -- and of the ports of its row one does
  pub port_leads : (row : NodeRow) → Contains rows row → (v : ℕ)
      → Adjacent (edges_of rows) row.id v
      → (port : Port) × Contains row.ports port × (port.nbr ≡ v)
  port_leads row in' v adjacent =
      let way : Leads rows row.id v = leads row.id v adjacent in
      let same : way.row ≡ row =
      same_Some way.row row (sym way.found ∙ row_of_id rows net row in') in
      (way.port, subst (λ (row : NodeRow). Contains row.ports way.port) same way.has, way.names)

  -- an adjacent node is one of the nodes
  pub adjacent_known : (u v : ℕ) → Adjacent (edges_of rows) u v → Contains (ids_of rows) v
  adjacent_known u v adjacent =
      let way : Leads rows v u = leads v u (Adjacent-turned (edges_of rows) u v adjacent) in
      subst (Contains (ids_of rows)) way.owner
      (Contains-map (λ (row : NodeRow). row.id) rows way.row way.in')
