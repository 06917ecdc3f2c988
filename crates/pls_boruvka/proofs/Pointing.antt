-- Which end of an edge points at the other.
use Rattle.std.proofs.Common.{◌≡◌, ◌∙◌, ℕ, ◌==◌, true, inl, inr, List, Contains, Option, Some, None, refl, sym, ap, arith, slice_get, option_map}
use Rattle.std.proofs.lemmas.Bool.{eqb-true}
use Rattle.std.proofs.lemmas.Option.{option_and_then_some, same_Some}
use Rattle.pls_configuration.specs.declared.row.Port.{Port}
use Rattle.pls_configuration.specs.declared.row.NodeRow.{NodeRow}
use Rattle.pls_configuration.specs.Configuration.{IsNetwork, port_to, row_of}
use Rattle.pls_graph.specs.Places.{place_in}
use Rattle.pls_graph.proofs.Beside.{one_place}
use Rattle.pls_graph.proofs.Finds.{found_place, from_option_map}
use Rattle.pls_graph.proofs.Members.{Contains-from_place, place_from_Contains}
use Rattle.pls_graph.proofs.Placed.{WayBack, port_of_place, row_of_place, row_place, way_back}
use Rattle.pls_facts.specs.Pointer.{pointed_node, pointed_port}
use Rattle.pls_facts.specs.SpanningTree.{edge_at, pointed_edge}
use Rattle.pls_facts.proofs.Decided.{same_Edge}
use Rattle.pls_facts.proofs.NamedPlaces.{port_named}
use Rattle.pls_facts.proofs.Pointed.{pointed_node-row}
use Rattle.pls_facts.proofs.PointedEdges.{Joins-edge_at, points_either_way}
use Rattle.pls_boruvka.specs.inner.Choices.{ChildOf, IsChildOf, IsChoice, choice_at}
use Rattle.pls_boruvka.specs.inner.Tops.{AreParents, parent_at}
use Rattle.pls_boruvka.proofs.Placing.{points_nowhere, points_to_row}

module _ (rows : List NodeRow) (net : IsNetwork rows) where
  -- the port of a row that names a node is one
  one_port : (i p q : ℕ) (row : NodeRow) (port other : Port) → slice_get rows i ≡ Some row
      → slice_get row.ports p ≡ Some port → slice_get row.ports q ≡ Some other
      → port.nbr ≡ other.nbr → port ≡ other
  one_port i p q row port other at has also same =
      same_Some port other (sym (port_of_place rows net i row at p port has)
      ∙ ap (port_to row) same ∙ port_of_place rows net i row at q other also)

  -- a row that points at a node does so along the port that names it
  pub points_along : (i p : ℕ) (row : NodeRow) (port : Port) → slice_get rows i ≡ Some row
      → slice_get row.ports p ≡ Some port → pointed_node rows row.id ≡ Some port.nbr
      → pointed_edge row ≡ Some (edge_at row port)
  points_along i p row port at has points =
      let (found, pointed, named) : (found : Port) × (pointed_port row ≡ Some found)
      × (found.nbr ≡ port.nbr) =
      from_option_map (λ (port : Port). port.nbr) (pointed_port row) port.nbr
      (sym (pointed_node-row rows net row (Contains-from_place rows i row at)) ∙ points) in
      let same : found ≡ port =
      option_and_then_some (slice_get row.ports) row.state.up found pointed
      (λ number up there. one_port i number p row found port at there has named) in
      ap (option_map (edge_at row)) (pointed ∙ ap Some same)

  -- so does the node that a port names, along the same edge
  pub points_back : (i p : ℕ) (row other : NodeRow) (port : Port) → slice_get rows i ≡ Some row
      → slice_get row.ports p ≡ Some port → Contains rows other → other.id ≡ port.nbr
      → pointed_node rows other.id ≡ Some row.id → pointed_edge other ≡ Some (edge_at row port)
  points_back i p row other port at has other_in named points =
      let way : WayBack rows row port = way_back rows net i row at p port has in
      let (j, stands, owner) : (j : ℕ) × (slice_get rows j ≡ Some way.other)
      × (port.nbr ≡ way.other.id) = row_place rows net port.nbr way.other way.named in
      let (k, there) : (k : ℕ) × (slice_get rows k ≡ Some other) =
      place_from_Contains rows other other_in in
      let one : way.other ≡ other = same_Some way.other other
      (sym way.named ∙ ap (row_of rows) (sym named) ∙ row_of_place rows net k other there) in
      by way.other way.back j one stands way.returns way.weight
    where
      by : (far : NodeRow) (back : Port) (j : ℕ) → far ≡ other → slice_get rows j ≡ Some far
          → port_to far row.id ≡ Some back → port.weight ≡ back.weight
          → pointed_edge other ≡ Some (edge_at row port)
      by far back j one stands returns weighs =
          let (q, also, passes) : (q : ℕ) × (slice_get far.ports q ≡ Some back)
          × ((row.id == back.nbr) ≡ true) =
          found_place (λ port. row.id == port.nbr) far.ports back returns in
          let names : row.id ≡ back.nbr = eqb-true row.id back.nbr passes in
          let id : far.id ≡ port.nbr = ap (λ (row : NodeRow). row.id) one ∙ named in
          let step : pointed_node rows far.id ≡ Some back.nbr =
          ap (λ (row : NodeRow). pointed_node rows row.id) one ∙ points ∙ ap Some names in
          ap pointed_edge (sym one) ∙ points_along j q far back stands also step
          ∙ ap Some (same_Edge (edge_at far back) (edge_at row port) (omega (arith, id, names))
          (omega (arith, id, names)) (sym weighs))

module _ (rows : List NodeRow) (net : IsNetwork rows) (parents : List (Option ℕ))
    (are : AreParents rows parents) where
  -- a node that points at another has that one's place as its parent
  pub parent_of_next : (i j : ℕ) (row other : NodeRow) → slice_get rows i ≡ Some row
      → slice_get rows j ≡ Some other → pointed_node rows row.id ≡ Some other.id
      → parent_at parents i ≡ Some j
  parent_of_next i j row other at there points = by (parent_at parents i) refl
    where
      by : (o : Option ℕ) → parent_at parents i ≡ o → parent_at parents i ≡ Some j
      by None e =
          let no : None ≡ Some other.id =
          sym (points_nowhere rows net parents are i row at e) ∙ points in absurd (cc)
      by (Some k) e =
          let (far, stands, step) : (far : NodeRow) × (slice_get rows k ≡ Some far)
          × (pointed_node rows row.id ≡ Some far.id) = points_to_row rows net parents are i k row at e in
          e ∙ ap Some (one_place rows net k j far other stands there
          (same_Some far.id other.id (sym step ∙ points)))

  module _ (i p : ℕ) (row : NodeRow) (port : Port) (at : slice_get rows i ≡ Some row)
      (has : slice_get row.ports p ≡ Some port) where
    abbrev other_place : ℕ
    other_place = place_in rows port.nbr

    -- the node at the other end of a port
    far_row : (other : NodeRow) × (slice_get rows (place_in rows port.nbr) ≡ Some other)
        × (other.id ≡ port.nbr)
    far_row = port_named rows net row port (Contains-from_place rows i row at)
        (Contains-from_place row.ports p port has)

    -- the end that points along the port's edge is the child of its two places
    pub IsChildOf-places : (child : Option ℕ) → ChildOf parents i (place_in rows port.nbr) child
        → IsChildOf rows (edge_at row port) child
    IsChildOf-places None (apart, away) = λ in'.
        let (far, there, named) : (other : NodeRow)
        × (slice_get rows (place_in rows port.nbr) ≡ Some other) × (other.id ≡ port.nbr) =
        far_row in
        elim (points_either_way rows net row.id port.nbr
        (edge_at row port, in', Joins-edge_at row port)) [
          | inl on ↦ apart (parent_of_next i other_place row far at there (on ∙ ap Some (sym
              named)))
          | inr back ↦ away (parent_of_next other_place i far row there at
              (ap (pointed_node rows) named ∙ back))
        ]
    IsChildOf-places (Some child) (inl (same, points)) =
        let (far, there, named) : (other : NodeRow)
        × (slice_get rows (place_in rows port.nbr) ≡ Some other) × (other.id ≡ port.nbr) =
        far_row in
        let (to, stands, step) : (other : NodeRow)
        × (slice_get rows (place_in rows port.nbr) ≡ Some other)
        × (pointed_node rows row.id ≡ Some other.id) =
        points_to_row rows net parents are i (place_in rows port.nbr) row at points in
        let one : to ≡ far = same_Some to far (sym stands ∙ there) in (
          row,
          ap (slice_get rows) same ∙ at,
          points_along rows net i p row port at has
              (step ∙ ap (λ (row : NodeRow). Some row.id) one ∙ ap Some named),
        )
    IsChildOf-places (Some child) (inr (same, points)) =
        let (far, there, named) : (other : NodeRow)
        × (slice_get rows (place_in rows port.nbr) ≡ Some other) × (other.id ≡ port.nbr) =
        far_row in
        let (to, stands, step) : (other : NodeRow) × (slice_get rows i ≡ Some other)
        × (pointed_node rows far.id ≡ Some other.id) =
        points_to_row rows net parents are (place_in rows port.nbr) i far there points in
        let one : to ≡ row = same_Some to row (sym stands ∙ at) in (
          far,
          ap (slice_get rows) same ∙ there,
          points_back rows net i p row far port at has
              (Contains-from_place rows (place_in rows port.nbr) far there) named
              (step ∙ ap (λ (row : NodeRow). Some row.id) one),
        )

    -- so what is kept of a port's edge is right
    pub IsChoice-at : (child : Option ℕ) → ChildOf parents i (place_in rows port.nbr) child
        → IsChoice rows (edge_at row port) (choice_at row.id port child)
    IsChoice-at child is = record { is = refl; child = IsChildOf-places child is }
