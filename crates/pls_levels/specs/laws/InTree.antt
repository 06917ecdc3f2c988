-- Whether the edge at a port is one that nodes point along, as the node tells it by its own pointer
-- and by what the neighbour says of its parent.
use Rattle.std.proofs.Common.{◌≡◌, ◌∙◌, ℕ, ◌==◌, inl, inr, Bool, true, ◌||◌, List, Option, Some, None, position, refl, sym, ap, subst, arith, slice_get, option_map, Contains}
use Rattle.std.specs.Option.{option_and_then}
use Rattle.std.proofs.lemmas.Bool.{eq-eqb, eqb-true, or_cases, or_left, or_right}
use Rattle.std.proofs.lemmas.Option.{option_and_then_some, same_Some}
use Rattle.pls_configuration.specs.declared.row.Port.{Port}
use Rattle.pls_configuration.specs.declared.row.NodeRow.{NodeRow}
use Rattle.pls_configuration.specs.Configuration.{IsNetwork, port_to}
use Rattle.pls_configuration.specs.Walk.{Adjacent}
use Rattle.pls_graph.proofs.Members.{Contains-from_place, place_from_Contains}
use Rattle.pls_graph.proofs.Placed.{names_another, place_of_port, port_of_place, row_of_place, row_place, way_back, WayBack}
use Rattle.pls_facts.specs.Pointer.{pointed_port}
use Rattle.pls_facts.specs.SpanningTree.{edge_at, pointed_edge, pointed_edges}
use Rattle.pls_facts.proofs.Decided.{same_Edge}
use Rattle.pls_facts.proofs.Filtered.{Contains-filter_map}
use Rattle.pls_facts.proofs.Neighbours.{neighbour_row}
use Rattle.pls_facts.proofs.Pointed.{IsPointer, IsPointer-pointed_node}
use Rattle.pls_facts.proofs.PointedEdges.{points_either_way}
use Rattle.pls_scheme.specs.Reading.{is_pointer}

-- a port that is pointed at is one of the ports
pub pointed_has : (row : NodeRow) (port : Port) → pointed_port row ≡ Some port
    → Contains row.ports port
pointed_has row port pointed =
    option_and_then_some (slice_get row.ports) row.state.up port pointed
    (λ number up has. Contains-from_place row.ports number port has)

-- what a pointer stands for is the port that its row points at
pub pointed_is : (rows : List NodeRow) (u v : ℕ) (step : IsPointer rows u v)
    → pointed_port step.row ≡ Some step.port
pointed_is rows u v step = ap (option_and_then (slice_get step.row.ports)) step.up ∙ step.has

-- the edge at a pointed port is a pointed edge
pub pointed_in : (rows : List NodeRow) (row : NodeRow) (port : Port) → Contains rows row
    → pointed_port row ≡ Some port → Contains (pointed_edges rows) (edge_at row port)
pointed_in rows row port in' pointed =
    Contains-filter_map pointed_edge rows row (edge_at row port) in'
    (ap (option_map (edge_at row)) pointed)

-- the test of a pointer tells whether it is the port of a number
is_pointer-here : (up : Option ℕ) (step number : ℕ) → up ≡ Some step → number ≡ step
    → is_pointer up number ≡ true
is_pointer-here up step number is same =
    ap (λ (up : Option ℕ). is_pointer up number) is ∙ eq-eqb step number (sym same)

here-is_pointer : (up : Option ℕ) (number : ℕ) → is_pointer up number ≡ true → up ≡ Some number
here-is_pointer None number passes = absurd (cc)
here-is_pointer (Some step) number passes = ap Some (eqb-true step number passes)

-- the nodes say their names and those of their parents
module _ (rows : List NodeRow) (net : IsNetwork rows) (own parent : ℕ → ℕ)
    (follows : (row : NodeRow) (port : Port) → Contains rows row → pointed_port row ≡ Some port
    → parent row.id ≡ own port.nbr) where
  -- the port of this number is the pointer, or the neighbour says that its parent is the node
  abbrev pub told_in : NodeRow → ℕ → Port → Bool
  told_in row number port = is_pointer row.state.up number || parent port.nbr == own row.id

  -- where the tree joins the nodes of a port, the node tells so
  pub tells_in : (i place : ℕ) (row : NodeRow) (port : Port) → slice_get rows i ≡ Some row
      → slice_get row.ports place ≡ Some port → Adjacent (pointed_edges rows) row.id port.nbr
      → told_in row place port ≡ true
  tells_in i place row port at has adjacent =
      elim (points_either_way rows net row.id port.nbr adjacent) [
        | inl on ↦ or_left (is_pointer row.state.up place) (parent port.nbr == own row.id)
            (here (IsPointer-pointed_node rows net row.id port.nbr on))
        | inr back ↦ or_right (is_pointer row.state.up place) (parent port.nbr == own row.id)
            (there (IsPointer-pointed_node rows net port.nbr row.id back))
      ]
    where
      here : IsPointer rows row.id port.nbr → is_pointer row.state.up place ≡ true
      here step =
          let same : step.row ≡ row = same_Some step.row row
          (sym step.found ∙ row_of_place rows net i row at) in
          let stands : slice_get row.ports step.number ≡ Some step.port =
          subst (λ (row : NodeRow). slice_get row.ports step.number ≡ Some step.port) same
          step.has in
          let up : row.state.up ≡ Some step.number =
          subst (λ (row : NodeRow). row.state.up ≡ Some step.number) same step.up in
          let number : place ≡ step.number = same_Some place step.number
          (sym (place_of_port rows net i row at place port has)
          ∙ ap (λ (n : ℕ). position (λ (port : Port). n == port.nbr) row.ports) (sym step.named)
          ∙ place_of_port rows net i row at step.number step.port stands) in
          is_pointer-here row.state.up step.number place up number

      there : IsPointer rows port.nbr row.id → (parent port.nbr == own row.id) ≡ true
      there step = eq-eqb (parent port.nbr) (own row.id)
          (ap parent step.owner
          ∙ follows step.row step.port (Contains-from_place rows step.place step.row step.at)
          (pointed_is rows port.nbr row.id step) ∙ ap own step.named)

  module _ (named : (row : NodeRow) → Contains rows row → own row.id ≡ row.id)
      (parent_of_root : (row : NodeRow) → Contains rows row → pointed_port row ≡ None
      → parent row.id ≡ row.id) where
    -- a node that says that its parent is the neighbour points at it, along the same edge
    back_in : (i number : ℕ) (row : NodeRow) (port : Port) → slice_get rows i ≡ Some row
        → slice_get row.ports number ≡ Some port → parent port.nbr ≡ own row.id
        → Contains (pointed_edges rows) (edge_at row port)
    back_in i number row port at has told =
        by (way_back rows net i row at number port has)
      where
        row_in : Contains rows row
        row_in = Contains-from_place rows i row at

        by : WayBack rows row port → Contains (pointed_edges rows) (edge_at row port)
        by way =
            let (j, stands, is) : (j : ℕ) × (slice_get rows j ≡ Some way.other)
            × (port.nbr ≡ way.other.id) =
            row_place rows net port.nbr way.other way.named in
            let other_in : Contains rows way.other = Contains-from_place rows j way.other stands in
            let back : parent way.other.id ≡ row.id =
            ap parent (sym is) ∙ told ∙ named row row_in in
            at_port j stands is other_in back (pointed_port way.other) refl
          where
            at_port : (j : ℕ) → slice_get rows j ≡ Some way.other → port.nbr ≡ way.other.id
                → Contains rows way.other → parent way.other.id ≡ row.id
                → (o : Option Port) → pointed_port way.other ≡ o
                → Contains (pointed_edges rows) (edge_at row port)
            at_port j stands is other_in back None e =
                absurd (names_another rows net i row at number port has
                (sym back ∙ parent_of_root way.other other_in e ∙ sym is))
            at_port j stands is other_in back (Some onward) e =
                let (p, there) : (p : ℕ) × (slice_get way.other.ports p ≡ Some onward) =
                place_from_Contains way.other.ports onward (pointed_has way.other onward e) in
                let (target, target_in, is_target) : (target : NodeRow) × Contains rows target
                × (target.id ≡ onward.nbr) =
                neighbour_row rows net way.other other_in onward
                (pointed_has way.other onward e) in
                let leads : onward.nbr ≡ row.id =
                sym (subst (λ (id : ℕ). own id ≡ id) is_target (named target target_in))
                ∙ sym (follows way.other onward other_in e) ∙ back in
                let same : onward ≡ way.back = same_Some onward way.back
                (sym (port_of_place rows net j way.other stands p onward there)
                ∙ ap (port_to way.other) leads ∙ way.returns) in
                let weighs : onward.weight ≡ port.weight =
                ap (λ (port : Port). port.weight) same ∙ sym way.weight in
                subst (Contains (pointed_edges rows))
                (same_Edge (edge_at way.other onward) (edge_at row port)
                (omega (arith, is, leads)) (omega (arith, is, leads)) weighs)
                (pointed_in rows way.other onward other_in e)

    -- where the node tells so, the edge at a port is in the tree
    pub in_told : (i number : ℕ) (row : NodeRow) (port : Port) → slice_get rows i ≡ Some row
        → slice_get row.ports number ≡ Some port → told_in row number port ≡ true
        → Contains (pointed_edges rows) (edge_at row port)
    in_told i number row port at has told =
        elim (or_cases (is_pointer row.state.up number) (parent port.nbr == own row.id) told) [
          | inl here ↦ pointed_in rows row port (Contains-from_place rows i row at)
              (ap (option_and_then (slice_get row.ports))
              (here-is_pointer row.state.up number here) ∙ has)
          | inr back ↦ back_in i number row port at has
              (eqb-true (parent port.nbr) (own row.id) back)
        ]
