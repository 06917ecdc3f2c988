-- The edges but one, and walks along them.
use Rattle.std.proofs.Common.{◌≡◌, ◌≢◌, ◌∙◌, ℕ, ◌≤◌, ◌⊎◌, inl, inr, ◌==◌, ◌&&◌, not, true, List, [], ◌∷◌, length, Contains, refl, sym, ap, subst, arith}
use Rattle.std.proofs.lemmas.Bool.{and_from, and_parts, eq-eqb, eqb-true, false_from_ne_true, not-true, not_from_false}
use Rattle.std.proofs.lemmas.Option.{same_Some}
use Rattle.pls_configuration.specs.declared.row.NodeRow.{NodeRow}
use Rattle.pls_configuration.specs.Configuration.{IsNetwork, port_to, row_of}
use Rattle.pls_configuration.specs.Walk.{Adjacent, Edge, Joins, Walk, edges_of}
use Rattle.pls_graph.proofs.Members.{Contains-filter, Contains-from_filter}
use Rattle.pls_graph.proofs.Placed.{port_of_place, row_of_place}
use Rattle.pls_facts.specs.SpanningTree.{edge_at}
use Rattle.pls_facts.proofs.Decided.{same_Edge}
use Rattle.pls_facts.proofs.PortEdges.{IsAtPort, ports_of_edge}
use Rattle.pls_facts.specs.EdgeOrder.{is_same_edge}
use Rattle.pls_diameter_bridges.specs.Bridgeless.{without}

-- edges of which the test says so are the same
same_edge-same : (one other : Edge) → is_same_edge one other ≡ true → one ≡ other
same_edge-same one other same =
    let first = and_parts (one.a == other.a) (one.b == other.b && one.weight == other.weight) same in
    let second = and_parts (one.b == other.b) (one.weight == other.weight) first.1 in
    same_Edge one other (eqb-true one.a other.a first.0) (eqb-true one.b other.b second.0)
    (eqb-true one.weight other.weight second.1)

same_edge-itself : (edge : Edge) → is_same_edge edge edge ≡ true
same_edge-itself edge =
    and_from (edge.a == edge.a) (edge.b == edge.b && edge.weight == edge.weight)
    (eq-eqb edge.a edge.a refl)
    (and_from (edge.b == edge.b) (edge.weight == edge.weight) (eq-eqb edge.b edge.b refl)
    (eq-eqb edge.weight edge.weight refl))

module _ (edges : List Edge) (edge : Edge) where
  -- another edge is left
  pub is_left : (other : Edge) → Contains edges other → other ≢ edge
      → Contains (without edge edges) other
  is_left other in' apart =
      Contains-filter (λ (other : Edge). not (is_same_edge edge other)) edges other in'
      (not_from_false (is_same_edge edge other) (false_from_ne_true (is_same_edge edge other)
      (λ same. apart (sym (same_edge-same edge other same)))))

  -- what is left is another edge
  pub was_other : (other : Edge) → Contains (without edge edges) other
      → Contains edges other × (other ≢ edge)
  was_other other in' =
      let found : Contains edges other × (not (is_same_edge edge other) ≡ true) =
      Contains-from_filter (λ (other : Edge). not (is_same_edge edge other)) edges other in' in (
        found.0,
        λ same.
            let yes : is_same_edge edge other ≡ true =
            ap (is_same_edge edge) same ∙ same_edge-itself edge in
            let no = not-true (is_same_edge edge other) found.1 in
            absurd (cc),
      )

  -- a step along another edge is left
  pub step_left : (u v : ℕ) → Adjacent edges u v → (Joins edge u v → ⊥)
      → Adjacent (without edge edges) u v
  step_left u v (other, in', between) differs = (
    other,
    is_left other in' (λ same. differs (subst (λ (other : Edge). Joins other u v) same between)),
    between,
  )

  -- the ends of an edge are two
  pub same_ends : (a b u v : ℕ) → Joins edge a b → Joins edge u v
      → ((u ≡ a) × (v ≡ b)) ⊎ ((u ≡ b) × (v ≡ a))
  same_ends a b u v joins between = elim joins [
    | inl ends ↦ elim between [
      | inl also ↦ inl (sym also.0 ∙ ends.0, sym also.1 ∙ ends.1)
      | inr also ↦ inr (sym also.1 ∙ ends.1, sym also.0 ∙ ends.0)
    ]
    | inr ends ↦ elim between [
      | inl also ↦ inr (sym also.0 ∙ ends.0, sym also.1 ∙ ends.1)
      | inr also ↦ inl (sym also.1 ∙ ends.1, sym also.0 ∙ ends.0)
    ]
  ]

  module _ (a b : ℕ) (joins : Joins edge a b) where
    -- one of the two is b
    pub touches : (u v : ℕ) → Joins edge u v → (u ≡ b) ⊎ (v ≡ b)
    touches u v between = elim (same_ends a b u v joins between) [
      | inl same ↦ inr same.1
      | inr turned ↦ inl turned.0
    ]

    -- a walk to a node to which no walk from b is shorter goes along the edges that are left
    pub avoids : (c p : ℕ) (nodes : List ℕ) → Walk edges c nodes p → c ≢ b
        → ((others : List ℕ) → Walk edges b others p → length nodes ≤ length others)
        → Walk (without edge edges) c nodes p
    avoids c p [] walk away far = walk
    avoids c p (next ∷ nodes) walk away far =
        let beyond : next ≢ b =
        λ is.
        let short = far nodes (subst (λ (next : ℕ). Walk edges next nodes p) is walk.1) in
        omega (arith, short) in (
          step_left c next walk.0 (λ between. elim (touches c next between) [
            | inl is ↦ away is
            | inr is ↦ beyond is
          ]),
          avoids next p nodes walk.1 beyond (λ others there.
              let long = far others there in omega (arith, long)),
        )

module _ (rows : List NodeRow) (net : IsNetwork rows) where
  -- the port of an edge, at either end
  pub at_port : (edge : Edge) → Contains (edges_of rows) edge → (u v : ℕ) → Joins edge u v
      → IsAtPort rows edge u v
  at_port edge in' u v joins =
      let ports : IsAtPort rows edge edge.a edge.b × IsAtPort rows edge edge.b edge.a =
      ports_of_edge rows net edge in' in
      elim joins [
        | inl ends ↦ subst (λ (v : ℕ). IsAtPort rows edge u v) ends.1
            (subst (λ (u : ℕ). IsAtPort rows edge u edge.b) ends.0 ports.0)
        | inr ends ↦ subst (λ (v : ℕ). IsAtPort rows edge u v) ends.0
            (subst (λ (u : ℕ). IsAtPort rows edge u edge.a) ends.1 ports.1)
      ]

  -- two nodes have one edge between them
  pub one_edge : (one other : Edge) → Contains (edges_of rows) one
      → Contains (edges_of rows) other → (u v : ℕ) → Joins one u v → Joins other u v
      → one ≡ other
  one_edge one other in_one in_other u v joins also =
      let first : IsAtPort rows one u v = at_port one in_one u v joins in
      let second : IsAtPort rows other u v = at_port other in_other u v also in
      let same_row : first.row ≡ second.row =
      same_Some first.row second.row
      (sym (row_of_place rows net first.place first.row first.at)
      ∙ ap (row_of rows) (first.owner ∙ sym second.owner)
      ∙ row_of_place rows net second.place second.row second.at) in
      let same_port : first.port ≡ second.port =
      same_Some first.port second.port
      (sym (port_of_place rows net first.place first.row first.at first.number first.port
      first.has)
      ∙ ap (λ (row : NodeRow). port_to row first.port.nbr) same_row
      ∙ ap (port_to second.row) (first.names ∙ sym second.names)
      ∙ port_of_place rows net second.place second.row second.at second.number second.port
      second.has) in
      sym first.is ∙ ap (λ (row : NodeRow). edge_at row first.port) same_row
      ∙ ap (edge_at second.row) same_port ∙ second.is
