-- The edge that is found for a fragment is the first that leaves it.
use Rattle.std.proofs.Common.{◌≡◌, ◌≢◌, ◌∙◌, ℕ, ◌+◌, ◌<◌, ◌==◌, ◌⊎◌, inl, inr, Bool, List, length, All, Contains, Option, Some, None, refl, sym, ap, subst, arith, slice_get}
use Rattle.std.proofs.lemmas.Bool.{cases_eq, eq-eqb, ne_eqb, true≢false}
use Rattle.std.proofs.lemmas.Option.{slice_get_within}
use Rattle.pls_configuration.specs.declared.row.NodeRow.{NodeRow}
use Rattle.pls_configuration.specs.Configuration.{IsNetwork, ids_of}
use Rattle.pls_configuration.specs.Walk.{Edge, Joins, Walk, edges_of}
use Rattle.pls_graph.specs.Places.{place_in}
use Rattle.pls_graph.proofs.Beside.{one_place}
use Rattle.pls_graph.proofs.Finds.{item_at}
use Rattle.pls_graph.proofs.Members.{Contains-from_place, place_from_Contains}
use Rattle.pls_facts.specs.EdgeOrder.{ComesBefore, edge_key, outside}
use Rattle.pls_facts.specs.Lightest.{IsFirstLeaving, Leaves}
use Rattle.pls_facts.specs.Path.{IsAlong}
use Rattle.pls_facts.specs.Precedes.{Precedes}
use Rattle.pls_facts.specs.SpanningTree.{IsTree, edge_at, pointed_edge, pointed_edges}
use Rattle.pls_facts.proofs.Decided.{cases_Edge, same_Bool}
use Rattle.pls_facts.proofs.Distinct.{decide_Contains}
use Rattle.pls_facts.proofs.EdgeKeys.{edge_key-same}
use Rattle.pls_facts.proofs.Filtered.{Contains-from_filter_map}
use Rattle.pls_facts.proofs.NamedPlaces.{place_named, row_named}
use Rattle.pls_facts.proofs.Neighbours.{neighbour_row}
use Rattle.pls_facts.proofs.Paths.{crossing}
use Rattle.pls_facts.proofs.Pointed.{id_of_row, row_from_id}
use Rattle.pls_facts.proofs.PointedEdges.{Joins-edge_at, edge_at_listed}
use Rattle.pls_facts.proofs.PortEdges.{IsAtPort, ports_of_edge}
use Rattle.pls_boruvka.specs.declared.choice.Choice.{Choice}
use Rattle.pls_boruvka.specs.inner.Choices.{AreChoices, IsChildOf, IsChoice, IsFirstOf, LeavesTop, edge_of, key_of, top_at}
use Rattle.pls_boruvka.specs.inner.Chosen.{SomeApart, choice_of_place}
use Rattle.pls_boruvka.proofs.Firsts.{key_of-edge}
use Rattle.pls_boruvka.proofs.Placing.{id_at, id_at-row}

-- an edge leaves a set of which it has one end alone
Leaves-joins : (inside : ℕ → Bool) (edge : Edge) (u v : ℕ) → Joins edge u v
    → inside u ≢ inside v → Leaves edge inside
Leaves-joins inside edge u v (inl ends) apart same =
    apart (ap inside (sym ends.0) ∙ same ∙ ap inside ends.1)
Leaves-joins inside edge u v (inr ends) apart same =
    apart (ap inside (sym ends.1) ∙ sym same ∙ ap inside ends.0)

-- numbers of which one is equal to a third and the other is not are told apart by the test
told_apart : (one other name : ℕ) → one ≡ name → other ≢ name → (one == name) ≢ (other == name)
told_apart one other name home away same =
    true≢false (sym (eq-eqb one name home) ∙ same ∙ ne_eqb other name away)

module _ (rows : List NodeRow) (net : IsNetwork rows) where
  -- what is kept of an edge
  choice_for : (edge : Edge) → (choice : Choice) × IsChoice rows edge choice
  choice_for edge = elim (decide_Contains cases_Edge (pointed_edges rows) edge) [
    | inr out ↦ (
      record { weight = edge.weight; child = None; a = edge.a; b = edge.b },
      record { is = refl; child = out },
    )
    | inl in' ↦
        let (row, row_in, points) : (row : NodeRow) × Contains rows row
        × (pointed_edge row ≡ Some edge) =
        Contains-from_filter_map pointed_edge rows edge in' in
        let (place, at) : (place : ℕ) × (slice_get rows place ≡ Some row) =
        place_from_Contains rows row row_in in (
          record { weight = edge.weight; child = Some place; a = edge.a; b = edge.b },
          record { is = refl; child = (row, at, points) },
        )
  ]

  -- a node's row stands at its place
  pub row_at : (u : ℕ) → Contains (ids_of rows) u
      → (row : NodeRow) × (slice_get rows (place_in rows u) ≡ Some row) × (row.id ≡ u)
  row_at u in' =
      let (row, row_in, named) : (row : NodeRow) × Contains rows row × (row.id ≡ u) =
      row_from_id rows u in' in
      let (place, at) : (place : ℕ) × (slice_get rows place ≡ Some row) =
      place_from_Contains rows row row_in in (
        row,
        ap (λ (id : ℕ). slice_get rows (place_in rows id)) (sym named)
            ∙ row_named rows net place row at,
        named,
      )

  module _ (tops : List ℕ) (each : length tops ≡ length rows)
      (within : All (λ top. top < length rows) tops) where
    -- the fragment of a node: the identity at the top of its place
    abbrev pub fragment_of : ℕ → ℕ
    fragment_of id = id_at rows (top_at tops (place_in rows id))

    top_within : (u : ℕ) → Contains (ids_of rows) u → top_at tops (place_in rows u) < length rows
    top_within u in' =
        let (row, at, named) : (row : NodeRow) × (slice_get rows (place_in rows u) ≡ Some row)
        × (row.id ≡ u) = row_at u in' in
        within (place_in rows u) 0
        (omega (arith, each, slice_get_within rows (place_in rows u) row at))

    -- nodes of one fragment have one top
    pub one_top : (u v : ℕ) → Contains (ids_of rows) u → Contains (ids_of rows) v
        → fragment_of u ≡ fragment_of v
        → top_at tops (place_in rows u) ≡ top_at tops (place_in rows v)
    one_top u v u_in v_in same =
        let (one, at) : (row : NodeRow)
        × (slice_get rows (top_at tops (place_in rows u)) ≡ Some row) =
        item_at rows (top_at tops (place_in rows u)) (top_within u u_in) in
        let (other, there) : (row : NodeRow)
        × (slice_get rows (top_at tops (place_in rows v)) ≡ Some row) =
        item_at rows (top_at tops (place_in rows v)) (top_within v v_in) in
        one_place rows net (top_at tops (place_in rows u)) (top_at tops (place_in rows v)) one other
        at there
        (sym (id_at-row rows (top_at tops (place_in rows u)) one at) ∙ same
        ∙ id_at-row rows (top_at tops (place_in rows v)) other there)

    -- the fragment of the node at a place
    fragment_at : (place : ℕ) (row : NodeRow) → slice_get rows place ≡ Some row
        → fragment_of row.id ≡ id_at rows (top_at tops place)
    fragment_at place row at =
        ap (λ (place : ℕ). id_at rows (top_at tops place)) (place_named rows net place row at)

    module _ (choices : List (Option Choice)) (are : AreChoices rows tops (length rows) choices)
      where
        module _ (u : ℕ) (u_in : Contains (ids_of rows) u) where
          -- the nodes of its fragment
          abbrev inside : ℕ → Bool
          inside v = fragment_of v == fragment_of u

          abbrev top : ℕ
          top = top_at tops (place_in rows u)

          abbrev LeavesHere : Choice → Type 0
          LeavesHere = LeavesTop rows tops (length rows) (top_at tops (place_in rows u))

          -- an edge that leaves the fragment is met at a port of its end inside
          met_at : (edge : Edge) (here there : ℕ) → IsAtPort rows edge here there
              → fragment_of here ≡ fragment_of u → fragment_of there ≢ fragment_of u
              → (choice : Choice) × IsChoice rows edge choice × LeavesHere choice
          met_at edge here there way home away =
              let (choice, right) : (choice : Choice) × IsChoice rows edge choice =
              choice_for edge in
              let row_in : Contains rows way.row = Contains-from_place rows way.place way.row way.at
              in
              let here_in : Contains (ids_of rows) here =
              subst (Contains (ids_of rows)) way.owner (id_of_row rows way.row row_in) in
              let spot : place_in rows here ≡ way.place =
              ap (place_in rows) (sym way.owner)
              ∙ place_named rows net way.place way.row way.at in (
                choice,
                right,
                (
                  way.place,
                  slice_get_within rows way.place way.row way.at,
                  ap (top_at tops) (sym spot) ∙ one_top here u here_in u_in home,
                  (
                    way.number + 1,
                    record {
                      row = way.row;
                      port = way.port;
                      number = way.number;
                      at = way.at;
                      has = way.has;
                      early = omega arith;
                      apart = λ same. away
                          (ap (λ (id : ℕ). id_at rows (top_at tops (place_in rows id)))
                          (sym way.names) ∙ ap (id_at rows) same
                          ∙ ap (λ (place : ℕ). id_at rows (top_at tops place)) (sym spot) ∙ home);
                      right = subst (λ (edge : Edge). IsChoice rows edge choice) (sym way.is) right;
                    },
                  ),
                ),
              )

          met : (edge : Edge) → Contains (edges_of rows) edge → Leaves edge inside
              → (choice : Choice) × IsChoice rows edge choice × LeavesHere choice
          met edge in' leaves = by (cases_eq (fragment_of edge.a) (fragment_of u))
              (cases_eq (fragment_of edge.b) (fragment_of u))
            where
              by : (fragment_of edge.a ≡ fragment_of u) ⊎ (fragment_of edge.a ≢ fragment_of u)
                  → (fragment_of edge.b ≡ fragment_of u) ⊎ (fragment_of edge.b ≢ fragment_of u)
                  → (choice : Choice) × IsChoice rows edge choice × LeavesHere choice
              by (inl home) (inl same) = absurd (leaves
                  (ap (λ (name : ℕ). name == fragment_of u) (home ∙ sym same)))
              by (inr away) (inr apart) = absurd (leaves
                  (ne_eqb (fragment_of edge.a) (fragment_of u) away
                  ∙ sym (ne_eqb (fragment_of edge.b) (fragment_of u) apart)))
              by (inl home) (inr away) =
                  met_at edge edge.a edge.b (ports_of_edge rows net edge in').0 home away
              by (inr away) (inl home) =
                  met_at edge edge.b edge.a (ports_of_edge rows net edge in').1 home away

          -- what is met there is an edge that leaves the fragment
          met_leaves : (first : Choice) → LeavesHere first
              → Contains (edges_of rows) (edge_of first)
              × Leaves (edge_of first) inside × IsChoice rows (edge_of first) first
          met_leaves first (place, before, named, (count, leaves)) =
              let row_in : Contains rows leaves.row =
              Contains-from_place rows place leaves.row leaves.at in
              let has : Contains leaves.row.ports leaves.port =
              Contains-from_place leaves.row.ports leaves.number leaves.port leaves.has in
              let is : edge_at leaves.row leaves.port ≡ edge_of first = sym leaves.right.is in
              let home : fragment_of leaves.row.id ≡ fragment_of u =
              fragment_at place leaves.row leaves.at ∙ ap (id_at rows) named in
              let (far, far_in, far_named) : (other : NodeRow) × Contains rows other
              × (other.id ≡ leaves.port.nbr) =
              neighbour_row rows net leaves.row row_in leaves.port has in
              let away : fragment_of leaves.port.nbr ≢ fragment_of u = λ same.
              leaves.apart (one_top leaves.port.nbr leaves.row.id
              (subst (Contains (ids_of rows)) far_named (id_of_row rows far far_in))
              (id_of_row rows leaves.row row_in) (same ∙ sym home)
              ∙ ap (top_at tops) (place_named rows net place leaves.row leaves.at)) in (
                subst (Contains (edges_of rows)) is
                    (edge_at_listed rows net leaves.row leaves.port row_in has),
                Leaves-joins inside (edge_of first) leaves.row.id leaves.port.nbr
                    (subst (λ (edge : Edge). Joins edge leaves.row.id leaves.port.nbr) is
                    (Joins-edge_at leaves.row leaves.port))
                    (told_apart (fragment_of leaves.row.id) (fragment_of leaves.port.nbr)
                    (fragment_of u) home away),
                subst (λ (edge : Edge). IsChoice rows edge first) is leaves.right,
              )

          -- the first edge that leaves the fragment, as it is found
          pub record IsFound (first : Choice) : Type 0 where
            pub found : choice_of_place tops choices (place_in rows u) ≡ Some first
            pub among : Contains (edges_of rows) (edge_of first)
            pub leaving : IsFirstLeaving (edges_of rows) (ComesBefore (pointed_edges rows))
                (λ v. fragment_of v == fragment_of u) (edge_of first)
            pub child : IsChildOf rows (edge_of first) first.child

          IsFound-first : (first : Choice) → choice_of_place tops choices (place_in rows u) ≡ Some first
              → IsFirstOf LeavesHere (Some first) → IsFound first
          IsFound-first first found (leaves, least) =
              let (among, leaving, right) : Contains (edges_of rows) (edge_of first)
              × Leaves (edge_of first) inside × IsChoice rows (edge_of first) first =
              met_leaves first leaves in record {
                found = found;
                among = among;
                leaving = record {
                  leaves = leaving;
                  first = λ other other_in other_leaves apart.
                      let (choice, is, here) : (choice : Choice) × IsChoice rows other choice
                      × LeavesHere choice = met other other_in other_leaves in
                      elim (least choice here) [
                        | inl same ↦ absurd (apart (sym (edge_key-same (edge_of first) other
                            (outside (pointed_edges rows) (edge_of first))
                            (outside (pointed_edges rows) other)
                            (sym (key_of-edge rows (edge_of first) first right) ∙ same
                            ∙ key_of-edge rows other choice is))))
                        | inr before ↦ subst (Precedes (edge_key (edge_of first)
                            (outside (pointed_edges rows) (edge_of first))))
                            (key_of-edge rows other choice is)
                            (subst (λ (key : List ℕ). Precedes key (key_of choice))
                            (key_of-edge rows (edge_of first) first right) before)
                      ];
                };
                child = right.child;
              }

          -- where some edge leaves the fragment, one is found
          found_where : (edge : Edge) → Contains (edges_of rows) edge → Leaves edge inside
              → (first : Choice) × IsFound first
          found_where edge in' leaves =
              by (choice_of_place tops choices (place_in rows u)) refl
              (are.first (top_at tops (place_in rows u)) (top_within u u_in))
            where
              by : (o : Option Choice) → choice_of_place tops choices (place_in rows u) ≡ o
                  → IsFirstOf LeavesHere (choice_of_place tops choices (place_in rows u))
                  → (first : Choice) × IsFound first
              by None e is =
                  let (choice, right, here) : (choice : Choice) × IsChoice rows edge choice
                  × LeavesHere choice = met edge in' leaves in
                  absurd (subst (IsFirstOf LeavesHere) e is choice here)
              by (Some first) e is =
                  (first, IsFound-first first e (subst (IsFirstOf LeavesHere) e is))

        module _ (is_tree : IsTree rows) (some : SomeApart tops) where
          -- two nodes of two fragments
          two_apart : (u v : ℕ) × Contains (ids_of rows) u × Contains (ids_of rows) v
              × (fragment_of v ≢ fragment_of u)
          two_apart =
              let (place, before, apart) : (place : ℕ) × (place < length tops)
              × (top_at tops place ≢ top_at tops 0) = some in
              let (first, at) : (row : NodeRow) × (slice_get rows 0 ≡ Some row) =
              item_at rows 0 net.limits.some in
              let (other, there) : (row : NodeRow) × (slice_get rows place ≡ Some row) =
              item_at rows place (omega (arith, before, each)) in
              let first_in : Contains (ids_of rows) first.id =
              id_of_row rows first (Contains-from_place rows 0 first at) in
              let other_in : Contains (ids_of rows) other.id =
              id_of_row rows other (Contains-from_place rows place other there) in (
                first.id,
                other.id,
                first_in,
                other_in,
                λ same. apart (ap (top_at tops) (sym (place_named rows net place other there))
                    ∙ one_top other.id first.id other_in first_in same
                    ∙ ap (top_at tops) (place_named rows net 0 first at)),
              )

          -- so each fragment is left by an edge, and one is found
          pub found_for : (u : ℕ) (u_in : Contains (ids_of rows) u)
              → (first : Choice) × IsFound u u_in first
          found_for u u_in =
              let (one, two, one_in, two_in, apart) : (u v : ℕ) × Contains (ids_of rows) u
              × Contains (ids_of rows) v × (fragment_of v ≢ fragment_of u) = two_apart in
              let (v, v_in, away) : (v : ℕ) × Contains (ids_of rows) v
              × (fragment_of v ≢ fragment_of u) =
              elim (cases_eq (fragment_of one) (fragment_of u)) [
                | inr differ ↦ (one, one_in, differ)
                | inl same ↦ (two, two_in, λ e. apart (e ∙ sym same))
              ] in
              let (path, walk) : (path : List ℕ) × Walk (pointed_edges rows) u path v =
              is_tree.spanning.joined u v u_in v_in in
              let (edge, edge_in, on, leaves) : (edge : Edge) × Contains (pointed_edges rows) edge
              × IsAlong edge u path × Leaves edge (λ v. fragment_of v == fragment_of u) =
              crossing (λ v. fragment_of v == fragment_of u) same_Bool (pointed_edges rows) u v path
              walk (told_apart (fragment_of u) (fragment_of v) (fragment_of u) refl away) in
              found_where u u_in edge (is_tree.spanning.among edge edge_in) leaves
