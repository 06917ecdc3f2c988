-- One level more: what it says of each node, and the pointers that are joined after it.
use Rattle.std.proofs.Common.{◌≡◌, ◌∙◌, ℕ, ◌<◌, ◌==◌, inl, inr, Bool, true, false, List, ◌++◌, length, get_or, All, Contains, Option, Some, None, refl, sym, ap, subst, arith, slice_get}
use Rattle.std.proofs.lemmas.List.Elements.{Contains-append_cases, Contains-append_left, Contains-append_right}
use Rattle.std.proofs.lemmas.Option.{same_Some, slice_get-get_or, slice_get_within}
use Rattle.pls_configuration.specs.declared.row.NodeRow.{NodeRow}
use Rattle.pls_configuration.specs.Configuration.{IsNetwork, ids_of}
use Rattle.pls_configuration.specs.Walk.{Edge, edges_of}
use Rattle.pls_graph.specs.Places.{place_in}
use Rattle.pls_graph.proofs.Finds.{item_at}
use Rattle.pls_graph.proofs.Joined.{AreJoined-adjacent}
use Rattle.pls_graph.proofs.Members.{Contains-from_map, Contains-from_place, Contains-map, place_from_Contains}
use Rattle.pls_facts.specs.EdgeOrder.{ComesBefore}
use Rattle.pls_facts.specs.Lightest.{IsFirstLeaving, weight_of}
use Rattle.pls_facts.specs.inner.Graphs.{IsGraph}
use Rattle.pls_facts.specs.Pointer.{Falls}
use Rattle.pls_facts.specs.SpanningTree.{IsSpanningTree, IsTree, pointed_edge, pointed_edges}
use Rattle.pls_facts.proofs.Chosen.{lighter_tree}
use Rattle.pls_facts.proofs.EdgeKeys.{ComesBefore-order, before_outside}
use Rattle.pls_facts.proofs.Filtered.{Contains-filter_map}
use Rattle.pls_facts.proofs.NamedPlaces.{place_named}
use Rattle.pls_facts.proofs.Pointed.{id_of_row}
use Rattle.pls_facts.proofs.PortEdges.{IsGraph-network}
use Rattle.pls_boruvka.specs.declared.choice.Choice.{Choice}
use Rattle.pls_boruvka.specs.declared.joining.ChosenEnd.{ChosenEnd}
use Rattle.pls_boruvka.specs.declared.level.Level.{Level}
use Rattle.pls_boruvka.specs.Boruvka.{IsLevelOf, chosen_edge, chosen_edges}
use Rattle.pls_boruvka.specs.Fragments.{JoinedChainEnds}
use Rattle.pls_boruvka.specs.inner.Choices.{AreChoices, IsChildOf, edge_of, top_at}
use Rattle.pls_boruvka.specs.inner.Chosen.{AreChildrenWithin, AreChosen, IsChild, IsChosen, IsUnpointed, JoinChildren, SomeApart, SomeUnpointed, choice_of_place}
use Rattle.pls_boruvka.proofs.JoinedChains.{AreFlags, AreFragments-ends, one_child}
use Rattle.pls_boruvka.proofs.Leaving.{IsFound, found_for, fragment_of, row_at}
use Rattle.pls_boruvka.proofs.Placing.{id_at-row}

-- an edge that is the first to leave a set is the first to leave one with the same nodes
pub IsFirstLeaving-same : (edges : List Edge) (nodes : List ℕ) → IsGraph edges nodes
    → (Before : Edge → Edge → Type 0) (one other : ℕ → Bool)
    → ((u : ℕ) → Contains nodes u → one u ≡ other u) → (edge : Edge) → Contains edges edge
    → IsFirstLeaving edges Before one edge → IsFirstLeaving edges Before other edge
IsFirstLeaving-same edges nodes graph Before one other agree edge in' is = record {
  leaves = λ same. is.leaves (agree edge.a (graph.ends edge in').0 ∙ same
      ∙ sym (agree edge.b (graph.ends edge in').1));
  first = λ far far_in leaves apart. is.first far far_in
      (λ same. leaves (sym (agree far.a (graph.ends far far_in).0) ∙ same
      ∙ agree far.b (graph.ends far far_in).1)) apart;
}

module _ (rows : List NodeRow) (net : IsNetwork rows) (is_tree : IsTree rows) (depth : ℕ → ℕ)
    (falls : Falls rows depth) (tops : List ℕ) (each : length tops ≡ length rows)
    (within : All (λ top. top < length rows) tops) (choices : List (Option Choice))
    (are : AreChoices rows tops (length rows) choices) (some : SomeApart tops) where
  abbrev Known : ℕ → Type 0
  Known u = Contains (ids_of rows) u

  abbrev tree : List Edge
  tree = pointed_edges rows

  abbrev fragment : ℕ → ℕ
  fragment = fragment_of rows net tops each within

  abbrev Found : (u : ℕ) → Known u → Choice → Type 0
  Found u in' first = IsFound rows net tops each within choices are u in' first

  found : (u : ℕ) (in' : Known u) → (first : Choice) × Found u in' first
  found = found_for rows net tops each within choices are is_tree some

  -- where no pointed edge is found for some fragment, a spanning tree is lighter
  pub lighter_where : SomeUnpointed tops choices → (other : List Edge)
      × IsSpanningTree (edges_of rows) other (ids_of rows) × (weight_of other < weight_of tree)
  lighter_where (place, before, none) =
      let (row, at) : (row : NodeRow) × (slice_get rows place ≡ Some row) =
      item_at rows place (omega (arith, before, each)) in
      let in' : Known row.id = id_of_row rows row (Contains-from_place rows place row at) in
      let (first, is) : (first : Choice) × Found row.id in' first = found row.id in' in
      let here : choice_of_place tops choices place ≡ Some first =
      ap (choice_of_place tops choices) (sym (place_named rows net place row at)) ∙ is.found in
      lighter_tree (edges_of rows) tree (ids_of rows) is_tree.spanning (IsGraph-network rows net)
      (ComesBefore tree) (ComesBefore-order tree (edges_of rows)) (before_outside tree)
      (λ v. fragment v == fragment row.id) (edge_of first) is.among is.leaving
      (by first here is.child none)
    where
      by : (first : Choice) → choice_of_place tops choices place ≡ Some first
          → IsChildOf rows (edge_of first) first.child
          → IsUnpointed (choice_of_place tops choices place) → Contains tree (edge_of first) → ⊥
      by first here child (inl none) =
          let no : None ≡ Some first = sym none ∙ here in absurd (cc)
      by first here child (inr (other, is, none)) =
          let same : other ≡ first = same_Some other first (sym is ∙ here) in
          subst (IsChildOf rows (edge_of first))
          (ap (λ (choice : Choice). choice.child) (sym same) ∙ none) child

  module _ (all : List ChosenEnd) (chosen : AreChosen rows tops choices all) where
    abbrev blank : ChosenEnd
    blank = record {
      level = record { fragment = 0; weight = 0; a = 0; b = 0 };
      child = 0;
    }

    -- what the level says of a node
    abbrev pub level_of : ℕ → Level
    level_of u = (get_or all (place_in rows u) blank).level

    -- the child of its edge
    abbrev pub child_of : ℕ → ℕ
    child_of u = (get_or all (place_in rows u) blank).child

    -- the level is right for a node
    record IsRight (u : ℕ) : Type 0 where
      among : Contains (edges_of rows) (chosen_edge (level_of u))
      first : IsFirstLeaving (edges_of rows) (ComesBefore tree) (λ v. fragment v == fragment u)
          (chosen_edge (level_of u))
      child : IsChildOf rows (chosen_edge (level_of u)) (Some (child_of u))
      name : (level_of u).fragment ≡ fragment u

    right : (u : ℕ) → Known u → IsRight u
    right u in' =
        let (row, at, named) : (row : NodeRow) × (slice_get rows (place_in rows u) ≡ Some row)
        × (row.id ≡ u) = row_at rows net u in' in
        let inside : place_in rows u < length all =
        omega (arith, chosen.each, slice_get_within rows (place_in rows u) row at) in
        let is : IsChosen rows (top_at tops (place_in rows u))
        (choice_of_place tops choices (place_in rows u)) (get_or all (place_in rows u) blank) =
        chosen.chosen (place_in rows u) (get_or all (place_in rows u) blank)
        (slice_get-get_or all (place_in rows u) blank inside) in
        let (first, has) : (first : Choice) × Found u in' first = found u in' in
        let same : is.first ≡ first = same_Some is.first first (sym is.is ∙ has.found) in
        let edge : edge_of first ≡ chosen_edge (level_of u) =
        ap edge_of (sym same) ∙ sym is.edge in
        let (last, there) : (last : NodeRow)
        × (slice_get rows (top_at tops (place_in rows u)) ≡ Some last) =
        item_at rows (top_at tops (place_in rows u)) (within (place_in rows u) 0
        (omega (arith, each, slice_get_within rows (place_in rows u) row at))) in record {
          among = subst (Contains (edges_of rows)) edge has.among;
          first = subst (IsFirstLeaving (edges_of rows) (ComesBefore tree)
              (λ v. fragment v == fragment u)) edge has.leaving;
          child = subst (λ (edge : Edge). IsChildOf rows edge (Some (child_of u))) edge
              (subst (IsChildOf rows (edge_of first))
              (ap (λ (choice : Choice). choice.child) (sym same) ∙ is.child) has.child);
          name = is.name last there
              ∙ sym (id_at-row rows (top_at tops (place_in rows u)) last there);
        }

    -- its edge is one of the tree
    pub chosen_in_tree : (u : ℕ) → Known u → Contains tree (chosen_edge (level_of u))
    chosen_in_tree u in' =
        let (row, at, points) : (row : NodeRow) × (slice_get rows (child_of u) ≡ Some row)
        × (pointed_edge row ≡ Some (chosen_edge (level_of u))) = (right u in').child in
        Contains-filter_map pointed_edge rows row (chosen_edge (level_of u))
        (Contains-from_place rows (child_of u) row at) points

    -- the child is a place
    pub children_within : AreChildrenWithin (length rows) all
    children_within place one at =
        let (row, stands) : (row : NodeRow) × (slice_get rows place ≡ Some row) =
        item_at rows place (omega (arith, chosen.each, slice_get_within all place one at)) in
        let in' : Known row.id = id_of_row rows row (Contains-from_place rows place row stands) in
        let is : get_or all (place_in rows row.id) blank ≡ one =
        ap (λ (place : ℕ). get_or all place blank) (place_named rows net place row stands)
        ∙ same_Some (get_or all place blank) one
        (sym (slice_get-get_or all place blank (slice_get_within all place one at)) ∙ at) in
        let (child, there, points) : (child : NodeRow)
        × (slice_get rows (child_of row.id) ≡ Some child)
        × (pointed_edge child ≡ Some (chosen_edge (level_of row.id))) = (right row.id in').child in
        let same = ap (λ (one : ChosenEnd). one.child) is in
        omega (arith, same, slice_get_within rows (child_of row.id) child there)

    module _ (flags : List Bool) (joined : List Edge) (marked : AreFlags rows flags joined)
        (ends : (u : ℕ) → Known u → JoinedChainEnds rows flags u (fragment u)) where
      -- it is a level of the edges that joined so far
      pub IsLevelOf-chosen : IsLevelOf (edges_of rows) joined (ComesBefore tree) (ids_of rows) depth
          level_of
      IsLevelOf-chosen = record {
        fragments = AreFragments-ends rows net depth falls flags joined marked
            (λ u. (level_of u).fragment)
            (λ u in'. subst (JoinedChainEnds rows flags u) (sym (right u in').name) (ends u in'));
        among = λ u in'. (right u in').among;
        first = λ u in'. IsFirstLeaving-same (edges_of rows) (ids_of rows)
            (IsGraph-network rows net) (ComesBefore tree) (λ v. fragment v == fragment u)
            (λ v. (level_of v).fragment == (level_of u).fragment)
            (λ v v_in. ap (λ (name : ℕ). name == fragment u) (sym (right v v_in).name)
            ∙ ap (λ (name : ℕ). (level_of v).fragment == name) (sym (right u in').name))
            (chosen_edge (level_of u)) (right u in').among (right u in').first;
      }

      abbrev more : List Edge
      more = joined ++ chosen_edges level_of (ids_of rows)

      -- the edge of a child is chosen
      chosen_at_child : (row : NodeRow) (edge : Edge) → Contains rows row
          → pointed_edge row ≡ Some edge → IsChild all (length all) (place_in rows row.id)
          → Contains (chosen_edges level_of (ids_of rows)) edge
      chosen_at_child row edge row_in points (place, one, before, at, is) =
          let (from, stands) : (row : NodeRow) × (slice_get rows place ≡ Some row) =
          item_at rows place (omega (arith, chosen.each, before)) in
          let from_in : Known from.id =
          id_of_row rows from (Contains-from_place rows place from stands) in
          let same : get_or all (place_in rows from.id) blank ≡ one =
          ap (λ (place : ℕ). get_or all place blank) (place_named rows net place from stands)
          ∙ same_Some (get_or all place blank) one (sym (slice_get-get_or all place blank before)
          ∙ at) in
          let (child, there, along) : (child : NodeRow)
          × (slice_get rows (child_of from.id) ≡ Some child)
          × (pointed_edge child ≡ Some (chosen_edge (level_of from.id))) =
          (right from.id from_in).child in
          let (place', stands') : (place : ℕ) × (slice_get rows place ≡ Some row) =
          place_from_Contains rows row row_in in
          let spot : child_of from.id ≡ place' =
          ap (λ (one : ChosenEnd). one.child) same ∙ is ∙ place_named rows net place' row stands' in
          let one_row : child ≡ row =
          same_Some child row (sym there ∙ ap (slice_get rows) spot ∙ stands') in
          let edge_is : chosen_edge (level_of from.id) ≡ edge =
          same_Some (chosen_edge (level_of from.id)) edge
          (sym along ∙ ap pointed_edge one_row ∙ points) in
          subst (Contains (chosen_edges level_of (ids_of rows))) edge_is
          (Contains-map (λ u. chosen_edge (level_of u)) (ids_of rows) from.id from_in)

      -- a node whose pointer's edge is chosen is a child
      child_of_chosen : (row : NodeRow) (edge : Edge) → Contains rows row
          → pointed_edge row ≡ Some edge → Contains (chosen_edges level_of (ids_of rows)) edge
          → IsChild all (length all) (place_in rows row.id)
      child_of_chosen row edge row_in points in' =
          let (u, u_in, chose) : (u : ℕ) × Known u × (chosen_edge (level_of u) ≡ edge) =
          Contains-from_map (λ u. chosen_edge (level_of u)) (ids_of rows) edge in' in
          let (child, there, along) : (child : NodeRow)
          × (slice_get rows (child_of u) ≡ Some child)
          × (pointed_edge child ≡ Some (chosen_edge (level_of u))) = (right u u_in).child in
          let same : row.id ≡ child.id = one_child rows net depth falls row child edge row_in
          (Contains-from_place rows (child_of u) child there) points (along ∙ ap Some chose) in
          let (from, at, named) : (row : NodeRow) × (slice_get rows (place_in rows u) ≡ Some row)
          × (row.id ≡ u) = row_at rows net u u_in in
          let inside : place_in rows u < length all =
          omega (arith, chosen.each, slice_get_within rows (place_in rows u) from at) in (
            place_in rows u,
            get_or all (place_in rows u) blank,
            inside,
            slice_get-get_or all (place_in rows u) blank inside,
            sym (ap (place_in rows) same ∙ place_named rows net (child_of u) child there),
          )

      module _ (newer : List Bool) (joins : JoinChildren all (length all) flags newer) where
        -- the entries tell of its edges too
        pub AreFlags-more : AreFlags rows newer more
        AreFlags-more = record {
          below = λ edge in'. elim (Contains-append_cases joined
              (chosen_edges level_of (ids_of rows)) edge in') [
                | inl before ↦ marked.below edge before
                | inr now ↦
                    let (u, u_in, chose) : (u : ℕ) × Known u × (chosen_edge (level_of u) ≡ edge) =
                    Contains-from_map (λ u. chosen_edge (level_of u)) (ids_of rows) edge now in
                    subst (Contains tree) chose (chosen_in_tree u u_in)
              ];
          to = λ row edge row_in points flag. elim ((joins.joined (place_in rows row.id)).0 flag) [
            | inl before ↦ Contains-append_left joined (chosen_edges level_of (ids_of rows)) edge
                (marked.to row edge row_in points before)
            | inr child ↦ Contains-append_right joined (chosen_edges level_of (ids_of rows)) edge
                (chosen_at_child row edge row_in points child)
          ];
          from = λ row edge row_in points in'. (joins.joined (place_in rows row.id)).1
              (elim (Contains-append_cases joined (chosen_edges level_of (ids_of rows)) edge in') [
                | inl before ↦ inl (marked.from row edge row_in points before)
                | inr now ↦ inr (child_of_chosen row edge row_in points now)
              ]);
        }

        -- and some entry has become true
        pub one_more : length flags ≡ length rows → (u : ℕ) → Known u
            → (child_of u < length flags) × (get_or flags (child_of u) false ≡ true → ⊥)
            × (get_or newer (child_of u) false ≡ true)
        one_more sized u in' =
            let edge : Edge = chosen_edge (level_of u) in
            let (child, there, along) : (child : NodeRow)
            × (slice_get rows (child_of u) ≡ Some child)
            × (pointed_edge child ≡ Some (chosen_edge (level_of u))) = (right u in').child in
            let child_in : Contains rows child = Contains-from_place rows (child_of u) child there
            in
            let spot : place_in rows child.id ≡ child_of u =
            place_named rows net (child_of u) child there in
            let sides = (IsGraph-network rows net).ends edge (right u in').among in (
              omega (arith, sized, slice_get_within rows (child_of u) child there),
              λ flag. (right u in').first.leaves (ap (λ (name : ℕ). name == fragment u)
                  ((AreFragments-ends rows net depth falls flags joined marked fragment ends).one
                  edge.a edge.b sides.0 sides.1 (AreJoined-adjacent joined edge.a edge.b (
                    edge,
                    marked.to child edge child_in along
                        (subst (λ (place : ℕ). get_or flags place false ≡ true) (sym spot) flag),
                    inl (refl, refl),
                  )))),
              (joins.joined (child_of u)).1 (inr (subst (IsChild all (length all)) spot
                  (child_of_chosen child edge child_in along
                  (Contains-map (λ u. chosen_edge (level_of u)) (ids_of rows) u in')))),
            )
