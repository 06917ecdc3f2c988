-- The names that chains of joined pointers give are those of the fragments of their edges.
use Rattle.std.proofs.Common.{◌≡◌, ℕ, Bool, true, false, List, get_or, filter, Contains, Some, subst, arith, slice_get}
use Rattle.std.proofs.lemmas.Option.{slice_get-get_or, slice_get_within}
use Rattle.pls_configuration.specs.declared.row.NodeRow.{NodeRow}
use Rattle.pls_configuration.specs.Configuration.{IsNetwork, ids_of}
use Rattle.pls_configuration.specs.Walk.{Edge}
use Rattle.pls_graph.specs.Places.{place_in}
use Rattle.pls_graph.proofs.Members.{Contains-filter, Contains-from_filter}
use Rattle.pls_facts.specs.SpanningTree.{pointed_edge}
use Rattle.pls_facts.proofs.Filtered.{Contains-filter_map, Contains-from_filter_map}
use Rattle.pls_boruvka.specs.Boruvka.{AreChainLengths}
use Rattle.pls_boruvka.specs.Fragments.{AreFragmentNames, AreFragments, JoinedChainEnds, joined_edges}
use Rattle.pls_boruvka.proofs.ChainLengths.{Falls-chains}
use Rattle.pls_boruvka.proofs.JoinedChains.{AreFlags, AreFragments-ends, one_child}
use Rattle.pls_boruvka.proofs.Leaving.{row_at}

module _ (rows : List NodeRow) (net : IsNetwork rows) (joined : List Bool) (depth : ℕ → ℕ)
    (deep : AreChainLengths rows depth) where
  abbrev is_joined : NodeRow → Bool
  is_joined row = get_or joined (place_in rows row.id) false

  -- the row that points along an edge of theirs
  found : (edge : Edge) → Contains (joined_edges rows joined) edge → (row : NodeRow)
      × Contains rows row × (is_joined row ≡ true) × (pointed_edge row ≡ Some edge)
  found edge in' =
      let (row, kept, points) : (row : NodeRow) × Contains (filter is_joined rows) row
      × (pointed_edge row ≡ Some edge) =
      Contains-from_filter_map pointed_edge (filter is_joined rows) edge in' in
      let (row_in, passes) : Contains rows row × (is_joined row ≡ true) =
      Contains-from_filter is_joined rows row kept in
      (row, row_in, passes, points)

  AreFlags-joined : AreFlags rows joined (joined_edges rows joined)
  AreFlags-joined = record {
    below = λ edge in'.
        let (row, row_in, passes, points) : (row : NodeRow) × Contains rows row
        × (is_joined row ≡ true) × (pointed_edge row ≡ Some edge) = found edge in' in
        Contains-filter_map pointed_edge rows row edge row_in points;
    to = λ row edge row_in points passes.
        Contains-filter_map pointed_edge (filter is_joined rows) row edge
        (Contains-filter is_joined rows row row_in passes) points;
    from = λ row edge row_in points in'.
        let (other, other_in, passes, also) : (row : NodeRow) × Contains rows row
        × (is_joined row ≡ true) × (pointed_edge row ≡ Some edge) = found edge in' in
        subst (λ (id : ℕ). get_or joined (place_in rows id) false ≡ true)
        (one_child rows net depth (Falls-chains rows net depth deep) other row edge other_in row_in
        also points) passes;
  }

  pub AreFragments-names : (names : List ℕ) → AreFragmentNames rows joined names
      → AreFragments (joined_edges rows joined) (ids_of rows) depth
      (λ id. get_or names (place_in rows id) 0)
  AreFragments-names names are = AreFragments-ends rows net depth (Falls-chains rows net depth deep)
      joined (joined_edges rows joined) AreFlags-joined (λ id. get_or names (place_in rows id) 0)
      (λ u in'.
      let (row, at, named) : (row : NodeRow) × (slice_get rows (place_in rows u) ≡ Some row)
      × (row.id ≡ u) = row_at rows net u in' in
      subst (λ (id : ℕ). JoinedChainEnds rows joined id (get_or names (place_in rows u) 0)) named
      (are.name row (place_in rows u) (get_or names (place_in rows u) 0) at
      (slice_get-get_or names (place_in rows u) 0
      (omega (arith, are.each, slice_get_within rows (place_in rows u) row at)))))
