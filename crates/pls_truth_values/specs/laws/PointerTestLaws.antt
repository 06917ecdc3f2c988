-- The tests of pointers give true exactly where the properties hold.
use Rattle.std.proofs.Common.{◌≡◌, ◌∙◌, ℕ, zero, suc, ◌+◌, ◌<◌, ◌≤◌, ◌==◌, ◌↔◌, ◌⊎◌, inl, inr, true, List, [], ◌∷◌, length, Contains, Option, Some, None, refl, sym, ap, subst, arith}
use Rattle.std.specs.List.{count_by, list_all}
use Rattle.std.specs.Option.{option_map_or}
use Rattle.std.proofs.lemmas.Bool.{and_from, and_parts, eq-eqb, eqb-true, le-leb, leb-true, lt-ltb, ltb-true}
use Rattle.pls_configuration.specs.declared.row.Port.{Port}
use Rattle.pls_configuration.specs.declared.row.NodeRow.{NodeRow}
use Rattle.pls_configuration.specs.Configuration.{IsNetwork, ids_of}
use Rattle.pls_configuration.specs.Walk.{Adjacent, edges_of}
use Rattle.pls_graph.proofs.Joined.{Adjacent-turned}
use Rattle.pls_facts.specs.Pointer.{pointed_node, Chain, IsChainOf, NoneReturns}
use Rattle.pls_facts.specs.ShortestPath.{IsShortestPathTree}
use Rattle.pls_facts.specs.SpanningTree.{IsTree, is_root}
use Rattle.pls_facts.specs.Weight.{IsDistance, edge_weight, walk_weight}
use Rattle.pls_facts.proofs.Lists.{all_pass, each_passes}
use Rattle.pls_facts.proofs.Bounded.{IsChainOf-short, LeadsRound, LeadsRound-long}
use Rattle.pls_facts.proofs.ChainDepths.{chain_end, chains_fall}
use Rattle.pls_facts.proofs.Chains.{IsChainOf-never_returns}
use Rattle.pls_facts.proofs.Neighbours.{Leads, adjacent_known, leads, port_adjacent}
use Rattle.pls_facts.proofs.Pointed.{id_of_row, points_from, points_to, row_from_id}
use Rattle.pls_facts.proofs.Roots.{a_root, one_root_of}
use Rattle.pls_facts.proofs.ShortestPaths.{chain_distance, one_chain, shortest_by_numbers}
use Rattle.pls_facts.proofs.Trees.{IsTree-falling, NoneReturns-IsTree}
use Rattle.pls_facts.proofs.Weights.{FallsByWeight, RisesByWeight, distances_rise, edge_weight-turned, port_weighs}
use Rattle.pls_truth_values.specs.PointerTests.{chain_of, chain_weight, chain_within, forest_test, has_end, has_lightest, is_no_lighter, spt_test, tree_test}

module _ (rows : List NodeRow) where
  -- the nodes make a chain of u, of so many pointers or up to its end
  abbrev IsChainWithin : ℕ → ℕ → List ℕ → Type 0
  IsChainWithin most u nodes =
      (last : ℕ) × Chain rows u nodes last × ((length nodes ≡ most) ⊎ (pointed_node rows last ≡ None))

  -- what following pointers comes to is a chain
  followed : (most u : ℕ) → IsChainWithin most u (chain_within rows most u)
  unfolding chain_within
  followed zero u = (u, refl, inl refl)
  followed (suc most) u = by (pointed_node rows u) refl (followed most)
    where
      by : (o : Option ℕ) → pointed_node rows u ≡ o
          → ((v : ℕ) → IsChainWithin most v (chain_within rows most v))
          → IsChainWithin (suc most) u
          (option_map_or (λ above. above ∷ chain_within rows most above) o [])
      by None ends rest = (u, refl, inr ends)
      by (Some v) points rest =
          let (last, chain, whole) : IsChainWithin most v (chain_within rows most v) = rest v in (
            last,
            (points, chain),
            elim whole [ inl long ↦ inl (ap suc long) | inr ends ↦ inr ends ],
          )

  -- the chain of u ends at this node
  record EndsAt (u last : ℕ) : Type 0 where
    chain : Chain rows u (chain_of rows u) last
    ends : pointed_node rows last ≡ None

  abbrev whole_chain : (u last : ℕ) → EndsAt u last → IsChainOf rows u last (length (chain_of rows u))
  whole_chain u last end =
      record { nodes = chain_of rows u; chain = end.chain; ends = end.ends; many = refl }

  -- where following pointers ends soon enough, the chain ends
  ends_soon : (u : ℕ) → has_end rows u ≡ true → (last : ℕ) × EndsAt u last
  ends_soon u soon =
      let (last, chain, whole) : IsChainWithin (length rows) u (chain_of rows u) =
      followed (length rows) u in
      let few : length (chain_of rows u) < length rows =
      ltb-true (length (chain_of rows u)) (length rows) soon in
      elim whole [
        | inl long ↦ absurd (omega (arith, few, long))
        | inr ends ↦ (last, record { chain = chain; ends = ends })
      ]

  module _ (net : IsNetwork rows) where
    -- where no chain returns, following pointers ends soon enough
    few_followed : NoneReturns rows → (u : ℕ) → has_end rows u ≡ true
    few_followed none u =
        let (last, chain, whole) : IsChainWithin (length rows) u (chain_of rows u) =
        followed (length rows) u in
        elim whole [
          | inl long ↦
              let round : LeadsRound rows u =
              LeadsRound-long rows net u last (chain_of rows u) chain (omega (arith, long)) in
              absurd (none round.first round.second round.around round.returns)
          | inr ends ↦ lt-ltb (length (chain_of rows u)) (length rows)
              (IsChainOf-short rows net u last (length (chain_of rows u))
              (whole_chain u last (record { chain = chain; ends = ends })))
        ]

    -- where the test of forests passes, the chain of each node ends
    end_of : forest_test rows ≡ true → (u : ℕ) → Contains (ids_of rows) u
        → (last : ℕ) × EndsAt u last
    end_of passes u in' = ends_soon u (each_passes (has_end rows) (ids_of rows) passes u in')

    -- the test of forests is right
    pub forest_tested : (forest_test rows ≡ true) ↔ NoneReturns rows
    forest_tested = (
      λ passes u x nodes round.
          let (last, end) : (last : ℕ) × EndsAt u last =
          end_of passes u (points_from rows net u x round.0) in
          IsChainOf-never_returns rows u last (length (chain_of rows u)) x nodes
          (whole_chain u last end) round,
      λ none. all_pass (has_end rows) (ids_of rows) (λ u in'. few_followed none u),
    )

    -- in a forest with one node without pointer, the pointers make a tree
    tree_from : forest_test rows ≡ true → count_by is_root rows ≡ 1 → IsTree rows
    tree_from passes one =
        let (root, root_in, none) : (row : NodeRow) × Contains rows row × (row.state.up ≡ None) =
        a_root rows one in
        IsTree-falling rows net length_of (chains_fall rows net length_of chain_from) root.id
        (λ row in' up. ap (λ (row : NodeRow). row.id)
        (one_root_of rows one row root in' root_in up none))
      where
        length_of : ℕ → ℕ
        length_of u = length (chain_of rows u)

        chain_from : (row : NodeRow) → Contains rows row
            → (last : ℕ) × IsChainOf rows row.id last (length (chain_of rows row.id))
        chain_from row in' =
            let (last, end) : (last : ℕ) × EndsAt row.id last =
            end_of passes row.id (id_of_row rows row in') in
            (last, whole_chain row.id last end)

    -- the test of trees is right
    pub tree_tested : (tree_test rows ≡ true) ↔ IsTree rows
    tree_tested = (
      λ passes.
          let (forest, one) : (forest_test rows ≡ true) × ((count_by is_root rows == 1) ≡ true) =
          and_parts (forest_test rows) (count_by is_root rows == 1) passes in
          tree_from forest (eqb-true (count_by is_root rows) 1 one),
      λ tree. and_from (forest_test rows) (count_by is_root rows == 1)
          (forest_tested.1 (NoneReturns-IsTree rows net tree))
          (eq-eqb (count_by is_root rows) 1 tree.one_root),
    )

    module _ (passes : forest_test rows ≡ true) where
      -- along a pointer the weight of the chain falls by that of the edge
      weights_fall : FallsByWeight rows (chain_weight rows)
      weights_fall u v points =
          let (last, here) : (last : ℕ) × EndsAt u last =
          end_of passes u (points_from rows net u v points) in
          let (end, there) : (last : ℕ) × EndsAt v last =
          end_of passes v (points_to rows net u v points) in
          let same : chain_of rows u ≡ v ∷ chain_of rows v =
          one_chain rows u last end (chain_of rows u) (v ∷ chain_of rows v) here.chain here.ends
          (points, there.chain) there.ends in
          let weighs : chain_weight rows u ≡ edge_weight rows u v + chain_weight rows v =
          ap (walk_weight rows u) same in
          omega (arith, weighs)

      -- where no port offers a lighter way, the weight rises along an edge by at most that of the
      -- edge
      weights_rise : list_all (has_lightest rows) rows ≡ true
          → RisesByWeight rows (chain_weight rows)
      weights_rise lightest u v adjacent =
          let way : Leads rows v u =
          leads rows net v u (Adjacent-turned (edges_of rows) u v adjacent) in
          let least : chain_weight rows way.row.id ≤ chain_weight rows way.port.nbr
          + way.port.weight =
          leb-true (chain_weight rows way.row.id) (chain_weight rows way.port.nbr + way.port.weight)
          (each_passes (is_no_lighter rows way.row) way.row.ports
          (each_passes (has_lightest rows) rows lightest way.row way.in') way.port way.has) in
          let weighs : edge_weight rows way.row.id way.port.nbr ≡ way.port.weight =
          port_weighs rows net way.row way.port way.in' way.has in
          let back : edge_weight rows v u ≡ edge_weight rows u v =
          edge_weight-turned rows net u v adjacent in
          omega (
            arith,
            least,
            weighs,
            back,
            ap (chain_weight rows) way.owner,
            ap (chain_weight rows) way.names,
            ap (λ (v : ℕ). edge_weight rows v way.port.nbr) way.owner,
            ap (edge_weight rows v) way.names,
          )

    -- in a shortest-path tree no port offers a lighter way
    none_lighter : IsShortestPathTree rows → list_all (has_lightest rows) rows ≡ true
    none_lighter shortest = all_pass (has_lightest rows) rows (λ row in'.
        all_pass (is_no_lighter rows row) row.ports (light row in'))
      where
        passes : forest_test rows ≡ true
        passes = forest_tested.1 (NoneReturns-IsTree rows net shortest.tree)

        root : (row : NodeRow) × Contains rows row × (row.state.up ≡ None)
        root = a_root rows shortest.tree.one_root

        far : (u : ℕ) → Contains (ids_of rows) u → IsDistance rows root.0.id u (chain_weight rows u)
        far u in' =
            let (last, end) : (last : ℕ) × EndsAt u last = end_of passes u in' in
            let chain : IsChainOf rows u last (length (chain_of rows u)) = whole_chain u last end in
            let (row, row_in, is_u) : (row : NodeRow) × Contains rows row × (row.id ≡ u) =
            row_from_id rows u in' in
            let (top, top_in, none, named) : (top : NodeRow) × Contains rows top
            × (top.state.up ≡ None) × (top.id ≡ last) =
            chain_end rows net row row_in last (length (chain_of rows u))
            (subst (λ (id : ℕ). IsChainOf rows id last (length (chain_of rows u))) (sym is_u) chain)
            in
            let same : root.0 ≡ top =
            one_root_of rows shortest.tree.one_root root.0 top root.1 top_in root.2 none in
            subst (λ (id : ℕ). IsDistance rows id u (chain_weight rows u))
            (sym (ap (λ (row : NodeRow). row.id) same ∙ named))
            (chain_distance rows net shortest u last (length (chain_of rows u)) chain)

        light : (row : NodeRow) → Contains rows row → (port : Port) → Contains row.ports port
            → is_no_lighter rows row port ≡ true
        light row in' port has =
            let step : Adjacent (edges_of rows) row.id port.nbr =
            (port_adjacent rows net row port in' has).0 in
            let back : Adjacent (edges_of rows) port.nbr row.id =
            Adjacent-turned (edges_of rows) row.id port.nbr step in
            let rise : chain_weight rows row.id ≤ chain_weight rows port.nbr
            + edge_weight rows port.nbr row.id =
            distances_rise rows net root.0.id (chain_weight rows)
            (λ u v adjacent. far u (adjacent_known rows net v u
            (Adjacent-turned (edges_of rows) u v adjacent))) port.nbr row.id back in
            le-leb (chain_weight rows row.id) (chain_weight rows port.nbr + port.weight)
            (omega (
              arith,
              rise,
              edge_weight-turned rows net row.id port.nbr step,
              port_weighs rows net row port in' has,
            ))

    -- the test of shortest-path trees is right
    pub spt_tested : (spt_test rows ≡ true) ↔ IsShortestPathTree rows
    spt_tested = (
      λ passes.
          let (tree, lightest) : (tree_test rows ≡ true)
          × (list_all (has_lightest rows) rows ≡ true) =
          and_parts (tree_test rows) (list_all (has_lightest rows) rows) passes in
          let is : IsTree rows = tree_tested.0 tree in
          let forest : forest_test rows ≡ true =
          forest_tested.1 (NoneReturns-IsTree rows net is) in
          shortest_by_numbers rows is (chain_weight rows) (weights_fall forest)
          (weights_rise forest lightest),
      λ shortest. and_from (tree_test rows) (list_all (has_lightest rows) rows)
          (tree_tested.1 shortest.tree) (none_lighter shortest),
    )
