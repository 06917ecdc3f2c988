-- The pointers of a network from a number make a tree, which joins all nodes, and no spanning tree
-- weighs less than its edges.
use Rattle.std.proofs.Common.{◌≡◌, ◌∙◌, ℕ, ◌+◌, ◌-◌, ◌<◌, ◌≤◌, ◌⊎◌, inl, inr, Bool, true, false, cond, ◌==◌, nat_lt, List, [], ◌∷◌, ◌++◌, length, map, fold, Contains, Option, Some, None, option_map, option_and_then, refl, sym, ap, subst, arith, slice_get}
use Rattle.std.specs.List.{range_with_len}
use Rattle.std.specs.Option.{option_map_or}
use Rattle.std.proofs.lemmas.Bool.{eqb-false, eqb-true, lt-ltb}
use Rattle.std.proofs.lemmas.List.Elements.{Contains-append_cases}
use Rattle.std.proofs.lemmas.Option.{same_Some}
use Rattle.pls_configuration.specs.declared.row.Port.{Port}
use Rattle.pls_configuration.specs.declared.row.State.{State}
use Rattle.pls_configuration.specs.declared.row.NodeRow.{NodeRow}
use Rattle.pls_configuration.specs.Configuration.{IsNetwork, ids_of, row_of}
use Rattle.pls_configuration.specs.Walk.{Edge, IsConnected, edges_of}
use Rattle.pls_graph_edits.specs.Edits.{in_state}
use Rattle.pls_graph.proofs.Finds.{found_place, from_option_map}
use Rattle.pls_graph.proofs.Joined.{AreJoined-adjacent}
use Rattle.pls_graph.proofs.Members.{Contains-from_map, Contains-from_place}
use Rattle.pls_facts.specs.MinimumSpanningTree.{IsMinimumSpanningTree}
use Rattle.pls_facts.specs.Pointer.{pointed_node, pointed_port}
use Rattle.pls_facts.specs.SpanningTree.{IsTree, edge_at, pointed_edge, pointed_edges}
use Rattle.pls_facts.proofs.CycleRule.{IsLightest-heavy}
use Rattle.pls_facts.proofs.Decided.{same_Edge}
use Rattle.pls_facts.proofs.Filtered.{Contains-filter_map, Contains-from_filter_map}
use Rattle.pls_facts.proofs.Paths.{AreJoined-each}
use Rattle.pls_facts.proofs.Pointed.{IsPointer, IsPointer-pointed_node, id_of_row, row_from_id}
use Rattle.pls_facts.proofs.PortEdges.{IsAtPort, IsGraph-network, ports_of_edge}
use Rattle.pls_facts.proofs.Trees.{IsTree-falling}
use Rattle.pls_trial.specs.Generator.{Link, at_port_0, nodes_alone, pointing, with_link}
use Rattle.pls_trial.specs.inner.Building.{has_port}
use Rattle.pls_trial.proofs.Alone.{Each-nodes_alone, ids_of-nodes_alone}
use Rattle.pls_trial.proofs.Grown.{IsLinked, OfLinks, begun, port_of, ports_of_links, states_kept}
use Rattle.pls_trial.proofs.Linking.{Each, Each-map, ids_of-fold, ids_of-map}
use Rattle.pls_trial.proofs.Numbered.{Contains-range, range-within}
use Rattle.pls_trial.proofs.Refused.{row_there}
use Rattle.pls_trial.proofs.Smaller.{depth, depth-falls}

-- pointers leave the identities
pub pointing-id : (row : NodeRow) → (pointing row).id ≡ row.id
pointing-id row = by (row.id == 1)
  where
    by : (b : Bool) → (cond b row (in_state at_port_0 row)).id ≡ row.id
    by true = refl
    by false = refl

-- the node points at its port 0, which is that of the i-th link of the tree
record IsInTree (tree : ℕ → Link) (count : ℕ) (row : NodeRow) : Type 0 where
  i : ℕ
  within : i < count
  id : row.id ≡ i + 2
  up : row.state.up ≡ Some 0
  first : slice_get row.ports 0 ≡ Some (port_of (tree i))

-- the first node, or one of the tree
abbrev IsRootOrInTree : (ℕ → Link) → ℕ → NodeRow → Type 0
IsRootOrInTree tree count row =
    ((row.id ≡ 1) × (row.state.up ≡ None)) ⊎ IsInTree tree count row

-- links of a tree, each of a node to one before it, and others that are no lighter
pub record AreTrialLinks (tree : ℕ → Link) (others : List Link) : Type 0 where
  pub named : (i : ℕ) → (tree i).a ≡ i + 2
  pub earlier : (i : ℕ) → (tree i).b < i + 2
  pub light : (i : ℕ) → (tree i).weight ≤ 999
  pub heavy : (link : Link) → Contains others link → 999 ≤ link.weight

module _ (tree : ℕ → Link) (others : List Link) (given : AreTrialLinks tree others)
    (nodes : ℕ) (some : 1 ≤ nodes) where
  abbrev links : List Link
  links = map tree (range_with_len 0 (nodes - 1)) ++ others

  abbrev unpointed : List NodeRow
  unpointed = fold with_link (nodes_alone nodes) links

  abbrev rows : List NodeRow
  rows = map pointing unpointed

  -- the identities are those from 1 on
  ids : ids_of rows ≡ range_with_len 1 nodes
  ids = ids_of-map pointing pointing-id unpointed ∙ ids_of-fold links (nodes_alone nodes)
      ∙ ids_of-nodes_alone nodes

  ids_unpointed : ids_of unpointed ≡ range_with_len 1 nodes
  ids_unpointed = ids_of-fold links (nodes_alone nodes) ∙ ids_of-nodes_alone nodes

  -- no pointer was there before
  no_pointer : Each (λ row. row.state ≡ record { up = None; mark = 0; num = 0 }) unpointed
  no_pointer = states_kept (record { up = None; mark = 0; num = 0 }) links (nodes_alone nodes)
      (Each-nodes_alone (λ row. row.state ≡ record { up = None; mark = 0; num = 0 }) nodes (λ id. refl))

  -- each row is that of the first node, or of one of the tree
  kinds : Each (IsRootOrInTree tree (nodes - 1)) rows
  kinds = Each-map (IsRootOrInTree tree (nodes - 1)) pointing unpointed
      (λ row in'. by row in' (row.id == 1) refl)
    where
      by : (row : NodeRow) → Contains unpointed row → (b : Bool) → (row.id == 1) ≡ b
          → IsRootOrInTree tree (nodes - 1) (cond b row (in_state at_port_0 row))
      by row in' true first = inl (
        eqb-true row.id 1 first,
        ap (λ (state : State). state.up) (no_pointer row in'),
      )
      by row in' false later =
          let within = range-within 1 nodes row.id
          (subst (λ (ids : List ℕ). Contains ids row.id) ids_unpointed (id_of_row unpointed row in')) in
          let other = eqb-false row.id 1 later in
          let least = within.0 in
          let most = within.1 in
          let is : row.id ≡ row.id - 2 + 2 = omega (arith, least, other) in
          let inside : row.id - 2 < nodes - 1 = omega (arith, least, most, other) in
          inr record {
            i = row.id - 2;
            within = inside;
            id = is;
            up = refl;
            first = begun tree others given.named given.earlier nodes (nodes - 1) (row.id - 2) inside row in' is;
          }

  -- each port is that of a link
  of_links : Each (OfLinks links) rows
  of_links = Each-map (OfLinks links) pointing unpointed
      (λ row in'. by row (ports_of_links nodes links row in') (row.id == 1))
    where
      by : (row : NodeRow) → OfLinks links row → (b : Bool)
          → OfLinks links (cond b row (in_state at_port_0 row))
      by row linked true = linked
      by row linked false = linked

  -- each node behind the first has a port
  pub has_ports : (id : ℕ) → 2 ≤ id → id ≤ nodes → has_port unpointed id ≡ true
  has_ports id least most =
      let (row, found) : (row : NodeRow) × (row_of unpointed id ≡ Some row) =
      row_there unpointed id (subst (λ (ids : List ℕ). Contains ids id) (sym ids_unpointed)
      (Contains-range 1 nodes id (omega arith) (omega arith))) in
      let (k, at, test) : (k : ℕ) × (slice_get unpointed k ≡ Some row) × ((id == row.id) ≡ true) =
      found_place (λ (row : NodeRow). id == row.id) unpointed row found in
      let owner = eqb-true id row.id test in
      let first : slice_get row.ports 0 ≡ Some (port_of (tree (id - 2))) =
      begun tree others given.named given.earlier nodes (nodes - 1) (id - 2) (omega arith) row
      (Contains-from_place unpointed k row at) (omega arith) in
      ap (λ (found : Option NodeRow).
      option_map_or (λ row. nat_lt 0 (length row.ports)) found false) found ∙ some_port row.ports first
    where
      some_port : (ports : List Port) {port : Port} → slice_get ports 0 ≡ Some port
          → nat_lt 0 (length ports) ≡ true
      some_port [] at = absurd (cc)
      some_port (port ∷ ports) at = lt-ltb 0 (length (port ∷ ports)) (omega arith)

  -- where a row points
  points : (row : NodeRow) → Contains rows row → (port : Port) → pointed_port row ≡ Some port
      → (i : ℕ) × (row.id ≡ i + 2) × (port_of (tree i) ≡ port)
  points row in' port at = elim (kinds row in') [
    | inl root ↦
        let no : None ≡ Some port =
        ap (option_and_then (slice_get row.ports)) (sym root.1) ∙ at in absurd (cc)
    | inr is ↦ (
      is.i,
      is.id,
      same_Some (port_of (tree is.i)) port
          (sym (ap (option_and_then (slice_get row.ports)) is.up ∙ is.first) ∙ at),
    )
  ]

  module _ (net : IsNetwork rows) where
    -- pointers lead to smaller identities
    smaller : (u v : ℕ) → pointed_node rows u ≡ Some v → v < u
    smaller u v to =
        let step : IsPointer rows u v = IsPointer-pointed_node rows net u v to in
        let (i, id, is) : (i : ℕ) × (step.row.id ≡ i + 2) × (port_of (tree i) ≡ step.port) =
        points step.row (Contains-from_place rows step.place step.row step.at) step.port
        (ap (option_and_then (slice_get step.row.ports)) step.up ∙ step.has) in
        let b = ap (λ (port : Port). port.nbr) is in
        let less = given.earlier i in
        let name = step.named in
        let owner = step.owner in
        omega arith

    pub is_tree : IsTree rows
    is_tree = IsTree-falling rows net (depth (pointed_node rows) smaller)
        (depth-falls (pointed_node rows) smaller) 1
        (λ row in' none. elim (kinds row in') [
          | inl root ↦ root.0
          | inr is ↦ let no : None ≡ Some 0 = sym none ∙ is.up in absurd (cc)
        ])

    pub is_connected : IsConnected rows
    is_connected u v u_in v_in = AreJoined-each (pointed_edges rows) (edges_of rows)
        (λ w x adjacent. AreJoined-adjacent (edges_of rows) w x
        (adjacent.0, is_tree.spanning.among adjacent.0 adjacent.1, adjacent.2))
        u v (is_tree.spanning.joined u v u_in v_in)

    -- pointed edges weigh 999 at most
    pointed_light : (edge : Edge) → Contains (pointed_edges rows) edge → edge.weight ≤ 999
    pointed_light edge in' =
        let (row, row_in, gives) : (row : NodeRow) × Contains rows row
        × (pointed_edge row ≡ Some edge) =
        Contains-from_filter_map pointed_edge rows edge in' in
        let (port, at, is) : (port : Port) × (pointed_port row ≡ Some port)
        × (edge_at row port ≡ edge) =
        from_option_map (edge_at row) (pointed_port row) edge gives in
        let (i, id, same) : (i : ℕ) × (row.id ≡ i + 2) × (port_of (tree i) ≡ port) =
        points row row_in port at in
        let one = ap (λ (port : Port). port.weight) same in
        let two = ap (λ (edge : Edge). edge.weight) is in
        let most = given.light i in
        omega arith

    -- the edge of a link of the tree is pointed along
    pointed_link : (i : ℕ) → i < nodes - 1 → (edge : Edge) → edge.a ≡ (tree i).b
        → edge.b ≡ i + 2 → edge.weight ≡ (tree i).weight → Contains (pointed_edges rows) edge
    pointed_link i within edge low high weighs =
        let (row, row_in, id) : (row : NodeRow) × Contains rows row × (row.id ≡ i + 2) =
        row_from_id rows (i + 2) (subst (λ (ids : List ℕ). Contains ids (i + 2)) (sym ids)
        (Contains-range 1 nodes (i + 2) (omega arith) (omega (arith, within)))) in
        elim (kinds row row_in) [
          | inl root ↦ let one = root.0 in absurd (omega arith)
          | inr is ↦
              let which : is.i ≡ i = let e = is.id in omega arith in
              let first : slice_get row.ports 0 ≡ Some (port_of (tree i)) =
              is.first ∙ ap (λ (i : ℕ). Some (port_of (tree i))) which in
              let less = given.earlier i in
              let same : edge_at row (port_of (tree i)) ≡ edge =
              same_Edge (edge_at row (port_of (tree i))) edge
              (omega (arith, low, id, less)) (omega (arith, high, id, less)) (sym weighs) in
              Contains-filter_map pointed_edge rows row edge row_in
              (ap (option_map (edge_at row))
              (ap (option_and_then (slice_get row.ports)) is.up ∙ first) ∙ ap Some same)
        ]

    -- any other edge weighs 999 or more
    others_heavy : (edge : Edge) → Contains (edges_of rows) edge
        → ¬ Contains (pointed_edges rows) edge → 999 ≤ edge.weight
    others_heavy edge in' apart =
        let at : IsAtPort rows edge edge.a edge.b = (ports_of_edge rows net edge in').0 in
        let linked : IsLinked links at.row.id at.port =
        of_links at.row (Contains-from_place rows at.place at.row at.at) at.port
        (Contains-from_place at.row.ports at.number at.port at.has) in
        let weighs = ap (λ (edge : Edge). edge.weight) at.is in
        let weight = linked.weight in
        elim (Contains-append_cases (map tree (range_with_len 0 (nodes - 1))) others linked.link
        linked.among) [
          | inr other ↦ let most = given.heavy linked.link other in omega arith
          | inl of_tree ↦
              let (i, i_in, is) : (i : ℕ) × Contains (range_with_len 0 (nodes - 1)) i
              × (tree i ≡ linked.link) =
              Contains-from_map tree (range_with_len 0 (nodes - 1)) linked.link of_tree in
              let a = ap (λ (link : Link). link.a) is in
              let b = ap (λ (link : Link). link.b) is in
              let w = ap (λ (link : Link). link.weight) is in
              let name = given.named i in
              let less = given.earlier i in
              let low = ap (λ (edge : Edge). edge.a) at.is in
              let high = ap (λ (edge : Edge). edge.b) at.is in
              let near = at.owner in
              let far = at.names in
              let inside = (range-within 0 (nodes - 1) i i_in).1 in
              let below : i < nodes - 1 = omega arith in
              absurd (apart (pointed_link i below edge
              (elim linked.ends [
                | inl e ↦ let one = e.0 in let two = e.1 in omega arith
                | inr e ↦ let one = e.0 in let two = e.1 in omega arith
              ])
              (elim linked.ends [
                | inl e ↦ let one = e.0 in let two = e.1 in omega arith
                | inr e ↦ let one = e.0 in let two = e.1 in omega arith
              ])
              (omega arith)))
        ]

    pub is_minimum : IsMinimumSpanningTree rows
    is_minimum = record {
      tree = is_tree;
      lightest = IsLightest-heavy (edges_of rows) (pointed_edges rows) (ids_of rows)
          (IsGraph-network rows net) is_tree.spanning
          (λ edge along path in' outside is along_in on.
          let most = pointed_light along along_in in
          let least = others_heavy edge in' outside in
          omega arith);
    }
