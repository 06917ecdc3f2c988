-- The theorem of the scheme of shortest-path trees.
use Rattle.std.proofs.Common.{◌≡◌, ◌≤◌, ◌<◌, ◌∙◌, ◌+◌, ◌*◌, ◌==◌, ℕ, nat_le, Bool, true, List, [], ◌∷◌, map, length, slice_get, Contains, Option, Some, None, refl, sym, ap, subst, arith, mul-le-mul_right, leb-true, le-leb}
use Rattle.std.specs.Option.{option_and_then, option_map_or}
use Rattle.std.proofs.lemmas.Bool.{and_from, and_parts, eq-eqb, eqb-true}
use Rattle.pls_bits.specs.NumberCode.{Grows, IsShort}
use Rattle.pls_configuration.specs.declared.row.Port.{Port}
use Rattle.pls_configuration.specs.declared.row.NodeRow.{NodeRow}
use Rattle.pls_configuration.specs.Configuration.{IsNetwork, ids_of}
use Rattle.pls_configuration.specs.Walk.{Adjacent, edges_of}
use Rattle.pls_graph.specs.Size.{greatest, size_of, weights_of}
use Rattle.pls_graph.proofs.Joined.{Adjacent-turned}
use Rattle.pls_graph.proofs.Members.{Contains-from_place}
use Rattle.pls_scheme.specs.Judging.{AllHold}
use Rattle.pls_scheme.specs.Basic.{longest_by}
use Rattle.pls_scheme.specs.Reading.{ReadPort, read_where, port_where}
use Rattle.pls_scheme.specs.Theorem.{OneIsRight, RightFits, RulesAreMet, RulesShow}
use Rattle.pls_scheme.proofs.Fitting.{within_fits}
use Rattle.pls_scheme.proofs.SaidPorts.{all_ports_pass, passes_port}
use Rattle.pls_facts.specs.Pointer.{IsChainOf, pointed_node}
use Rattle.pls_facts.specs.ShortestPath.{IsShortestPathTree}
use Rattle.pls_facts.specs.Weight.{IsDistance, edge_weight, walk_weight}
use Rattle.pls_facts.proofs.Bounded.{IsChainOf-short}
use Rattle.pls_facts.proofs.Chains.{IsChainOf-one}
use Rattle.pls_facts.proofs.Neighbours.{Leads, adjacent_known, id_within, leads, port_adjacent}
use Rattle.pls_facts.proofs.Pointed.{IsPointer, IsPointer-pointed_node, pointed_port_of, root_points_nowhere, row_from_id}
use Rattle.pls_facts.proofs.Roots.{a_root}
use Rattle.pls_facts.proofs.ShortestPaths.{chain_distance, chain_within, distances_fall, edge_within, one_chain, shortest_by_numbers}
use Rattle.pls_facts.proofs.Weights.{FallsByWeight, RisesByWeight, distances_rise, edge_weight-turned, port_weighs}
use Rattle.pls_pointer.specs.Tree.{is_deeper_in_tree, tree_rules}
use Rattle.pls_pointer.specs.declared.tree.TreeLabel.{TreeLabel}
use Rattle.pls_pointer.specs.laws.PointingLaws.{points_or, target_said}
use Rattle.pls_pointer.specs.laws.TreeLaws.{tree_met, tree_show}
use Rattle.pls_distance.specs.declared.spt.SptLabel.{SptLabel}
use Rattle.pls_distance.specs.Spt.{is_farther_than_target, is_nearest, is_reached_by, spt_limits, spt_rules, spt_says, spt_shape, tree_part, tree_port, tree_reading}
use Rattle.pls_distance.specs.inner.Saying.{far_says}

module _ (say : ℕ → SptLabel) where
  -- what labels say of the tree
  abbrev tree_say : ℕ → TreeLabel
  tree_say id = tree_part (say id)

  -- how far a node is, as its label says
  abbrev dist_said : ℕ → ℕ
  dist_said id = (say id).dist

  -- what is read of the tree is what labels say of it
  tree_read : (row : NodeRow) → tree_reading (read_where say row) ≡ read_where tree_say row
  tree_read row = ap (λ (ports : List (ReadPort TreeLabel)). record {
    id = row.id;
    state = row.state;
    own = tree_say row.id;
    ports = ports;
  }) (both row.ports)
    where
      both : (ports : List Port) → map tree_port (map (port_where say) ports)
          ≡ map (port_where tree_say) ports
      both [] = refl
      both (port ∷ ports) =
          ap (λ (others : List (ReadPort TreeLabel)). port_where tree_say port ∷ others) (both ports)

  module _ (rows : List NodeRow) (net : IsNetwork rows) where
    -- where each node is as far from its target as the weight of the edge, distances fall so
    farther_falls : ((row : NodeRow) → Contains rows row
        → is_farther_than_target (read_where say row) ≡ true) → FallsByWeight rows dist_said
    farther_falls farther u v points =
        let step : IsPointer rows u v = IsPointer-pointed_node rows net u v points in
        let in' : Contains rows step.row = Contains-from_place rows step.place step.row step.at in
        let test : Option (ReadPort SptLabel) → Bool =
        λ read. option_map_or (λ (port : ReadPort SptLabel). (say step.row.id).dist
        == port.label.dist + port.weight) read true in
        let here : ((say step.row.id).dist == (say step.port.nbr).dist + step.port.weight) ≡ true =
        sym (ap test (target_said (λ (label : SptLabel). label.dist) say step.row step.number
        step.port step.up step.has))
        ∙ farther step.row in' in
        let falls : (say step.row.id).dist ≡ (say step.port.nbr).dist + step.port.weight =
        eqb-true (say step.row.id).dist ((say step.port.nbr).dist + step.port.weight) here in
        let weighs : edge_weight rows step.row.id step.port.nbr ≡ step.port.weight =
        port_weighs rows net step.row step.port in'
        (Contains-from_place step.row.ports step.number step.port step.has) in
        let whole : (say step.row.id).dist
        ≡ (say step.port.nbr).dist + edge_weight rows step.row.id step.port.nbr =
        omega (arith, falls, weighs) in
        subst (λ (u : ℕ). (say u).dist ≡ (say v).dist + edge_weight rows u v) (sym step.owner)
        (subst (λ (v : ℕ). (say step.row.id).dist
        ≡ (say v).dist + edge_weight rows step.row.id v) step.named whole)

    -- and the other way round
    falls_farther : FallsByWeight rows dist_said → (row : NodeRow) → Contains rows row
        → is_farther_than_target (read_where say row) ≡ true
    falls_farther falls row in' = by row.state.up refl
      where
        test : Option (ReadPort SptLabel) → Bool
        test read = option_map_or (λ (port : ReadPort SptLabel).
            (say row.id).dist == port.label.dist + port.weight) read true

        by : (up : Option ℕ) → row.state.up ≡ up → is_farther_than_target (read_where say row) ≡ true
        by None is = ap (λ (up : Option ℕ). test
            (option_and_then (slice_get (map (port_where say) row.ports)) up)) is
        by (Some number) is =
            let (port, has, points) : (port : Port) × (slice_get row.ports number ≡ Some port)
            × (pointed_node rows row.id ≡ Some port.nbr) =
            pointed_port_of rows net row in' number is in
            let weighs : edge_weight rows row.id port.nbr ≡ port.weight =
            port_weighs rows net row port in' (Contains-from_place row.ports number port has) in
            let down = falls row.id port.nbr points in
            ap test (target_said (λ (label : SptLabel). label.dist) say row number port is has)
            ∙ eq-eqb (say row.id).dist ((say port.nbr).dist + port.weight)
            (omega (arith, down, weighs))

    -- where no node would be nearer by one of its ports, distances rise by at most the weights
    nearest_rises : ((row : NodeRow) → Contains rows row → is_nearest (read_where say row) ≡ true)
        → RisesByWeight rows dist_said
    nearest_rises nearest u v adjacent =
        let way : Leads rows v u =
        leads rows net v u (Adjacent-turned (edges_of rows) u v adjacent) in
        let passes :
        nat_le (say way.row.id).dist ((say way.port.nbr).dist + way.port.weight) ≡ true =
        passes_port (is_reached_by (say way.row.id).dist) say way.row.ports
        (nearest way.row way.in') way.port way.has in
        let few : (say way.row.id).dist ≤ (say way.port.nbr).dist + way.port.weight =
        leb-true (say way.row.id).dist ((say way.port.nbr).dist + way.port.weight) passes in
        let weighs : edge_weight rows way.row.id way.port.nbr ≡ way.port.weight =
        port_weighs rows net way.row way.port way.in' way.has in
        let whole : (say way.row.id).dist
        ≤ (say way.port.nbr).dist + edge_weight rows way.row.id way.port.nbr =
        omega (arith, few, weighs) in
        let there : (say v).dist ≤ (say u).dist + edge_weight rows v u =
        subst (λ (v : ℕ). (say v).dist ≤ (say u).dist + edge_weight rows v u) way.owner
        (subst (λ (u : ℕ). (say way.row.id).dist ≤ (say u).dist + edge_weight rows way.row.id u)
        way.names whole) in
        omega (arith, there, edge_weight-turned rows net u v adjacent)

    -- and the other way round
    rises_nearest : RisesByWeight rows dist_said → (row : NodeRow) → Contains rows row
        → is_nearest (read_where say row) ≡ true
    rises_nearest rises row in' =
        all_ports_pass (is_reached_by (say row.id).dist) say row.ports near
      where
        near : (port : Port) → Contains row.ports port
            → nat_le (say row.id).dist ((say port.nbr).dist + port.weight) ≡ true
        near port has =
            let there : Adjacent (edges_of rows) row.id port.nbr =
            (port_adjacent rows net row port in' has).0 in
            let most = rises port.nbr row.id
            (Adjacent-turned (edges_of rows) row.id port.nbr there) in
            let turned = edge_weight-turned rows net row.id port.nbr there in
            let weighs = port_weighs rows net row port in' has in
            le-leb (say row.id).dist ((say port.nbr).dist + port.weight)
            (omega (arith, most, turned, weighs))

-- where the rules hold everywhere in a connected network, the pointers make a shortest-path tree
pub spt_show : RulesShow spt_rules IsShortestPathTree
spt_show rows net joined say hold =
    shortest_by_numbers rows
    (tree_show rows net joined (tree_say say)
    (λ row in'. subst (λ read. AllHold (tree_rules read)) (tree_read say row) (of_tree row in')))
    (dist_said say) (farther_falls say rows net farther) (nearest_rises say rows net nearest)
  where
    of_tree : (row : NodeRow) → Contains rows row
        → AllHold (tree_rules (tree_reading (read_where say row)))
    of_tree row in' =
        let rules = hold row in' in
        (rules.0, ((and_parts _ _ rules.1.0).0, ((and_parts _ _ rules.1.1.0).0, tt)))

    farther : (row : NodeRow) → Contains rows row → is_farther_than_target (read_where say row) ≡ true
    farther row in' =
        (and_parts (is_deeper_in_tree (tree_reading (read_where say row)))
        (is_farther_than_target (read_where say row)) (hold row in').1.1.0).1

    nearest : (row : NodeRow) → Contains rows row → is_nearest (read_where say row) ≡ true
    nearest row in' = (hold row in').1.1.1.0

module _ (rows : List NodeRow) (net : IsNetwork rows) (shortest : IsShortestPathTree rows)
    (say : ℕ → SptLabel)
    (right : (row : NodeRow) → Contains rows row → spt_says rows row (say row.id))
  where
    root : (row : NodeRow) × Contains rows row × (row.state.up ≡ None)
    root = a_root rows shortest.tree.one_root

    -- where what is said is right, it is the distance from the root
    said_distance : (row : NodeRow) → Contains rows row
        → IsDistance rows root.0.id row.id (dist_said say row.id)
    said_distance row in' =
        let (named, chain, weighs) : ((say row.id).root ≡ root.0.id)
        × (chain : IsChainOf rows row.id root.0.id (say row.id).depth)
        × ((say row.id).dist ≡ walk_weight rows row.id chain.nodes) =
        right row in' root.0 root.1 root.2 in
        subst (IsDistance rows root.0.id row.id) (sym weighs)
        (chain_distance rows net shortest row.id root.0.id (say row.id).depth chain)

    said_falls : FallsByWeight rows (dist_said say)
    said_falls = distances_fall rows net shortest root.0.id (dist_said say) said_distance
        (λ row in'. ((say row.id).depth, (right row in' root.0 root.1 root.2).1))

    said_rises : RisesByWeight rows (dist_said say)
    said_rises = distances_rise rows net root.0.id (dist_said say) (λ u v adjacent.
        let (row, in', is) : (row : NodeRow) × Contains rows row × (row.id ≡ u) =
        row_from_id rows u
        (adjacent_known rows net v u (Adjacent-turned (edges_of rows) u v adjacent)) in
        subst (λ (u : ℕ). IsDistance rows root.0.id u (dist_said say u)) is
        (said_distance row in'))

    -- the root is no way from itself
    said_at_root : (row : NodeRow) → Contains rows row → row.state.up ≡ None
        → (say row.id).dist ≡ 0
    said_at_root row in' none =
        let (named, chain, weighs) : ((say row.id).root ≡ row.id)
        × (chain : IsChainOf rows row.id row.id (say row.id).depth)
        × ((say row.id).dist ≡ walk_weight rows row.id chain.nodes) =
        right row in' row in' none in
        weighs ∙ ap (walk_weight rows row.id)
        (one_chain rows row.id row.id row.id chain.nodes [] chain.chain chain.ends refl
        (root_points_nowhere rows net row in' none))

-- where what is said is right, the rules hold
pub spt_met : RulesAreMet spt_rules IsShortestPathTree spt_says
spt_met rows net joined shortest say right row in' = (
  of_tree.0,
  (
    and_from _ _ of_tree.1.0 (points_or row ((say row.id).dist == 0)
        (λ none. eq-eqb (say row.id).dist 0
        (said_at_root rows net shortest say right row in' none))),
    (
      and_from _ _ of_tree.1.1.0
          (falls_farther say rows net (said_falls rows net shortest say right) row in'),
      (rises_nearest say rows net (said_rises rows net shortest say right) row in', tt),
    ),
  ),
)
  where
    of_tree : AllHold (tree_rules (tree_reading (read_where say row)))
    of_tree = subst (λ read. AllHold (tree_rules read)) (sym (tree_read say row))
        (tree_met rows net joined shortest.tree (tree_say say)
        (λ row in' root root_in none. let is = right row in' root root_in none in (is.0, is.1)) row
        in')

-- one label is right for a node
pub spt_one_right : OneIsRight IsShortestPathTree spt_says
spt_one_right rows net joined shortest row one other in' mine theirs =
    let root : (row : NodeRow) × Contains rows row × (row.state.up ≡ None) =
    a_root rows shortest.tree.one_root in
    let a = mine root.0 root.1 root.2 in
    let b = theirs root.0 root.1 root.2 in
    let roots : one.root ≡ other.root = a.0 ∙ sym b.0 in
    let depths : one.depth ≡ other.depth =
    (IsChainOf-one rows row.id root.0.id root.0.id one.depth other.depth a.1 b.1).1 in
    let dists : one.dist ≡ other.dist = a.2 ∙ ap (walk_weight rows row.id)
    (one_chain rows row.id root.0.id root.0.id a.1.nodes b.1.nodes a.1.chain a.1.ends b.1.chain
    b.1.ends) ∙ sym b.2 in
    ap (λ (root : ℕ). far_says root one.depth one.dist) roots
    ∙ ap (λ (depth : ℕ). far_says other.root depth one.dist) depths
    ∙ ap (far_says other.root other.depth) dists

-- what is right is short
pub spt_fits : (code : ℕ → List Bool) → Grows code → IsShort code
    → RightFits spt_shape code IsShortestPathTree spt_says
    (longest_by spt_shape spt_limits code)
spt_fits code grows short rows net joined shortest words say right row in' =
    let root : (row : NodeRow) × Contains rows row × (row.state.up ≡ None) =
    a_root rows shortest.tree.one_root in
    let here = right row in' root.0 root.1 root.2 in
    let chain : IsChainOf rows row.id root.0.id (say row.id).depth = here.1 in
    let below : (say row.id).depth < length rows =
    IsChainOf-short rows net row.id root.0.id (say row.id).depth chain in
    let within : root.0.id ≤ greatest (ids_of rows) = id_within rows root.0 root.1 in
    let most : ℕ = greatest (weights_of rows) in
    let weighs : walk_weight rows row.id chain.nodes ≤ length chain.nodes * most =
    chain_within rows most (edge_within rows net) row.id root.0.id chain.nodes chain.chain in
    let many : length chain.nodes * most ≤ length rows * most =
    mul-le-mul_right most (omega (arith, below, chain.many)) in
    let words_most : most ≤ 4294967295 = omega (arith, words.max_weight) in
    let some : length rows * most ≤ 32768 * most =
    mul-le-mul_right most (omega (arith, net.limits.few_nodes)) in
    let all : length rows * most ≤ 32768 * 4294967295 = omega (arith, some, words_most) in
    within_fits code grows short spt_shape (say row.id) (spt_limits (size_of rows)) refl
    tt (omega arith) (
      omega (arith, here.0, within),
      omega (arith, words.max_id),
      (
        omega (arith, below),
        omega (arith, net.limits.few_nodes),
        (omega (arith, here.2, weighs, many), omega (arith, all), tt),
      ),
    )
