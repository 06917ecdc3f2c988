-- Shortest-path trees, by numbers that fall along pointers and rise along edges by the weights.
use Rattle.std.proofs.Common.{◌≡◌, ◌∙◌, ℕ, suc, ◌+◌, ◌*◌, ◌≤◌, inl, inr, List, [], ◌∷◌, map, flat_map, length, Contains, Some, None, refl, sym, ap, subst, arith, suc-mul}
use Rattle.std.proofs.lemmas.Option.{same_Some}
use Rattle.pls_configuration.specs.declared.row.Port.{Port}
use Rattle.pls_configuration.specs.declared.row.NodeRow.{NodeRow}
use Rattle.pls_configuration.specs.Configuration.{IsNetwork}
use Rattle.pls_configuration.specs.Walk.{Walk, edges_of}
use Rattle.pls_graph.specs.Size.{greatest, weights_of}
use Rattle.pls_graph.proofs.Members.{Contains-cons_cases, Contains-flat_map, Contains-from_place}
use Rattle.pls_facts.specs.Pointer.{pointed_node, Chain, IsChainOf}
use Rattle.pls_facts.specs.ShortestPath.{IsShortestPathTree}
use Rattle.pls_facts.specs.SpanningTree.{IsTree}
use Rattle.pls_facts.specs.Weight.{IsDistance, edge_weight, walk_weight}
use Rattle.pls_facts.proofs.Pointed.{IsPointer, IsPointer-pointed_node, points_from, points_to, row_from_id}
use Rattle.pls_facts.proofs.Weights.{FallsByWeight, RisesByWeight, Walk-turned, chain_walk, chain_weighs, port_weighs, walk_weighs}

-- from one node to another there is one distance
pub one_distance : (rows : List NodeRow) (u v one other : ℕ) → IsDistance rows u v one
    → IsDistance rows u v other → one ≡ other
one_distance rows u v one other first second =
    let up = first.least second.nodes second.walk in
    let down = second.least first.nodes first.walk in
    omega (arith, up, down, first.weighs, second.weighs)

-- a node has one chain that ends
pub one_chain : (rows : List NodeRow) (u last other : ℕ) (nodes others : List ℕ)
    → Chain rows u nodes last → pointed_node rows last ≡ None → Chain rows u others other
    → pointed_node rows other ≡ None → nodes ≡ others
one_chain rows u last other [] [] chain ends path stops = refl
one_chain rows u last other [] (y ∷ others) chain ends path stops =
    let no : None ≡ Some y = sym ends ∙ ap (pointed_node rows) (sym chain) ∙ path.0 in absurd (cc)
one_chain rows u last other (x ∷ nodes) [] chain ends path stops =
    let no : None ≡ Some x = sym stops ∙ ap (pointed_node rows) (sym path) ∙ chain.0 in absurd (cc)
one_chain rows u last other (x ∷ nodes) (y ∷ others) chain ends path stops =
    let same : x ≡ y = same_Some x y (sym chain.0 ∙ path.0) in
    let rest : nodes ≡ others =
    one_chain rows y last other nodes others
    (subst (λ (x : ℕ). Chain rows x nodes last) same chain.1) ends path.1 stops in
    ap (λ (first : ℕ). first ∷ nodes) same ∙ ap (λ (later : List ℕ). y ∷ later) rest

-- the numbers make a tree of pointers a shortest-path tree
pub shortest_by_numbers : (rows : List NodeRow) → IsTree rows → (value : ℕ → ℕ)
    → FallsByWeight rows value → RisesByWeight rows value → IsShortestPathTree rows
shortest_by_numbers rows tree value falls rises = record {
  tree = tree;
  lightest = λ u root count chain others walk.
      let down = chain_weighs rows value falls u root chain.nodes chain.chain in
      let up = walk_weighs rows value rises root u others walk in
      omega arith;
}

module _ (rows : List NodeRow) (net : IsNetwork rows) (shortest : IsShortestPathTree rows) where
  -- in a shortest-path tree the chain of a node weighs its distance from the root
  pub chain_distance : (u root count : ℕ) (chain : IsChainOf rows u root count)
      → IsDistance rows root u (walk_weight rows u chain.nodes)
  chain_distance u root count chain =
      let (back, turned, weighs) : (back : List ℕ) × Walk (edges_of rows) root back u
      × (walk_weight rows root back ≡ walk_weight rows u chain.nodes) =
      Walk-turned rows net u root chain.nodes
      (chain_walk rows net u root chain.nodes chain.chain) in
      record {
        nodes = back;
        walk = turned;
        weighs = weighs;
        least = shortest.lightest u root count chain;
      }

  -- so distances fall along pointers by the weights
  pub distances_fall : (root : ℕ) (value : ℕ → ℕ)
      → ((row : NodeRow) → Contains rows row → IsDistance rows root row.id (value row.id))
      → ((row : NodeRow) → Contains rows row → (count : ℕ) × IsChainOf rows row.id root count)
      → FallsByWeight rows value
  distances_fall root value are chain_of u v points =
      let (from, from_in, is_u) : (row : NodeRow) × Contains rows row × (row.id ≡ u) =
      row_from_id rows u (points_from rows net u v points) in
      let (to, to_in, is_v) : (row : NodeRow) × Contains rows row × (row.id ≡ v) =
      row_from_id rows v (points_to rows net u v points) in
      let far : IsDistance rows root u (value u) =
      subst (λ (u : ℕ). IsDistance rows root u (value u)) is_u (are from from_in) in
      let near : IsDistance rows root v (value v) =
      subst (λ (v : ℕ). IsDistance rows root v (value v)) is_v (are to to_in) in
      let (count, rest) : (count : ℕ) × IsChainOf rows v root count =
      subst (λ (v : ℕ). (count : ℕ) × IsChainOf rows v root count) is_v (chain_of to to_in) in
      let whole : IsChainOf rows u root (suc count) = record {
        nodes = v ∷ rest.nodes;
        chain = (points, rest.chain);
        ends = rest.ends;
        many = ap suc rest.many;
      } in
      let above : value v ≡ walk_weight rows v rest.nodes =
      one_distance rows root v (value v) (walk_weight rows v rest.nodes) near
      (chain_distance v root count rest) in
      let here : value u ≡ edge_weight rows u v + walk_weight rows v rest.nodes =
      one_distance rows root u (value u) (edge_weight rows u v + walk_weight rows v rest.nodes) far
      (chain_distance u root (suc count) whole) in
      omega (arith, here, above)

-- a chain weighs at most so much for each of its pointers as any edge weighs
pub chain_within : (rows : List NodeRow) (most : ℕ)
    → ((u v : ℕ) → pointed_node rows u ≡ Some v → edge_weight rows u v ≤ most) → (u v : ℕ)
    → (nodes : List ℕ) → Chain rows u nodes v → walk_weight rows u nodes ≤ length nodes * most
chain_within rows most each u v [] same = omega arith
chain_within rows most each u v (x ∷ nodes) chain =
    let first = each u x chain.0 in
    let rest = chain_within rows most each x v nodes chain.1 in
    let more : length (x ∷ nodes) * most ≡ length nodes * most + most =
    suc-mul (length nodes) most in
    omega (arith, first, rest, more)

-- no edge weighs more than the greatest weight
pub edge_within : (rows : List NodeRow) → IsNetwork rows → (u v : ℕ) → pointed_node rows u ≡ Some v
    → edge_weight rows u v ≤ greatest (weights_of rows)
edge_within rows net u v points =
    let step : IsPointer rows u v = IsPointer-pointed_node rows net u v points in
    let in' : Contains rows step.row = Contains-from_place rows step.place step.row step.at in
    let has : Contains step.row.ports step.port =
    Contains-from_place step.row.ports step.number step.port step.has in
    let weighs : edge_weight rows step.row.id step.port.nbr ≡ step.port.weight =
    port_weighs rows net step.row step.port in' has in
    let among : Contains (flat_map (λ (row : NodeRow). row.ports) rows) step.port =
    Contains-flat_map (λ (row : NodeRow). row.ports) rows step.row step.port in' has in
    let within : step.port.weight ≤ greatest (weights_of rows) =
    within_list (λ (port : Port). port.weight) (flat_map (λ (row : NodeRow). row.ports) rows)
    step.port among in
    let same : edge_weight rows u v ≡ edge_weight rows step.row.id step.port.nbr =
    ap (λ (u : ℕ). edge_weight rows u v) step.owner
    ∙ ap (λ (v : ℕ). edge_weight rows step.row.id v) (sym step.named) in
    omega (arith, same, weighs, within)
  where
    within_list : (number : Port → ℕ) (ports : List Port) (port : Port) → Contains ports port
        → number port ≤ greatest (map number ports)
    within_list number [] port has = absurd (omega (arith, has.1))
    within_list number (first ∷ ports) port has =
        elim (Contains-cons_cases first ports port has) [
          | inl same ↦ omega (arith, ap number same)
          | inr later ↦ omega (arith, within_list number ports port later)
        ]
