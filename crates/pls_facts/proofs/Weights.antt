-- The weights of walks: they add up, a turned walk weighs the same, and numbers that change from
-- node to node by the weights of edges bound them.
use Rattle.std.proofs.Common.{◌≡◌, ◌∙◌, ℕ, ◌+◌, ◌≤◌, List, [], ◌∷◌, ◌++◌, Contains, Some, slice_get, refl, sym, ap, subst, arith}
use Rattle.pls_configuration.specs.declared.row.Port.{Port}
use Rattle.pls_configuration.specs.declared.row.NodeRow.{NodeRow}
use Rattle.pls_configuration.specs.Configuration.{IsNetwork}
use Rattle.pls_configuration.specs.Walk.{Adjacent, Walk, edges_of}
use Rattle.pls_graph.proofs.Adjacent.{Adjacent-port}
use Rattle.pls_configuration.proofs.Walks.{WalkBy-append}
use Rattle.pls_graph.proofs.Joined.{Adjacent-turned}
use Rattle.pls_graph.proofs.Members.{place_from_Contains}
use Rattle.pls_graph.proofs.Placed.{WayBack, port_of_place, row_of_place, way_back}
use Rattle.pls_facts.specs.Pointer.{pointed_node, Chain}
use Rattle.pls_facts.specs.Weight.{IsDistance, edge_weight, walk_weight}
use Rattle.pls_facts.proofs.Neighbours.{Leads, leads}
use Rattle.pls_facts.proofs.Pointed.{IsPointer, IsPointer-pointed_node}

module _ (rows : List NodeRow) where
  -- a walk that goes on weighs what both parts weigh
  pub walk_weight-append : (u v : ℕ) (there onward : List ℕ) → Walk (edges_of rows) u there v
      → walk_weight rows u (there ++ onward) ≡ walk_weight rows u there + walk_weight rows v onward
  walk_weight-append u v [] onward same =
      let here : walk_weight rows u onward ≡ walk_weight rows v onward =
      ap (λ (u : ℕ). walk_weight rows u onward) same in omega arith
  walk_weight-append u v (pointed_node ∷ there) onward walk =
      let rest = walk_weight-append pointed_node v there onward walk.1 in omega arith

  -- a walk and one edge more
  pub walk_weight-step : (u v w : ℕ) (nodes : List ℕ) → Walk (edges_of rows) u nodes v
      → walk_weight rows u (nodes ++ w ∷ []) ≡ walk_weight rows u nodes + edge_weight rows v w
  walk_weight-step u v w nodes walk =
      let both = walk_weight-append u v nodes (w ∷ []) walk in omega arith

  module _ (value : ℕ → ℕ) where
    -- along a pointer the number falls by the weight of the edge
    abbrev pub FallsByWeight : Type 0
    FallsByWeight = (u v : ℕ) → pointed_node rows u ≡ Some v → value u ≡ value v + edge_weight rows u v

    -- along an edge the number rises by at most the weight of the edge
    abbrev pub RisesByWeight : Type 0
    RisesByWeight = (u v : ℕ) → Adjacent (edges_of rows) u v
        → value v ≤ value u + edge_weight rows u v

    -- so along a chain it falls by the weight of the chain
    pub chain_weighs : FallsByWeight → (u v : ℕ) (nodes : List ℕ) → Chain rows u nodes v
        → value u ≡ value v + walk_weight rows u nodes
    chain_weighs falls u v [] same = let here = ap value same in omega arith
    chain_weighs falls u v (x ∷ nodes) chain =
        let first = falls u x chain.0 in
        let rest = chain_weighs falls x v nodes chain.1 in omega arith

    -- and along a walk it rises by at most the weight of the walk
    pub walk_weighs : RisesByWeight → (u v : ℕ) (nodes : List ℕ) → Walk (edges_of rows) u nodes v
        → value v ≤ value u + walk_weight rows u nodes
    walk_weighs rises u v [] same = let here = ap value same in omega arith
    walk_weighs rises u v (x ∷ nodes) walk =
        let first = rises u x walk.0 in
        let rest = walk_weighs rises x v nodes walk.1 in omega arith

  module _ (net : IsNetwork rows) where
    -- the edge at a port weighs what the port lists
    pub port_weighs : (row : NodeRow) (port : Port) → Contains rows row → Contains row.ports port
        → edge_weight rows row.id port.nbr ≡ port.weight
    port_weighs row port in' has =
        let place : (i : ℕ) × (slice_get rows i ≡ Some row) = place_from_Contains rows row in' in
        let at : (p : ℕ) × (slice_get row.ports p ≡ Some port) =
        place_from_Contains row.ports port has in
        rw (
          row_of_place rows net place.0 row place.1,
          port_of_place rows net place.0 row place.1 at.0 port at.1,
        ) refl

    -- an edge weighs the same both ways
    pub edge_weight-turned : (u v : ℕ) → Adjacent (edges_of rows) u v
        → edge_weight rows v u ≡ edge_weight rows u v
    edge_weight-turned u v adjacent =
        let way : Leads rows u v = leads rows net u v adjacent in
        let place : (i : ℕ) × (slice_get rows i ≡ Some way.row) =
        place_from_Contains rows way.row way.in' in
        let at : (p : ℕ) × (slice_get way.row.ports p ≡ Some way.port) =
        place_from_Contains way.row.ports way.port way.has in
        let back : WayBack rows way.row way.port =
        way_back rows net place.0 way.row place.1 at.0 way.port at.1 in
        let turned : edge_weight rows way.port.nbr way.row.id ≡ back.back.weight =
        rw (back.named, back.returns) refl in
        let same : edge_weight rows way.port.nbr way.row.id
        ≡ edge_weight rows way.row.id way.port.nbr =
        turned ∙ sym back.weight ∙ sym (port_weighs way.row way.port way.in' way.has) in
        subst (λ (v : ℕ). edge_weight rows v u ≡ edge_weight rows u v) way.names
        (subst (λ (u : ℕ). edge_weight rows way.port.nbr u ≡ edge_weight rows u way.port.nbr)
        way.owner same)

    -- so does a walk
    pub Walk-turned : (u v : ℕ) (nodes : List ℕ) → Walk (edges_of rows) u nodes v
        → (back : List ℕ) × Walk (edges_of rows) v back u
        × (walk_weight rows v back ≡ walk_weight rows u nodes)
    Walk-turned u v [] same = ([], sym same, refl)
    Walk-turned u v (x ∷ nodes) walk =
        let (back, turned, weighs) : (back : List ℕ) × Walk (edges_of rows) v back x
        × (walk_weight rows v back ≡ walk_weight rows x nodes) =
        Walk-turned x v nodes walk.1 in (
          back ++ u ∷ [],
          WalkBy-append (Adjacent (edges_of rows)) v x u back (u ∷ []) turned
              (Adjacent-turned (edges_of rows) u x walk.0, refl),
          omega
              (arith, walk_weight-step v x u back turned, weighs, edge_weight-turned u x walk.0),
        )

    -- a node is adjacent to the one that it points at
    pub next_adjacent : (u v : ℕ) → pointed_node rows u ≡ Some v → Adjacent (edges_of rows) u v
    next_adjacent u v points =
        let step : IsPointer rows u v = IsPointer-pointed_node rows net u v points in
        subst (Adjacent (edges_of rows) u) step.named
        (subst (λ (u : ℕ). Adjacent (edges_of rows) u step.port.nbr) (sym step.owner)
        (Adjacent-port rows net step.place step.number step.row step.port step.at step.has))

    -- so a chain is a walk
    pub chain_walk : (u v : ℕ) (nodes : List ℕ) → Chain rows u nodes v
        → Walk (edges_of rows) u nodes v
    chain_walk u v [] same = same
    chain_walk u v (x ∷ nodes) chain =
        (next_adjacent u x chain.0, chain_walk x v nodes chain.1)

    -- distances from one node rise by at most the weight of an edge
    pub distances_rise : (root : ℕ) (value : ℕ → ℕ)
        → ((u v : ℕ) → Adjacent (edges_of rows) u v → IsDistance rows root u (value u))
        → RisesByWeight value
    distances_rise root value are u v adjacent =
        let here : IsDistance rows root u (value u) = are u v adjacent in
        let there : IsDistance rows root v (value v) =
        are v u (Adjacent-turned (edges_of rows) u v adjacent) in
        let walk : Walk (edges_of rows) root (here.nodes ++ v ∷ []) v =
        WalkBy-append (Adjacent (edges_of rows)) root u v here.nodes (v ∷ []) here.walk (adjacent, refl) in
        let least = there.least (here.nodes ++ v ∷ []) walk in
        omega (arith, least, walk_weight-step root u v here.nodes here.walk, here.weighs)
