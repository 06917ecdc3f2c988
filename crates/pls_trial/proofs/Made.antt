-- A network from a number is connected, and its pointers make a minimum spanning tree.
use Rattle.std.proofs.Common.{◌≡◌, ℕ, ◌+◌, ◌-◌, ◌*◌, ◌<◌, ◌≤◌, ◌∙◌, true, List, map, fold, refl, sym, ap, subst, arith, Contains}
use Rattle.std.specs.List.{range_with_len}
use Rattle.std.proofs.Math.Nat.{mod-lt}
use Rattle.std.proofs.lemmas.List.FromFn.{length-map-range_with_len}
use Rattle.std.proofs.lemmas.List.Sums.{fold-append}
use Rattle.pls_configuration.specs.declared.limits.TheConstants.{MAX_PORTS}
use Rattle.pls_configuration.specs.declared.row.NodeRow.{NodeRow}
use Rattle.pls_configuration.specs.Configuration.{IsNetwork, ids_of, ports_in}
use Rattle.pls_configuration.specs.Walk.{IsConnected}
use Rattle.pls_graph.proofs.Members.{Contains-from_map}
use Rattle.pls_facts.specs.MinimumSpanningTree.{IsMinimumSpanningTree}
use Rattle.pls_trial.specs.Generator.{Link, draw, links_of, nodes_alone, other_link, other_links, pointing, tree_link, tree_links, trial_of, with_link}
use Rattle.pls_trial.specs.inner.Building.{AreReady, has_port}
use Rattle.pls_trial.proofs.Alone.{ids_of-nodes_alone, ports_in-nodes_alone}
use Rattle.pls_trial.proofs.Linking.{ids_of-fold}
use Rattle.pls_trial.proofs.Putting.{still_ready}
use Rattle.pls_trial.proofs.Spanning.{AreTrialLinks, has_ports, is_connected, is_minimum}

-- a node of the tree is linked to one before it
earlier : (i number : ℕ) → (tree_link i number).b < i + 2
earlier i number = omega (arith, mod-lt (draw number 1) {m = i + 1} (omega arith))

light : (i number : ℕ) → (tree_link i number).weight ≤ 999
light i number = omega (arith, mod-lt (draw number 2) {m = 1000} (omega arith))

-- the others weigh 999 or more
heavy : (nodes count number : ℕ) (link : Link) → Contains (other_links nodes count number) link
    → 999 ≤ link.weight
heavy nodes count number link in' =
    let (k, k_in, is) : (k : ℕ) × Contains (range_with_len 0 count) k
    × (other_link nodes (draw number (3 * k)) ≡ link) =
    Contains-from_map (λ k. other_link nodes (draw number (3 * k))) (range_with_len 0 count) link in' in
    let same = ap (λ (link : Link). link.weight) is in
    omega arith

-- the links from a seed
abbrev tree_of : ℕ → ℕ → Link
tree_of seed i = tree_link i (draw seed (2 * i))

abbrev others_of : ℕ → ℕ → List Link
others_of nodes seed = other_links nodes nodes (draw seed (2 * (nodes - 1)))

links_given : (nodes seed : ℕ) → AreTrialLinks (tree_of seed) (others_of nodes seed)
links_given nodes seed = record {
  named = λ i. refl;
  earlier = λ i. earlier i (draw seed (2 * i));
  light = λ i. light i (draw seed (2 * i));
  heavy = heavy nodes nodes (draw seed (2 * (nodes - 1)));
}

module _ (nodes seed : ℕ) (some : 1 ≤ nodes) (net : IsNetwork (trial_of nodes seed)) where
  pub trial_connected : IsConnected (trial_of nodes seed)
  trial_connected = is_connected (tree_of seed) (others_of nodes seed) (links_given nodes seed) nodes some net

  pub trial_minimum : IsMinimumSpanningTree (trial_of nodes seed)
  trial_minimum = is_minimum (tree_of seed) (others_of nodes seed) (links_given nodes seed) nodes some net

-- nodes without ports, and room for some
pub ready_alone : (nodes ports : ℕ) (rows : List NodeRow) → rows ≡ nodes_alone nodes
    → ports ≤ MAX_PORTS → AreReady rows nodes ports
ready_alone nodes ports rows alone few = record {
  ids = ap ids_of alone ∙ ids_of-nodes_alone nodes;
  room = omega (arith, ap ports_in alone, ports_in-nodes_alone nodes);
}

module _ (nodes seed start behind : ℕ) (first second third : List NodeRow)
    (some : 1 ≤ nodes) (alone : first ≡ nodes_alone nodes) (starts : start ≡ seed)
    (tree : second ≡ fold with_link first (tree_links (nodes - 1) start))
    (drawn : behind ≡ draw start (2 * (nodes - 1)))
    (others : third ≡ fold with_link second (other_links nodes nodes behind)) where
  -- all links were put
  pub all_put : third ≡ fold with_link (nodes_alone nodes) (links_of nodes seed)
  all_put = rw (others, tree, drawn, starts, alone)
      (sym (fold-append with_link (nodes_alone nodes) (tree_links (nodes - 1) seed)
      (other_links nodes nodes (draw seed (2 * (nodes - 1))))))

  -- there is room for the links behind those of the tree
  pub ready_others : nodes ≤ 32768 → AreReady second nodes (2 * nodes)
  ready_others most = still_ready first second nodes (2 * (nodes - 1) + 2 * nodes)
      (ready_alone nodes (2 * (nodes - 1) + 2 * nodes) first alone (omega arith))
      (tree_links (nodes - 1) start) tree (2 * nodes)
      (omega (arith, length-map-range_with_len (λ i. tree_link i (draw start (2 * i))) 0 (nodes - 1)))

  pub ids_last : ids_of third ≡ range_with_len 1 nodes
  ids_last = ap ids_of all_put ∙ ids_of-fold (links_of nodes seed) (nodes_alone nodes)
      ∙ ids_of-nodes_alone nodes

  -- each node behind the first has a port
  pub ports_last : (id : ℕ) → 2 ≤ id → id ≤ nodes → has_port third id ≡ true
  ports_last id least most = ap (λ (rows : List NodeRow). has_port rows id) all_put
      ∙ has_ports (tree_of seed) (others_of nodes seed) (links_given nodes seed) nodes some id least most

  -- the rows with their pointers are the network of the definition
  module _ (last : List NodeRow) (pointed : last ≡ map pointing third) (net : IsNetwork last) where
    made : last ≡ trial_of nodes seed
    made = pointed ∙ ap (map pointing) all_put

    pub last_connected : IsConnected last
    last_connected = subst IsConnected (sym made)
        (trial_connected nodes seed some (subst IsNetwork made net))

    pub last_minimum : IsMinimumSpanningTree last
    last_minimum = subst IsMinimumSpanningTree (sym made)
        (trial_minimum nodes seed some (subst IsNetwork made net))
