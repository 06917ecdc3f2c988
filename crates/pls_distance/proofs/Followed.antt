-- Distances that follow the pointers, as functions of the identity, and the labels made of them.
use Rattle.std.proofs.Common.{◌≡◌, ◌∙◌, ◌↔◌, ℕ, ◌+◌, ◌<◌, ◌==◌, position, List, [], ◌∷◌, ◌++◌, inl, inr, length, get_or, Contains, Option, Some, None, slice_get, option_map, unwrap_or, refl, sym, ap, subst, arith, length-append}
use Rattle.std.proofs.Math.Seq.{get_or-append_seam}
use Rattle.std.proofs.lemmas.Bool.{cases_eq}
use Rattle.std.proofs.lemmas.List.{get_or_append_left}
use Rattle.std.proofs.lemmas.Option.{get_or_from_slice_get, same_Some, slice_get-get_or, slice_get_within}
use Rattle.pls_configuration.specs.declared.row.Port.{Port}
use Rattle.pls_configuration.specs.declared.row.State.{State}
use Rattle.pls_configuration.specs.declared.row.NodeRow.{NodeRow}
use Rattle.pls_configuration.specs.Configuration.{IsNetwork}
use Rattle.pls_configuration.specs.Walk.{IsConnected, edges_of}
use Rattle.pls_graph.specs.Places.{place_in}
use Rattle.pls_graph.proofs.Finds.{from_option_map, item_at}
use Rattle.pls_graph.proofs.Joined.{Adjacent-turned}
use Rattle.pls_graph.proofs.Members.{Contains-from_place, place_from_Contains}
use Rattle.pls_graph.proofs.Placed.{place_of_row}
use Rattle.pls_scheme.specs.Marked.{AreRight}
use Rattle.pls_search.specs.Depths.{AreDepths}
use Rattle.pls_search.specs.Distances.{AreDistances, IsDistanceFound}
use Rattle.pls_search.proofs.Pointed.{stands}
use Rattle.pls_facts.specs.OnlyNode.{IsOnly, points_at_none}
use Rattle.pls_facts.specs.Pointer.{Chain, IsChainOf, pointed_node}
use Rattle.pls_facts.specs.ShortestPath.{IsShortestPathTree}
use Rattle.pls_facts.specs.SpanningTree.{IsTree}
use Rattle.pls_facts.specs.Weight.{IsDistance, edge_weight, walk_weight}
use Rattle.pls_facts.proofs.ChainDepths.{chain_end}
use Rattle.pls_facts.proofs.NamedPlaces.{place_named}
use Rattle.pls_facts.proofs.Neighbours.{adjacent_known}
use Rattle.pls_facts.proofs.Pointed.{IsPointer, IsPointer-pointed_node, id_of_row, points_at, row_from_id}
use Rattle.pls_facts.proofs.Roots.{a_root, is_root-None}
use Rattle.pls_facts.proofs.ShortestPaths.{distances_fall, shortest_by_numbers}
use Rattle.pls_facts.proofs.Weights.{FallsByWeight, RisesByWeight, chain_weighs, distances_rise, port_weighs}
use Rattle.pls_distance.specs.declared.spt.SptLabel.{SptLabel}
use Rattle.pls_distance.specs.Spt.{spt_says}
use Rattle.pls_distance.specs.inner.Saying.{far_says}
use Rattle.pls_distance.specs.inner.Following.{AreFollowed, AreLabelsSoFar, IsFollowed, far}

-- of the port that is pointed at, it is enough
pub followed_at : (rows : List NodeRow) (net : IsNetwork rows) (place : ℕ) (state : State)
    → option_map (λ (row : NodeRow). row.state) (slice_get rows place) ≡ Some state
    → (ports : List Port) (up : ℕ)
    → option_map (λ (row : NodeRow). row.ports) (slice_get rows place) ≡ Some ports
    → state.up ≡ Some up → (port : Port) → slice_get ports up ≡ Some port
    → (found : List (Option ℕ))
    → (far found place ≡ far found (place_in rows port.nbr) + port.weight)
    ↔ IsFollowed rows found place
followed_at rows net place state at ports up has points port at_port found = (there, back)
  where
    there : far found place ≡ far found (place_in rows port.nbr) + port.weight
        → IsFollowed rows found place
    there is row number other here row_up other_at =
        let ports_same : row.ports ≡ ports =
        same_Some row.ports ports
        (sym (ap (option_map (λ (row : NodeRow). row.ports)) here) ∙ has) in
        let number_same : number ≡ up =
        same_Some number up
        (sym row_up ∙ ap (λ (state : State). state.up) (stands rows net place state at row here)
        ∙ points) in
        let same : port ≡ other =
        same_Some port other (sym at_port ∙ ap (slice_get ports) (sym number_same)
        ∙ ap (λ (ports : List Port). slice_get ports number) (sym ports_same) ∙ other_at) in
        subst (λ (port : Port). far found place
        ≡ far found (place_in rows port.nbr) + port.weight) same is

    back : IsFollowed rows found place
        → far found place ≡ far found (place_in rows port.nbr) + port.weight
    back is =
        let (row, here, same) : (row : NodeRow) × (slice_get rows place ≡ Some row)
        × (row.ports ≡ ports) = from_option_map (λ (row : NodeRow). row.ports) _ ports has in
        is row up port here
        (ap (λ (state : State). state.up) (stands rows net place state at row here) ∙ points)
        (ap (λ (ports : List Port). slice_get ports up) same ∙ at_port)

-- a node without pointer has nothing to follow
pub followed_none : (rows : List NodeRow) (net : IsNetwork rows) (place : ℕ) (state : State)
    → option_map (λ (row : NodeRow). row.state) (slice_get rows place) ≡ Some state
    → state.up ≡ None → (found : List (Option ℕ)) → IsFollowed rows found place
followed_none rows net place state at none found row number port here row_up has =
    let no : None ≡ Some number =
    sym none ∙ sym (ap (λ (state : State). state.up) (stands rows net place state at row here))
    ∙ row_up in absurd (cc)

-- so many labels, and one more
pub AreLabelsSoFar-more : (root : ℕ) (depths : List ℕ) (found : List (Option ℕ)) (labels : List SptLabel)
    (count : ℕ) (label : SptLabel) → AreLabelsSoFar root depths found labels count
    → label ≡ far_says root (get_or depths count 0) (far found count)
    → AreLabelsSoFar root depths found (labels ++ label ∷ []) (count + 1)
AreLabelsSoFar-more root depths found labels count label old is = record {
  each = let each = old.each in omega (arith, length-append labels (label ∷ []));
  label = λ place other at. elim (cases_eq place (length labels)) [
    | inl last ↦
        let here : label ≡ other =
        sym (get_or-append_seam labels label [] label)
        ∙ ap (λ (place : ℕ). get_or (labels ++ label ∷ []) place label) (sym last)
        ∙ get_or_from_slice_get (labels ++ label ∷ []) place other label at in
        sym here ∙ is ∙ ap (λ (count : ℕ). far_says root (get_or depths count 0) (far found count))
        (sym old.each ∙ sym last)
    | inr apart ↦
        let within = slice_get_within (labels ++ label ∷ []) place other at in
        let before : place < length labels =
        omega (arith, within, apart, length-append labels (label ∷ [])) in
        let same : get_or labels place label ≡ other =
        sym (get_or_append_left labels (label ∷ []) label place before)
        ∙ get_or_from_slice_get (labels ++ label ∷ []) place other label at in
        old.label place other (slice_get-get_or labels place label before ∙ ap Some same)
  ];
}

module _ (rows : List NodeRow) (net : IsNetwork rows) (joined : IsConnected rows) (place : ℕ)
    (found : List (Option ℕ)) (are : AreDistances rows place found) (root : NodeRow)
    (at_root : slice_get rows place ≡ Some root) where
  -- how far a node was found to be
  abbrev pub far_of : ℕ → ℕ
  far_of id = far found (place_in rows id)

  far_at : (i : ℕ) (row : NodeRow) → slice_get rows i ≡ Some row → far_of row.id ≡ far found i
  far_at i row at = ap (far found) (place_named rows net i row at)

  -- it is its distance from the root
  pub is_distance : (row : NodeRow) → Contains rows row
      → IsDistance rows root.id row.id (far_of row.id)
  is_distance row in' =
      let (i, at) : (i : ℕ) × (slice_get rows i ≡ Some row) = place_from_Contains rows row in' in
      let (entry, has) : (entry : Option ℕ) × (slice_get found i ≡ Some entry) =
      item_at found i (omega (arith, slice_get_within rows i row at, are.each)) in
      subst (IsDistance rows root.id row.id) (sym (far_at i row at))
      (by i entry has (are.distance root row i entry at_root at has))
    where
      by : (i : ℕ) (entry : Option ℕ) → slice_get found i ≡ Some entry
          → IsDistanceFound rows root.id row.id entry → IsDistance rows root.id row.id (far found i)
      by i None has none = absurd (none (joined root.id row.id
          (id_of_row rows root (Contains-from_place rows place root at_root))
          (id_of_row rows row in')))
      by i (Some weight) has is =
          let same : weight ≡ far found i =
          sym (ap (λ (entry : Option ℕ). unwrap_or entry 0)
          (get_or_from_slice_get found i (Some weight) None has)) in
          subst (IsDistance rows root.id row.id) same is

  -- so it rises along edges by at most the weights
  pub far_rises : RisesByWeight rows far_of
  far_rises = distances_rise rows net root.id far_of (λ u v adjacent.
      let (row, in', is) : (row : NodeRow) × Contains rows row × (row.id ≡ u) =
      row_from_id rows u
      (adjacent_known rows net v u (Adjacent-turned (edges_of rows) u v adjacent)) in
      subst (λ (u : ℕ). IsDistance rows root.id u (far_of u)) is (is_distance row in'))

  -- where distances follow the pointers, they fall along them
  pub followed_falls : AreFollowed rows found → FallsByWeight rows far_of
  followed_falls followed u v points =
      let step : IsPointer rows u v = IsPointer-pointed_node rows net u v points in
      let weighs : edge_weight rows step.row.id step.port.nbr ≡ step.port.weight =
      port_weighs rows net step.row step.port
      (Contains-from_place rows step.place step.row step.at)
      (Contains-from_place step.row.ports step.number step.port step.has) in
      let here : far_of step.row.id ≡ far_of step.port.nbr + step.port.weight =
      far_at step.place step.row step.at
      ∙ followed step.place step.row step.number step.port step.at step.up step.has in
      let whole : far_of step.row.id
      ≡ far_of step.port.nbr + edge_weight rows step.row.id step.port.nbr =
      omega (arith, here, weighs) in
      subst (λ (u : ℕ). far_of u ≡ far_of v + edge_weight rows u v) (sym step.owner)
      (subst (λ (v : ℕ). far_of step.row.id ≡ far_of v + edge_weight rows step.row.id v)
      step.named whole)

  -- and the other way round
  pub falls_followed : FallsByWeight rows far_of → AreFollowed rows found
  falls_followed falls i row number port at up has =
      let in' : Contains rows row = Contains-from_place rows i row at in
      let down = falls row.id port.nbr (points_at rows net row in' number port up has) in
      let weighs : edge_weight rows row.id port.nbr ≡ port.weight =
      port_weighs rows net row port in' (Contains-from_place row.ports number port has) in
      omega (arith, down, weighs, far_at i row at)

  -- labels of them are right
  pub labels_right : AreFollowed rows found → ((row : NodeRow) → Contains rows row
      → row.state.up ≡ None → row.id ≡ root.id) → (depths : List ℕ) → AreDepths rows depths
      → ((row : NodeRow) → Contains rows row → (last depth : ℕ) → IsChainOf rows row.id last depth
      → last ≡ root.id)
      → (labels : List SptLabel) → AreLabelsSoFar root.id depths found labels (length depths)
      → AreRight (spt_says rows) rows labels
  labels_right followed only depths deep ends labels made = record {
    each = made.each ∙ deep.each;
    label = right;
  }
    where
      right : (i : ℕ) (row : NodeRow) (label : SptLabel) → slice_get rows i ≡ Some row
          → slice_get labels i ≡ Some label → spt_says rows row label
      right i row label at has other other_in none =
          let in' : Contains rows row = Contains-from_place rows i row at in
          let is : label ≡ far_says root.id (get_or depths i 0) (far found i) =
          made.label i label has in
          let within : i < length depths =
          omega (arith, slice_get_within labels i label has, made.each) in
          let (last, chain) : (last : ℕ) × IsChainOf rows row.id last (get_or depths i 0) =
          deep.depth row i (get_or depths i 0) at (slice_get-get_or depths i 0 within) in
          let end : last ≡ other.id =
          ends row in' last (get_or depths i 0) chain ∙ sym (only other other_in none) in
          let down = chain_weighs rows far_of (followed_falls followed) row.id last chain.nodes
          chain.chain in
          let here = is_distance root (Contains-from_place rows place root at_root) in
          let stays = here.least [] refl in
          let last_far : far_of last ≡ far_of root.id =
          ap far_of (ends row in' last (get_or depths i 0) chain) in
          let weighs : far found i ≡ walk_weight rows row.id chain.nodes =
          omega (arith, down, stays, last_far, far_at i row at) in
          subst (λ (label : SptLabel). (label.root ≡ other.id)
          × (chain : IsChainOf rows row.id other.id label.depth)
          × (label.dist ≡ walk_weight rows row.id chain.nodes)) (sym is)
          (whole (get_or depths i 0) (far found i) other (sym (only other other_in none)) last end
          chain weighs)
        where
          whole : (depth dist : ℕ) (other : NodeRow) → root.id ≡ other.id → (last : ℕ)
              → last ≡ other.id → (chain : IsChainOf rows row.id last depth)
              → dist ≡ walk_weight rows row.id chain.nodes
              → (root.id ≡ other.id) × (chain : IsChainOf rows row.id other.id depth)
              × (dist ≡ walk_weight rows row.id chain.nodes)
          whole depth dist other named last end chain weighs = (
            named,
            record {
              nodes = chain.nodes;
              chain = subst (Chain rows row.id chain.nodes) end chain.chain;
              ends = subst (λ (last : ℕ). pointed_node rows last ≡ None) end chain.ends;
              many = chain.many;
            },
            weighs,
          )

-- the root of a tree stands at the place of its identity
pub root_place : (rows : List NodeRow) → IsNetwork rows → IsTree rows → (id : ℕ)
    → IsOnly points_at_none rows id → (i : ℕ) × (root : NodeRow)
    × (position (λ (row : NodeRow). id == row.id) rows ≡ Some i)
    × (slice_get rows i ≡ Some root) × (root.id ≡ id)
root_place rows net tree id only =
    let (root, in', none) : (row : NodeRow) × Contains rows row × (row.state.up ≡ None) =
    a_root rows tree.one_root in
    let named : root.id ≡ id = only.named root in' (is_root-None root none) in
    let (i, at) : (i : ℕ) × (slice_get rows i ≡ Some root) = place_from_Contains rows root in' in (
      i,
      root,
      subst (λ (id : ℕ). position (λ (row : NodeRow). id == row.id) rows ≡ Some i) named
          (place_of_row rows net i root at),
      at,
      named,
    )

module _ (rows : List NodeRow) (net : IsNetwork rows) (joined : IsConnected rows)
    (tree : IsTree rows) (id : ℕ) (only : IsOnly points_at_none rows id) (depths : List ℕ)
    (deep : AreDepths rows depths) (place : ℕ)
    (is : position (λ (row : NodeRow). id == row.id) rows ≡ Some place) (found : List (Option ℕ))
    (are : AreDistances rows place found) where
  root : (root : NodeRow) × (slice_get rows place ≡ Some root) × (root.id ≡ id)
  root =
      let (i, root, at, here, named) = root_place rows net tree id only in
      let same : i ≡ place = same_Some i place (sym at ∙ is) in
      (root, ap (slice_get rows) (sym same) ∙ here, named)

  ends : (row : NodeRow) → Contains rows row → (last depth : ℕ) → IsChainOf rows row.id last depth
      → last ≡ root.0.id
  ends row in' last depth chain =
      let (end, end_in, none, named) : (end : NodeRow) × Contains rows end
      × (end.state.up ≡ None) × (end.id ≡ last) =
      chain_end rows net row in' last depth chain in
      sym named ∙ only.named end end_in (is_root-None end none) ∙ sym root.2

  chain_of : (row : NodeRow) → Contains rows row
      → (count : ℕ) × IsChainOf rows row.id root.0.id count
  chain_of row in' =
      let (i, at) : (i : ℕ) × (slice_get rows i ≡ Some row) = place_from_Contains rows row in' in
      let depth : ℕ = get_or depths i 0 in
      let (last, chain) : (last : ℕ) × IsChainOf rows row.id last depth =
      deep.depth row i depth at (slice_get-get_or depths i 0
      (omega (arith, slice_get_within rows i row at, deep.each))) in (
        depth,
        subst (λ (last : ℕ). IsChainOf rows row.id last depth) (ends row in' last depth chain)
            chain,
      )

  -- where distances follow the pointers, these make a shortest-path tree
  pub followed_shortest : AreFollowed rows found → IsShortestPathTree rows
  followed_shortest followed =
      shortest_by_numbers rows tree (far_of rows net joined place found are root.0 root.1)
      (followed_falls rows net joined place found are root.0 root.1 followed)
      (far_rises rows net joined place found are root.0 root.1)

  -- and the other way round
  pub shortest_followed : IsShortestPathTree rows → AreFollowed rows found
  shortest_followed shortest =
      falls_followed rows net joined place found are root.0 root.1
      (distances_fall rows net shortest root.0.id
      (far_of rows net joined place found are root.0 root.1)
      (is_distance rows net joined place found are root.0 root.1) chain_of)

  -- then labels of them are right
  pub followed_right : AreFollowed rows found → (labels : List SptLabel)
      → AreLabelsSoFar id depths found labels (length depths) → AreRight (spt_says rows) rows labels
  followed_right followed labels made =
      labels_right rows net joined place found are root.0 root.1 followed
      (λ row in' none. only.named row in' (is_root-None row none) ∙ sym root.2) depths deep ends
      labels
      (subst (λ (id : ℕ). AreLabelsSoFar id depths found labels (length depths)) (sym root.2) made)
