-- A search by weights that has nothing ahead has found the least weights.
use Rattle.std.proofs.Common.{◌≡◌, ◌∙◌, ℕ, ◌+◌, ◌≤◌, inl, inr, List, [], ◌∷◌, Contains, slice_get, slice_index_or, Option, Some, None, refl, sym, subst, arith}
use Rattle.std.proofs.lemmas.Option.{get_or_from_slice_get, same_Some}
use Rattle.pls_configuration.specs.declared.row.Port.{Port}
use Rattle.pls_configuration.specs.declared.row.NodeRow.{NodeRow}
use Rattle.pls_configuration.specs.Configuration.{IsNetwork}
use Rattle.pls_configuration.specs.Walk.{Adjacent, Walk, edges_of}
use Rattle.pls_graph.specs.Places.{place_in}
use Rattle.pls_graph.proofs.Beside.{one_place}
use Rattle.pls_graph.proofs.Members.{Contains-from_place}
use Rattle.pls_facts.specs.Weight.{edge_weight, walk_weight}
use Rattle.pls_facts.proofs.NamedPlaces.{port_named}
use Rattle.pls_facts.proofs.Neighbours.{port_leads}
use Rattle.pls_facts.proofs.Weights.{port_weighs}
use Rattle.pls_search.specs.Distances.{AreDistances, IsDistanceFound}
use Rattle.pls_search.specs.inner.Noting.{IsNoted}
use Rattle.pls_search.proofs.Reaching.{IsReached, Reaching, WalkWeighs, no_entry}

module _ (rows : List NodeRow) (net : IsNetwork rows) (root : ℕ) where
  -- with nothing ahead, the distances are found
  pub AreDistances-end : (found : List (Option ℕ)) → Reaching rows root found []
      → AreDistances rows root found
  AreDistances-end found done = record {
    each = done.size;
    distance = λ first row place entry at there is. told first row place entry at there
        (sym (get_or_from_slice_get found place entry None is));
  }
    where
      -- what is found for a node, at most so much
      Within : ℕ → ℕ → Type 0
      Within id most =
          (i weight : ℕ) × (row : NodeRow) × (slice_get rows i ≡ Some row) × (row.id ≡ id)
          × IsNoted found i weight × (weight ≤ most)

      reached : (place most : ℕ) → IsReached found [] place most
          → (weight : ℕ) × IsNoted found place weight × (weight ≤ most)
      reached place most (inl found) = found
      reached place most (inr (entry, in', is_place, few)) = no_entry entry in'

      passes : (u v most : ℕ) → Within u most → Adjacent (edges_of rows) u v
          → Within v (most + edge_weight rows u v)
      passes u v most (i, weight, row, at, is_u, has, few) step =
          let in' : Contains rows row = Contains-from_place rows i row at in
          let (port, port_in, is_v) : (port : Port) × Contains row.ports port × (port.nbr ≡ v) =
          port_leads rows net row in' v
          (subst (λ (u : ℕ). Adjacent (edges_of rows) u v) (sym is_u) step) in
          let (other, there, named) : (other : NodeRow)
          × (slice_get rows (place_in rows port.nbr) ≡ Some other) × (other.id ≡ port.nbr) =
          port_named rows net row port in' port_in in
          let (next, has_next, most_next) : (next : ℕ) × IsNoted found (place_in rows port.nbr) next
          × (next ≤ weight + port.weight) =
          reached (place_in rows port.nbr) (weight + port.weight)
          (done.closed i weight row port has at port_in) in
          let edge : edge_weight rows u v ≡ port.weight =
          subst (λ (u : ℕ). edge_weight rows u v ≡ port.weight) is_u
          (subst (λ (v : ℕ). edge_weight rows row.id v ≡ port.weight) is_v
          (port_weighs rows net row port in' port_in)) in (
            place_in rows port.nbr,
            next,
            other,
            there,
            named ∙ is_v,
            has_next,
            omega (arith, edge, most_next, few),
          )

      along : (u v most : ℕ) (nodes : List ℕ) → Walk (edges_of rows) u nodes v → Within u most
          → Within v (most + walk_weight rows u nodes)
      along u v most [] same here =
          subst (λ (v : ℕ). Within v (most + 0)) same
          (subst (Within u) (let e : most ≡ most + 0 = omega arith in e) here)
      along u v most (node ∷ nodes) walk here =
          let e : (most + edge_weight rows u node) + walk_weight rows node nodes
          ≡ most + walk_weight rows u (node ∷ nodes) = omega arith in
          subst (Within v) e
          (along node v (most + edge_weight rows u node) nodes walk.1
          (passes u node most here walk.0))

      least : (first row : NodeRow) (place : ℕ) (nodes : List ℕ)
          → slice_get rows root ≡ Some first → slice_get rows place ≡ Some row
          → Walk (edges_of rows) first.id nodes row.id
          → (weight : ℕ) × IsNoted found place weight × (weight ≤ walk_weight rows first.id nodes)
      least first row place nodes at here walk =
          let (none, noted, few) : (weight : ℕ) × IsNoted found root weight × (weight ≤ 0) =
          reached root 0 done.start in
          let (i, weight, other, there, same, has, most) :
          Within row.id (0 + walk_weight rows first.id nodes) =
          along first.id row.id 0 nodes walk (root, none, first, at, refl, noted, few) in
          let one : i ≡ place = one_place rows net i place other row there here same in
          (weight, subst (λ (i : ℕ). IsNoted found i weight) one has, omega (arith, most))

      told : (first row : NodeRow) (place : ℕ) (entry : Option ℕ)
          → slice_get rows root ≡ Some first → slice_get rows place ≡ Some row
          → entry ≡ slice_index_or found place None
          → IsDistanceFound rows first.id row.id entry
      told first row place None at here is = λ joined.
          let has : (weight : ℕ) × IsNoted found place weight
          × (weight ≤ walk_weight rows first.id joined.0) =
          least first row place joined.0 at here joined.1 in
          let none : None ≡ Some has.0 = is ∙ has.1 in
          absurd (cc)
      told first row place (Some weight) at here is =
          let there : WalkWeighs rows first.id row.id weight =
          done.walk first row place weight at here (sym is) in
          record {
            nodes = there.0;
            walk = there.1;
            weighs = there.2;
            least = λ others walk.
                let has : (known : ℕ) × IsNoted found place known
                × (known ≤ walk_weight rows first.id others) =
                least first row place others at here walk in
                let same : weight ≡ has.0 = same_Some weight has.0 (is ∙ has.1) in
                omega (arith, same, has.2);
          }
