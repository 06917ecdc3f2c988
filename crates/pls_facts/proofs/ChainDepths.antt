-- The lengths of the chains of pointers, as depths.
use Rattle.std.proofs.Common.{◌≡◌, ◌∙◌, ℕ, ◌+◌, List, [], ◌∷◌, Contains, Some, None, refl, sym, ap, arith}
use Rattle.pls_configuration.specs.declared.row.NodeRow.{NodeRow}
use Rattle.pls_configuration.specs.Configuration.{IsNetwork}
use Rattle.pls_facts.specs.Pointer.{pointed_node, Falls, IsChainOf}
use Rattle.pls_facts.proofs.Chains.{IsChainOf-after, IsChainOf-end, IsChainOf-one}
use Rattle.pls_facts.proofs.Pointed.{chain_stays, ends_at_root, id_of_row, points_from, points_to, root_points_nowhere, row_from_id}

module _ (rows : List NodeRow) (net : IsNetwork rows) where
  -- a chain from a node without pointer has none
  pub chain_of_root : (row : NodeRow) → Contains rows row → row.state.up ≡ None → (last depth : ℕ)
      → IsChainOf rows row.id last depth → depth ≡ 0
  chain_of_root row in' none last depth whole =
      (IsChainOf-one rows row.id last row.id depth 0 whole
      (IsChainOf-end rows row.id (root_points_nowhere rows net row in' none))).1

  -- a chain ends at a node without pointer
  pub chain_end : (row : NodeRow) → Contains rows row → (last count : ℕ)
      → IsChainOf rows row.id last count
      → (root : NodeRow) × Contains rows root × (root.state.up ≡ None) × (root.id ≡ last)
  chain_end row in' last count whole =
      let (root, root_in, named) : (root : NodeRow) × Contains rows root × (root.id ≡ last) =
      row_from_id rows last (chain_stays rows net row.id last whole.nodes (id_of_row rows row in')
      whole.chain) in
      (root, root_in, ends_at_root rows net root root_in (ap (pointed_node rows) named ∙ whole.ends), named)

  -- depths that are the lengths of the chains fall by one along each pointer
  pub chains_fall : (depth : ℕ → ℕ) → ((row : NodeRow) → Contains rows row
      → (last : ℕ) × IsChainOf rows row.id last (depth row.id))
      → Falls rows depth
  chains_fall depth chain_of u v points =
      let (from, from_in, is_u) : (row : NodeRow) × Contains rows row × (row.id ≡ u) =
      row_from_id rows u (points_from rows net u v points) in
      let (to, to_in, is_v) : (row : NodeRow) × Contains rows row × (row.id ≡ v) =
      row_from_id rows v (points_to rows net u v points) in
      let step : pointed_node rows from.id ≡ Some to.id =
      ap (pointed_node rows) is_u ∙ points ∙ ap Some (sym is_v) in
      let (last, whole) : (last : ℕ) × IsChainOf rows from.id last (depth from.id) =
      chain_of from from_in in
      let (end, rest) : (last : ℕ) × IsChainOf rows to.id last (depth to.id) =
      chain_of to to_in in
      let after : (rest : ℕ) × IsChainOf rows to.id last rest
      × (depth from.id ≡ 1 + rest) =
      IsChainOf-after rows from.id to.id last (depth from.id) (to.id ∷ [])
      (step, refl) whole in
      let same : after.0 ≡ depth to.id =
      (IsChainOf-one rows to.id last end after.0 (depth to.id) after.1 rest).1 in
      let falls : depth from.id ≡ depth to.id + 1 = omega (arith, after.2, same) in
      ap depth (sym is_u) ∙ falls ∙ ap (λ (id : ℕ). depth id + 1) is_v
