-- Marked labels of `pathmax` can be written, and are short.
use Rattle.std.proofs.Common.{◌≡◌, ◌∙◌, ℕ, suc, ◌+◌, ◌-◌, ◌*◌, ◌^◌, ◌<◌, ◌≤◌, inl, inr, Bool, List, [], ◌∷◌, ◌++◌, length, Contains, sym, ap, subst, arith, pow-suc}
use Rattle.std.specs.List.{flat_map}
use Rattle.std.proofs.Math.Pow.{pow_mono}
use Rattle.std.proofs.lemmas.Bool.{cases_lt}
use Rattle.std.proofs.lemmas.List.{length-map}
use Rattle.std.proofs.lemmas.List.Concat.{flat_map-cons}
use Rattle.pls_bits.specs.Gamma.{floor_log}
use Rattle.pls_bits.specs.NumberCode.{Grows, IsShort}
use Rattle.pls_bits.specs.laws.FloorLogLaws.{floor_log-bound, floor_log-lt_suc}
use Rattle.pls_configuration.specs.declared.row.Port.{Port}
use Rattle.pls_configuration.specs.declared.row.NodeRow.{NodeRow}
use Rattle.pls_configuration.specs.Configuration.{IsNetwork, ids_of}
use Rattle.pls_configuration.specs.Walk.{Edge, Adjacent, AreJoined, Walk, edges_of}
use Rattle.pls_graph.specs.Size.{size_of, weights_of}
use Rattle.pls_graph.specs.declared.size.Size.{Size}
use Rattle.pls_graph.proofs.Joined.{along}
use Rattle.pls_graph.proofs.Members.{Contains-flat_map, Contains-map}
use Rattle.pls_scheme.specs.Marked.{Fits}
use Rattle.pls_streams.specs.Steps.{capped}
use Rattle.pls_scheme.specs.Theorem.{AreWords}
use Rattle.pls_scheme.proofs.Fitting.{AreWithin}
use Rattle.pls_numbers.specs.laws.TakingLaws.{all_any}
use Rattle.pls_facts.specs.SpanningTree.{pointed_edges}
use Rattle.pls_facts.specs.Weight.{edge_weight}
use Rattle.pls_facts.proofs.Fewer.{length-part}
use Rattle.pls_facts.proofs.Greatest.{in_greatest}
use Rattle.pls_facts.proofs.Neighbours.{Leads, adjacent_known, leads}
use Rattle.pls_facts.proofs.PointedEdges.{pointed_among}
use Rattle.pls_facts.proofs.Weights.{port_weighs}
use Rattle.pls_centroid.specs.Centroid.{next_edges}
use Rattle.pls_centroid.specs.Levels.{AreLevelsFrom, IsCentroidLevelOf, greatest_along}
use Rattle.pls_centroid.specs.declared.level.CentroidLevel.{CentroidLevel}
use Rattle.pls_levels.specs.laws.Fits.{limits_many, within_limits}
use Rattle.pls_centroid.proofs.Lightly.{joined_at}
use Rattle.pls_centroid.proofs.Pieces.{centroid_known}
use Rattle.pls_pathmax.specs.Labels.{PathMaxLabel, numbers_of_centroid_level, pathmax_levels, pathmax_shape}
use Rattle.pls_pathmax.specs.PathMax.{centroid_level_limits, longest_pathmax}

-- the limits of the numbers of so many levels
abbrev pub limits_of : Size → ℕ → List ℕ
limits_of size count = limits_many (centroid_level_limits size) count

-- twice as many as so many bits allow is one bit more than the logarithm says
below_log : (count nodes : ℕ) → nodes < 2 ^ 63 → 2 ^ count ≤ 2 * nodes
    → count ≤ floor_log nodes + 1
below_log count nodes small few = elim (cases_lt (floor_log nodes + 1) count) [
  | inr fine ↦ fine
  | inl more ↦
      let powers : 2 ^ suc (suc (floor_log nodes)) ≤ 2 ^ count = pow_mono (omega (arith, more)) in
      absurd (omega (
        arith,
        powers,
        few,
        floor_log-lt_suc nodes small,
        pow-suc 2 (suc (floor_log nodes)),
      ))
]

module _ (rows : List NodeRow) (net : IsNetwork rows) (words : AreWords (size_of rows)) where
  abbrev size : Size
  size = size_of rows

  -- a node that tree edges join to a node is one of the nodes
  stays_known : (u v : ℕ) → Contains (ids_of rows) u → AreJoined (pointed_edges rows) u v
      → Contains (ids_of rows) v
  stays_known u v known joined = along (pointed_edges rows) (Contains (ids_of rows))
      (λ w x here (edge, in', joins). adjacent_known rows net w x
      (edge, pointed_among rows net edge in', joins)) u v joined known

  -- no edge is heavier than the greatest weight
  edge_within : (u v : ℕ) → Adjacent (edges_of rows) u v
      → edge_weight rows u v ≤ size.max_weight
  edge_within u v adjacent =
      let way : Leads rows u v = leads rows net u v adjacent in
      let weighs : edge_weight rows way.row.id way.port.nbr ≡ way.port.weight =
      port_weighs rows net way.row way.port way.in' way.has in
      let light : way.port.weight ≤ size.max_weight = in_greatest (weights_of rows) way.port.weight
      (Contains-map (λ (port : Port). port.weight)
      (flat_map (λ (row : NodeRow). row.ports) rows) way.port
      (Contains-flat_map (λ (row : NodeRow). row.ports) rows way.row way.port way.in' way.has)) in
      let same : edge_weight rows u v ≡ edge_weight rows way.row.id way.port.nbr =
      ap (λ (u : ℕ). edge_weight rows u v) (sym way.owner)
      ∙ ap (edge_weight rows way.row.id) (sym way.names) in
      omega (arith, same, weighs, light)

  along_within : (u v : ℕ) (nodes : List ℕ) → Walk (pointed_edges rows) u nodes v
      → greatest_along rows u nodes ≤ size.max_weight
  along_within u v [] walk = omega arith
  along_within u v (x ∷ nodes) ((edge, in', joins), walk) =
      omega (
        arith,
        edge_within u x (edge, pointed_among rows net edge in', joins),
        along_within x v nodes walk,
      )

  -- what is known of a level
  level_within : (edges : List Edge) (u : ℕ) (level : CentroidLevel) → Contains (ids_of rows) u
      → IsCentroidLevelOf rows edges u level
      → (level.centroid ≤ size.max_id) × (level.hops ≤ size.nodes)
      × (level.greatest ≤ size.max_weight)
  level_within edges u level known is =
      let hops = is.hops in
      let greatest = is.greatest in
      let few : length (u ∷ is.path) ≤ length (ids_of rows) =
      length-part (u ∷ is.path) (ids_of rows) is.leads.distinct
      (λ w in'. stays_known u w known
      (joined_at (pointed_edges rows) u level.centroid w is.path is.leads.walk in').0) in
      let many = length-map rows (λ (row : NodeRow). row.id) in (
        in_greatest (ids_of rows) level.centroid
            (centroid_known edges (ids_of rows) u level.centroid is.centroid).0,
        omega (arith, hops, few, many),
        omega (arith, greatest, along_within u level.centroid is.path is.leads.walk),
      )

  -- the numbers of levels are within their limits
  pub levels_within : (edges : List Edge) (u : ℕ) → Contains (ids_of rows) u
      → (levels : List CentroidLevel) → AreLevelsFrom rows edges u levels
      → AreWithin (flat_map numbers_of_centroid_level levels) (limits_of size (length levels))
  levels_within edges u known [] are = absurd are
  levels_within edges u known (level ∷ levels) are =
      let here = level_within edges u level known are.0 in
      let most : size.max_id ≤ 2 ^ 32 - 1 = words.max_id in
      let heavy : size.max_weight ≤ 2 ^ 32 - 1 = words.max_weight in
      let nodes : size.nodes ≤ 32768 = net.limits.few_nodes in
      let rest : AreWithin (flat_map numbers_of_centroid_level levels) (limits_of size (length levels)) =
      elim are.1 [
        | inl last ↦ subst (λ (levels : List CentroidLevel).
            AreWithin (flat_map numbers_of_centroid_level levels) (limits_of size (length levels)))
            (sym last.1) tt
        | inr on ↦ levels_within (next_edges (ids_of rows) edges) u known levels on.1
      ] in
      let three : AreWithin (numbers_of_centroid_level level ++ flat_map numbers_of_centroid_level levels)
      (limits_of size (suc (length levels))) = (
        here.0,
        omega (arith, most),
        (here.1, omega (arith, nodes), (here.2, omega (arith, heavy), rest)),
      ) in
      subst (λ (numbers : List ℕ). AreWithin numbers (limits_of size (suc (length levels))))
      (sym (flat_map-cons numbers_of_centroid_level level levels)) three

  -- a label fits whose numbers are within their limits
  module _ (code : ℕ → List Bool) (grows : Grows code) (short : IsShort code)
      (label : PathMaxLabel) (few : 2 ^ length label.levels ≤ 2 * length rows) where
    count_within : length label.levels ≤ floor_log size.nodes + 1
    count_within = below_log (length label.levels) (length rows)
        (omega (arith, net.limits.few_nodes)) few

    pub label_fits : label.root ≤ size.max_id → label.own ≤ size.max_id
        → label.parent ≤ size.max_id → label.depth ≤ size.nodes
        → AreWithin (flat_map numbers_of_centroid_level label.levels)
        (limits_of size (length label.levels))
        → Fits pathmax_shape code (capped (longest_pathmax code size)) label
    label_fits root own parent depth levels =
        within_limits pathmax_levels rows net words code grows short (centroid_level_limits size)
        (floor_log size.nodes + 1) (omega (arith, floor_log-bound size.nodes))
        (λ level. omega arith) label count_within few root own parent depth levels
        (all_any label.levels)
