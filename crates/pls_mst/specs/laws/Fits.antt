-- Marked labels of `mst` can be written, and are short.
use Rattle.std.proofs.Common.{◌≡◌, ℕ, suc, ◌-◌, ◌*◌, ◌^◌, ◌<◌, ◌≤◌, inl, inr, nat_lt, Bool, true, List, [], ◌∷◌, ◌++◌, length, map, Contains, sym, subst, arith}
use Rattle.std.specs.List.{filter, flat_map}
use Rattle.std.proofs.Math.Pow.{pow_mono}
use Rattle.std.proofs.lemmas.Bool.{cases_lt, ltb-true}
use Rattle.std.proofs.lemmas.List.Concat.{flat_map-cons}
use Rattle.std.proofs.lemmas.List.Elements.{All-cons, All-nil}
use Rattle.pls_bits.specs.Gamma.{floor_log}
use Rattle.pls_bits.specs.NumberCode.{Grows, IsShort}
use Rattle.pls_bits.specs.laws.FloorLogLaws.{floor_log-bound, floor_log-lt_suc}
use Rattle.pls_configuration.specs.declared.row.Port.{Port}
use Rattle.pls_configuration.specs.declared.row.NodeRow.{NodeRow}
use Rattle.pls_configuration.specs.Configuration.{IsNetwork, ids_of}
use Rattle.pls_configuration.specs.Walk.{Edge, edges_from, edges_of}
use Rattle.pls_graph.specs.Size.{size_of, weights_of}
use Rattle.pls_graph.specs.declared.size.Size.{Size}
use Rattle.pls_graph.proofs.Members.{Contains-flat_map, Contains-from_filter, Contains-from_flat_map, Contains-from_map, Contains-map}
use Rattle.pls_scheme.specs.Marked.{Fits}
use Rattle.pls_streams.specs.Steps.{capped}
use Rattle.pls_scheme.specs.Theorem.{AreWords}
use Rattle.pls_scheme.proofs.Fitting.{AreWithin}
use Rattle.pls_facts.proofs.Greatest.{in_greatest}
use Rattle.pls_facts.proofs.PortEdges.{IsGraph-network}
use Rattle.pls_boruvka.specs.Boruvka.{AreBoruvkaLevelsFrom, chosen_edge, chosen_edges}
use Rattle.pls_boruvka.specs.declared.level.Level.{Level}
use Rattle.pls_levels.specs.laws.Fits.{limits_many, within_limits}
use Rattle.pls_mst.specs.Labels.{AreOrdered, MstLabel, mst_levels, mst_shape, numbers_of_level}
use Rattle.pls_mst.specs.Mst.{level_limits, longest_mst}

-- the limits of the numbers of so many levels
abbrev pub limits_of : Size → ℕ → List ℕ
limits_of size count = limits_many (level_limits size) count

-- so many bits are as many as the logarithm says, or fewer
below_log : (count nodes : ℕ) → nodes < 2 ^ 63 → 2 ^ count ≤ nodes → count ≤ floor_log nodes
below_log count nodes small few = elim (cases_lt (floor_log nodes) count) [
  | inr fine ↦ fine
  | inl more ↦
      let powers : 2 ^ suc (floor_log nodes) ≤ 2 ^ count = pow_mono more in
      absurd (omega (arith, powers, few, floor_log-lt_suc nodes small))
]

module _ (rows : List NodeRow) (net : IsNetwork rows) (words : AreWords (size_of rows)) where
  abbrev size : Size
  size = size_of rows

  -- an edge has its smaller end first, and weighs no more than the greatest weight
  edge_within : (edge : Edge) → Contains (edges_of rows) edge
      → (edge.a < edge.b) × (edge.weight ≤ size.max_weight)
  edge_within edge in' =
      let (row, row_in, gives) : (row : NodeRow) × Contains rows row
      × Contains (edges_from row) edge =
      Contains-from_flat_map edges_from rows edge in' in
      let edge_of : Port → Edge =
      λ port. record { a = row.id; b = port.nbr; weight = port.weight } in
      let (port, kept, is) : (port : Port)
      × Contains (filter (λ port. nat_lt row.id port.nbr) row.ports) port
      × (edge_of port ≡ edge) =
      Contains-from_map edge_of (filter (λ port. nat_lt row.id port.nbr) row.ports) edge gives in
      let found : Contains row.ports port × (nat_lt row.id port.nbr ≡ true) =
      Contains-from_filter (λ (port : Port). nat_lt row.id port.nbr) row.ports port kept in
      let ordered : row.id < port.nbr = ltb-true row.id port.nbr found.1 in
      let light : port.weight ≤ size.max_weight = in_greatest (weights_of rows) port.weight
      (Contains-map (λ (port : Port). port.weight)
      (flat_map (λ (row : NodeRow). row.ports) rows) port
      (Contains-flat_map (λ (row : NodeRow). row.ports) rows row port row_in found.0)) in (
        subst (λ (edge : Edge). edge.a < edge.b) is ordered,
        subst (λ (edge : Edge). edge.weight ≤ size.max_weight) is light,
      )

  module _ (Before : Edge → Edge → Type 0) (depth : ℕ → ℕ) (u : ℕ)
      (known : Contains (ids_of rows) u)
    where
      abbrev AreBoruvkaLevels : List Edge → List (ℕ → Level) → Type 0
      AreBoruvkaLevels joined levels =
          AreBoruvkaLevelsFrom (edges_of rows) Before (ids_of rows) depth joined levels

      -- what levels say of a node
      abbrev said : List (ℕ → Level) → List Level
      said levels = map (λ level. level u) levels

      -- the numbers of levels are within their limits
      pub levels_within : (joined : List Edge) (levels : List (ℕ → Level)) → AreBoruvkaLevels joined levels
          → AreWithin (flat_map numbers_of_level (said levels)) (limits_of size (length levels))
          × AreOrdered (said levels)
      levels_within joined [] are = (tt, All-nil (λ (level : Level). level.a < level.b))
      levels_within joined (level ∷ levels) are =
          let rest = levels_within (joined ++ chosen_edges level (ids_of rows)) levels are.1 in
          let edge : Edge = chosen_edge (level u) in
          let among : Contains (edges_of rows) edge = are.0.among u known in
          let ends = (IsGraph-network rows net).ends edge among in
          let here = edge_within edge among in
          let ids : (id : ℕ) → Contains (ids_of rows) id → id ≤ size.max_id =
          in_greatest (ids_of rows) in
          let most : size.max_id ≤ 2 ^ 32 - 1 = words.max_id in
          let heavy : size.max_weight ≤ 2 ^ 32 - 1 = words.max_weight in
          let four : AreWithin (numbers_of_level (level u) ++ flat_map numbers_of_level (said levels))
          (limits_of size (suc (length levels))) = (
            ids (level u).fragment (are.0.fragments.known u known),
            omega (arith, most),
            (
              here.1,
              omega (arith, heavy),
              (
                ids edge.a ends.0,
                omega (arith, most),
                (ids edge.b ends.1, omega (arith, most), rest.0),
              ),
            ),
          ) in (
            subst (λ (numbers : List ℕ). AreWithin numbers (limits_of size (suc (length levels))))
                (sym (flat_map-cons numbers_of_level (level u) (said levels))) four,
            All-cons (λ (level : Level). level.a < level.b) (level u) (said levels) here.0 rest.1,
          )

  -- a label fits whose numbers are within their limits
  module _ (code : ℕ → List Bool) (grows : Grows code) (short : IsShort code) (label : MstLabel)
      (count : ℕ) (many : length label.levels ≡ count) (few : 2 ^ count ≤ length rows) where
    count_within : length label.levels ≤ floor_log size.nodes
    count_within =
        let all = below_log count (length rows) (omega (arith, net.limits.few_nodes)) few in
        omega (arith, many, all)

    count_few : 2 ^ length label.levels ≤ 2 * length rows
    count_few = subst (λ (count : ℕ). 2 ^ count ≤ 2 * length rows) (sym many)
        (omega (arith, few))

    pub label_fits : label.root ≤ size.max_id → label.own ≤ size.max_id
        → label.parent ≤ size.max_id → label.depth ≤ size.nodes
        → AreWithin (flat_map numbers_of_level label.levels) (limits_of size count)
        → AreOrdered label.levels
        → Fits mst_shape code (capped (longest_mst code size)) label
    label_fits root own parent depth levels ordered =
        within_limits mst_levels rows net words code grows short (level_limits size)
        (floor_log size.nodes) (omega (arith, floor_log-bound size.nodes)) (λ level. omega arith)
        label count_within count_few root own parent depth
        (subst (λ (count : ℕ). AreWithin (flat_map numbers_of_level label.levels)
        (limits_of size count)) (sym many) levels) ordered
