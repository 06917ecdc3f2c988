-- There is one answer for the levels of a network: two lists of levels that are right are equal.
use Rattle.std.proofs.Common.{◌≡◌, ◌∙◌, ℕ, ◌==◌, inl, inr, Bool, List, [], ◌∷◌, ◌++◌, map, Contains, refl, sym, ap, subst, arith}
use Rattle.pls_configuration.specs.declared.row.NodeRow.{NodeRow}
use Rattle.pls_configuration.specs.Configuration.{IsNetwork, ids_of}
use Rattle.pls_configuration.specs.Walk.{Edge, JoinAll, edges_of}
use Rattle.pls_graph.proofs.Members.{Contains-first, Contains-later}
use Rattle.pls_facts.specs.EdgeOrder.{ComesBefore}
use Rattle.pls_facts.specs.Lightest.{IsEdgeOrder, IsFirstLeaving}
use Rattle.pls_facts.specs.inner.Graphs.{IsGraph}
use Rattle.pls_facts.specs.SpanningTree.{pointed_edges}
use Rattle.pls_facts.proofs.Chains.{IsChainOf-one}
use Rattle.pls_facts.proofs.Decided.{cases_Edge}
use Rattle.pls_facts.proofs.EdgeKeys.{ComesBefore-order}
use Rattle.pls_facts.proofs.Pointed.{id_of_row, row_from_id}
use Rattle.pls_facts.proofs.PortEdges.{IsGraph-network}
use Rattle.pls_boruvka.specs.declared.level.Level.{Level}
use Rattle.pls_boruvka.specs.Boruvka.{AreLevelLists, AreBoruvkaLevelsFrom, IsLevelOf, chosen_edge, chosen_edges}
use Rattle.pls_boruvka.specs.Fragments.{AreFragments}
use Rattle.pls_boruvka.proofs.NextLevel.{IsFirstLeaving-same}

-- maps that agree on the items of a list give one list
map-agree : {X Y : Type 0} (f g : X → Y) (xs : List X) → ((x : X) → Contains xs x → f x ≡ g x)
    → map f xs ≡ map g xs
map-agree f g [] agree = refl
map-agree f g (x ∷ xs) agree = rw (
  agree x (Contains-first x xs),
  map-agree f g xs (λ y in'. agree y (Contains-later x xs y in')),
) refl

-- levels of equal parts are equal
same_Level : (one other : Level) → one.fragment ≡ other.fragment
    → chosen_edge one ≡ chosen_edge other → one ≡ other
same_Level one other name edge = by one.fragment one.weight one.a one.b other.fragment other.weight
    other.a other.b name (ap (λ (edge : Edge). edge.weight) edge) (ap (λ (edge : Edge). edge.a)
    edge)
    (ap (λ (edge : Edge). edge.b) edge)
  where
    of_parts : ℕ → ℕ → ℕ → ℕ → Level
    of_parts fragment weight a b = record { fragment = fragment; weight = weight; a = a; b = b }

    by : (f w a b g v c d : ℕ) → f ≡ g → w ≡ v → a ≡ c → b ≡ d → of_parts f w a b ≡ of_parts g v c d
    by f w a b g v c d first second third fourth = rw (first, second, third, fourth) refl

module _ (edges : List Edge) (nodes : List ℕ) (graph : IsGraph edges nodes)
    (Before : Edge → Edge → Type 0) (order : IsEdgeOrder edges Before) (depth other_depth : ℕ → ℕ)
    (deep : (u : ℕ) → Contains nodes u → depth u ≡ other_depth u) where
  -- the fragments of some edges have one name each
  one_name : (joined : List Edge) (fragment other : ℕ → ℕ)
      → AreFragments joined nodes depth fragment → AreFragments joined nodes other_depth other
      → (u : ℕ) → Contains nodes u → fragment u ≡ other u
  one_name joined fragment other one two u in' =
      elim (one.least (other u) (two.known u in')) [
        | inl own ↦ same ∙ own
        | inr less ↦ elim (two.least (fragment u) (one.known u in')) [
          | inl own ↦ sym own ∙ sym same'
          | inr lower ↦
              let first = ap depth same in
              let second = ap other_depth same' in
              let third = deep (fragment u) (one.known u in') in
              let fourth = deep (other u) (two.known u in') in
              absurd (omega (arith, less, lower, first, second, third, fourth))
        ]
      ]
    where
      same : fragment u ≡ fragment (other u)
      same = one.one u (other u) in' (two.known u in') (two.holds u in')

      same' : other u ≡ other (fragment u)
      same' = two.one u (fragment u) in' (one.known u in') (one.holds u in')

  -- a set is left by one first edge
  one_first : (inside : ℕ → Bool) (one other : Edge)
      → Contains edges one → Contains edges other → IsFirstLeaving edges Before inside one
      → IsFirstLeaving edges Before inside other → one ≡ other
  one_first inside one other one_in other_in first second = elim (cases_Edge one other) [
    | inl same ↦ same
    | inr apart ↦ absurd (order.irreflexive one one_in
        (order.transitive one other one one_in other_in one_in
        (first.first other other_in second.leaves (λ e. apart (sym e)))
        (second.first one one_in first.leaves apart)))
  ]

  -- a level of some edges is one
  one_level : (joined : List Edge) (level other : ℕ → Level)
      → IsLevelOf edges joined Before nodes depth level
      → IsLevelOf edges joined Before nodes other_depth other
      → (u : ℕ) → Contains nodes u → level u ≡ other u
  one_level joined level other one two u in' = same_Level (level u) (other u) (name u in')
      (one_first (λ v. (other v).fragment == (other u).fragment) (chosen_edge (level u))
      (chosen_edge (other u)) (one.among u in') (two.among u in')
      (IsFirstLeaving-same edges nodes graph Before
      (λ v. (level v).fragment == (level u).fragment)
      (λ v. (other v).fragment == (other u).fragment)
      (λ v v_in. ap (λ (fragment : ℕ). fragment == (level u).fragment) (name v v_in)
      ∙ ap (λ (fragment : ℕ). (other v).fragment == fragment) (name u in'))
      (chosen_edge (level u)) (one.among u in') (one.first u in'))
      (two.first u in'))
    where
      name : (u : ℕ) → Contains nodes u → (level u).fragment ≡ (other u).fragment
      name = one_name joined (λ u. (level u).fragment) (λ u. (other u).fragment) one.fragments
          two.fragments

  -- where all nodes are joined there is no level
  no_level_after : (joined : List Edge) (level : ℕ → Level) (depth : ℕ → ℕ)
      → JoinAll joined nodes → IsLevelOf edges joined Before nodes depth level
      → (u : ℕ) → Contains nodes u → ⊥
  no_level_after joined level depth all is u in' =
      let sides = graph.ends (chosen_edge (level u)) (is.among u in') in
      (is.first u in').leaves (ap (λ (name : ℕ). name == (level u).fragment)
      (is.fragments.one (level u).a (level u).b sides.0 sides.1
      (all (level u).a (level u).b sides.0 sides.1)))

  -- what levels say of a node is one
  one_levels : (joined : List Edge) (levels others : List (ℕ → Level))
      → AreBoruvkaLevelsFrom edges Before nodes depth joined levels
      → AreBoruvkaLevelsFrom edges Before nodes other_depth joined others
      → (u : ℕ) → Contains nodes u → map (λ level. level u) levels ≡ map (λ level. level u) others
  one_levels joined [] [] one two u in' = refl
  one_levels joined [] (other ∷ others) one two u in' =
      absurd (no_level_after joined other other_depth one two.0 u in')
  one_levels joined (level ∷ levels) [] one two u in' =
      absurd (no_level_after joined level depth two one.0 u in')
  one_levels joined (level ∷ levels) (other ∷ others) one two u in' =
      let next : chosen_edges other nodes ≡ chosen_edges level nodes =
      map-agree (λ u. chosen_edge (other u)) (λ u. chosen_edge (level u)) nodes
      (λ v v_in. ap chosen_edge (sym (one_level joined level other one.0 two.0 v v_in))) in
      let rest = one_levels (joined ++ chosen_edges level nodes) levels others one.1
      (subst (λ (chosen : List Edge).
      AreBoruvkaLevelsFrom edges Before nodes other_depth (joined ++ chosen) others) next two.1) u in' in
      rw (one_level joined level other one.0 two.0 u in', rest) refl

-- right lists of levels are equal
pub one_answer : (rows : List NodeRow) → IsNetwork rows → (one other : List (List Level))
    → AreLevelLists rows one → AreLevelLists rows other → one ≡ other
one_answer rows net one other first second =
    first.said
    ∙ map-agree (λ row. map (λ level. level row.id) first.levels)
    (λ row. map (λ level. level row.id) second.levels) rows
    (λ row row_in. one_levels (edges_of rows) (ids_of rows) (IsGraph-network rows net)
    (ComesBefore (pointed_edges rows))
    (ComesBefore-order (pointed_edges rows) (edges_of rows)) first.depth second.depth deep [] first.levels second.levels first.are second.are row.id
    (id_of_row rows row row_in))
    ∙ sym second.said
  where
    deep : (u : ℕ) → Contains (ids_of rows) u → first.depth u ≡ second.depth u
    deep u in' =
        let (row, row_in, named) : (row : NodeRow) × Contains rows row × (row.id ≡ u) =
        row_from_id rows u in' in
        let one = first.deep row row_in in
        let two = second.deep row row_in in
        sym (ap first.depth named)
        ∙ (IsChainOf-one rows row.id one.0 two.0 (first.depth row.id) (second.depth row.id) one.1
        two.1).1
        ∙ ap second.depth named
