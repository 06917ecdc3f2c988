-- A node has few levels: on each, its piece has at most half of the nodes that it had before.
use Rattle.std.proofs.Common.{◌≡◌, ◌≢◌, ◌∙◌, ℕ, ◌*◌, ◌^◌, ◌≤◌, inl, inr, ◌==◌, Bool, true, false, cond, Some, List, [], ◌∷◌, length, Contains, refl, sym, ap, arith, pow-suc}
use Rattle.std.specs.List.{filter}
use Rattle.std.proofs.lemmas.Bool.{eq-eqb, eqb-true, ne_eqb, true≢false}
use Rattle.std.proofs.lemmas.List.{length-map}
use Rattle.std.proofs.lemmas.List.Sums.{count_by-le-length, length-filter}
use Rattle.pls_configuration.specs.declared.row.NodeRow.{NodeRow}
use Rattle.pls_configuration.specs.Configuration.{ids_of}
use Rattle.pls_configuration.specs.Walk.{Edge}
use Rattle.pls_graph.proofs.Joined.{AreJoined-turned}
use Rattle.pls_graph.proofs.Members.{Contains-first, Contains-later}
use Rattle.pls_facts.specs.Classes.{class_of}
use Rattle.pls_facts.proofs.Classes.{class-joined, joined-class}
use Rattle.pls_facts.proofs.Paths.{AreJoined-among}
use Rattle.pls_centroid.specs.Centroid.{are_together, centroid_of, edges_without, is_centroid, next_edges, part_of, piece_of}
use Rattle.pls_centroid.specs.Levels.{AreLevelsFrom}
use Rattle.pls_centroid.specs.declared.level.CentroidLevel.{CentroidLevel}
use Rattle.pls_centroid.proofs.Pieces.{central-part, centroid_known, centroid_passes, joined-piece, left-among, left-ends, left-stays, one_piece}

-- a test that more items pass keeps no fewer
pub filter-more : {X : Type 0} (p q : X → Bool) (xs : List X)
    → ((x : X) → Contains xs x → p x ≡ true → q x ≡ true)
    → length (filter p xs) ≤ length (filter q xs)
filter-more p q [] weaker = omega arith
filter-more p q (x ∷ xs) weaker = by (p x) (q x) refl refl
    (filter-more p q xs (λ y in'. weaker y (Contains-later x xs y in')))
  where
    by : (a b : Bool) → p x ≡ a → q x ≡ b → length (filter p xs) ≤ length (filter q xs)
        → length (cond a (x ∷ filter p xs) (filter p xs))
        ≤ length (cond b (x ∷ filter q xs) (filter q xs))
    by true true passes also rest = omega (arith, rest)
    by true false passes fails rest =
        absurd (true≢false (sym (weaker x (Contains-first x xs) passes) ∙ fails))
    by false true fails also rest = omega (arith, rest)
    by false false fails also rest = rest

-- more edges hold no smaller pieces together
pub piece-more : (edges others : List Edge) (nodes : List ℕ) (u : ℕ)
    → ((edge : Edge) → Contains edges edge → Contains others edge)
    → length (piece_of edges nodes u) ≤ length (piece_of others nodes u)
piece-more edges others nodes u among =
    filter-more (are_together edges u) (are_together others u) nodes (λ v in' same.
    eq-eqb (class_of others u) (class_of others v) (class-joined others u v
    (AreJoined-among edges others among u v (joined-class edges u v
    (eqb-true (class_of edges u) (class_of edges v) same)))))

module _ (nodes : List ℕ) (edges : List Edge) (u c : ℕ) (known : Contains nodes u) where
  -- without the centroid, each other node's piece is its part or less
  pub piece-halved : (is : centroid_of edges nodes u ≡ Some c) → c ≢ u
      → 2 * length (piece_of (next_edges nodes edges) nodes u) ≤ length (piece_of edges nodes u)
  piece-halved is apart =
      let centroid = centroid_known edges nodes u c is in
      let passes : is_centroid edges nodes c ≡ true = centroid_passes edges nodes u c is in
      let few : 2 * length (part_of edges nodes c u) ≤ length (piece_of edges nodes c) =
      central-part edges nodes c u centroid.2
      (joined-piece edges nodes c u known (AreJoined-turned edges u c centroid.1))
      (λ same. apart (sym same)) in
      let one : length (piece_of edges nodes u) ≡ length (piece_of edges nodes c) =
      ap length (one_piece edges nodes u c centroid.1) in
      let less : length (piece_of (next_edges nodes edges) nodes u)
      ≤ length (part_of edges nodes c u) =
      piece-more (next_edges nodes edges) (edges_without (λ w. w == c) edges) nodes u
      (λ edge in'. let ends = left-ends (is_centroid edges nodes) edges edge in' in
      left-stays (λ w. w == c) edges edge (left-among (is_centroid edges nodes) edges edge in')
      (away passes edge.a ends.0) (away passes edge.b ends.1)) in
      omega (arith, few, one, less)
    where
      away : is_centroid edges nodes c ≡ true → (w : ℕ) → is_centroid edges nodes w ≡ false
          → (w == c) ≡ false
      away passes w fails = ne_eqb w c (λ same. true≢false
          (sym passes ∙ ap (is_centroid edges nodes) (sym same) ∙ fails))

module _ (rows : List NodeRow) where
  -- so twice as many nodes allow one level more
  pub few_levels : (edges : List Edge) (u : ℕ) → Contains (ids_of rows) u
      → (levels : List CentroidLevel) → AreLevelsFrom rows edges u levels
      → 2 ^ length levels ≤ 2 * length (piece_of edges (ids_of rows) u)
  few_levels edges u known [] are = absurd are
  few_levels edges u known (level ∷ levels) are =
      let own : Contains (piece_of edges (ids_of rows) u) u =
      joined-piece edges (ids_of rows) u u known ([], refl) in
      let some = own.1 in
      elim are.1 [
        | inl last ↦
            let none : length levels ≡ 0 = ap length last.1 in
            let power : 2 ^ length levels ≡ 2 ^ 0 = ap (λ (n : ℕ). 2 ^ n) none in
            omega (arith, some, power, pow-suc 2 (length levels))
        | inr on ↦
            let rest = few_levels (next_edges (ids_of rows) edges) u known levels on.1 in
            let half = piece-halved (ids_of rows) edges u level.centroid known are.0.centroid on.0
            in
            omega (arith, rest, half, pow-suc 2 (length levels))
      ]

  -- there are at most one more than the logarithm of the number of nodes says
  pub few_of_tree : (u : ℕ) → Contains (ids_of rows) u → (edges : List Edge)
      → (levels : List CentroidLevel) → AreLevelsFrom rows edges u levels
      → 2 ^ length levels ≤ 2 * length rows
  few_of_tree u known edges levels are =
      let few = few_levels edges u known levels are in
      let kept = length-filter (are_together edges u) (ids_of rows) in
      let all = count_by-le-length (are_together edges u) (ids_of rows) in
      let many = length-map rows (λ (row : NodeRow). row.id) in
      omega (arith, few, kept, all, many)
