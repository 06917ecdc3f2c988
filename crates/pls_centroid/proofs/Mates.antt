-- The levels of nodes that are in one piece: they go as far, name one centroid, and lead on to it
-- along the tree.
use Rattle.std.proofs.Common.{◌≡◌, ◌≢◌, ◌∙◌, ℕ, zero, suc, ◌+◌, ◌≤◌, ◌⊎◌, inl, inr, true, List, [], ◌∷◌, length, slice_get, Contains, Some, None, refl, sym, ap, subst, arith}
use Rattle.std.proofs.lemmas.Option.{same_Some}
use Rattle.pls_configuration.specs.declared.row.NodeRow.{NodeRow}
use Rattle.pls_configuration.specs.Configuration.{IsNetwork, ids_of}
use Rattle.pls_configuration.specs.Walk.{Edge, Adjacent, AreJoined, edges_of}
use Rattle.pls_graph.proofs.Joined.{AreJoined-adjacent}
use Rattle.pls_facts.specs.Path.{IsPath}
use Rattle.pls_facts.specs.SpanningTree.{IsTree, pointed_edges}
use Rattle.pls_facts.specs.Weight.{edge_weight}
use Rattle.pls_facts.proofs.OneWalk.{IsPath-one}
use Rattle.pls_facts.proofs.Paths.{AreJoined-among, IsPath-rest, Walk-among, path_of}
use Rattle.pls_facts.proofs.PortEdges.{IsGraph-network}
use Rattle.pls_centroid.specs.Centroid.{centroid_of, is_centroid, next_edges}
use Rattle.pls_centroid.specs.Levels.{AreLevelsFrom, IsCentroidLevelOf, greatest_along}
use Rattle.pls_centroid.specs.declared.level.CentroidLevel.{CentroidLevel}
use Rattle.pls_centroid.proofs.Pieces.{centroid_known, centroid_passes, left-among, one_centroid, taken-alone}

module _ (rows : List NodeRow) where
  abbrev nodes : List ℕ
  nodes = ids_of rows

  -- the edges that hold the pieces of a level together, by its number, from these on
  abbrev pub edges_at : List Edge → ℕ → List Edge
  edges_at edges zero = edges
  edges_at edges (suc number) = edges_at (next_edges nodes edges) number

  -- they are among the first
  pub at-among : (edges : List Edge) (number : ℕ) (edge : Edge)
      → Contains (edges_at edges number) edge → Contains edges edge
  at-among edges zero edge in' = in'
  at-among edges (suc number) edge in' = left-among (is_centroid edges nodes) edges edge
      (at-among (next_edges nodes edges) number edge in')

  -- each of the levels is one of those edges
  pub level-at : (edges : List Edge) (u : ℕ) (levels : List CentroidLevel)
      → AreLevelsFrom rows edges u levels → (number : ℕ) (level : CentroidLevel)
      → slice_get levels number ≡ Some level → IsCentroidLevelOf rows (edges_at edges number) u level
  level-at edges u [] are number level at = absurd are
  level-at edges u (first ∷ levels) are zero level at =
      subst (IsCentroidLevelOf rows edges u) (same_Some first level at) are.0
  level-at edges u (first ∷ levels) are (suc number) level at = elim are.1 [
    | inl last ↦
        let none : None ≡ Some level =
        sym (ap (λ (levels : List CentroidLevel). slice_get levels number) last.1) ∙ at in
        absurd (cc)
    | inr on ↦ level-at (next_edges nodes edges) u levels on.1 number level at
  ]

  -- a centroid has no levels behind that on which it is one: it is joined to no other node there
  stops : (edges : List Edge) (x u : ℕ) (m l : CentroidLevel) → IsCentroidLevelOf rows edges x m
      → IsCentroidLevelOf rows edges u l → m.centroid ≡ x → l.centroid ≢ u
      → AreJoined (next_edges nodes edges) x u → ⊥
  stops edges x u m l mine theirs own apart joined =
      let passes : is_centroid edges nodes x ≡ true =
      subst (λ (w : ℕ). is_centroid edges nodes w ≡ true) own
      (centroid_passes edges nodes x m.centroid mine.centroid) in
      let same : x ≡ u = taken-alone (is_centroid edges nodes) edges x u passes joined in
      let one : l.centroid ≡ m.centroid = same_Some l.centroid m.centroid
      (sym theirs.centroid ∙ ap (centroid_of edges nodes) (sym same) ∙ mine.centroid) in
      apart (one ∙ own ∙ same)

  -- where a node has a level, so has each node of its piece
  pub goes_as_far : (edges : List Edge) (u x : ℕ) (us xs : List CentroidLevel)
      → AreLevelsFrom rows edges u us → AreLevelsFrom rows edges x xs → (number : ℕ)
      (level : CentroidLevel) → slice_get us number ≡ Some level
      → AreJoined (edges_at edges number) x u
      → (other : CentroidLevel) × (slice_get xs number ≡ Some other)
  goes_as_far edges u x us [] one other number level at joined = absurd other
  goes_as_far edges u x [] (m ∷ xs) one other number level at joined = absurd one
  goes_as_far edges u x (l ∷ us) (m ∷ xs) one other zero level at joined = (m, refl)
  goes_as_far edges u x (l ∷ us) (m ∷ xs) one other (suc number) level at joined = elim one.1 [
    | inl last ↦
        let none : None ≡ Some level =
        sym (ap (λ (levels : List CentroidLevel). slice_get levels number) last.1) ∙ at in
        absurd (cc)
    | inr on ↦ elim other.1 [
      | inr also ↦ goes_as_far (next_edges nodes edges) u x us xs on.1 also.1 number level at joined
      | inl ends ↦ absurd (stops edges x u m l other.0 one.0 ends.0 on.0
          (AreJoined-among (edges_at (next_edges nodes edges) number) (next_edges nodes edges)
          (at-among (next_edges nodes edges) number) x u joined))
    ]
  ]

  -- the node at the next step of a node's path to its centroid, and what a level has there
  pub record IsStepOn (edges : List Edge) (u : ℕ) (level : CentroidLevel) : Type 0 where
    pub next : ℕ
    pub adjacent : Adjacent edges u next
    pub light : edge_weight rows u next ≤ level.greatest
    pub leads : (other : CentroidLevel) → IsCentroidLevelOf rows edges next other
        → (other.centroid ≡ level.centroid) × (level.hops ≡ other.hops + 1)
        × (other.greatest ≤ level.greatest)

  module _ (net : IsNetwork rows) (is_tree : IsTree rows) where
    abbrev tree : List Edge
    tree = pointed_edges rows

    -- paths in the tree between the same nodes are one
    pub one_path : (u v : ℕ) (one other : List ℕ) → IsPath tree u one v → IsPath tree u other v
        → one ≡ other
    one_path = IsPath-one (edges_of rows) tree nodes is_tree.spanning
        (IsGraph-network rows net).distinct

    module _ (edges : List Edge)
        (among : (edge : Edge) → Contains edges edge → Contains tree edge) where
      -- a path in the tree between nodes of a piece stays in it
      pub path_inside : (u v : ℕ) (path : List ℕ) → AreJoined edges u v → IsPath tree u path v
          → IsPath edges u path v
      path_inside u v path (walked, walk) is =
          let (inside, leads) : (path : List ℕ) × IsPath edges u path v =
          path_of edges u v walked walk in
          let same : inside ≡ path = one_path u v inside path (record {
            walk = Walk-among edges tree u v inside leads.walk (λ edge in' along. among edge in');
            distinct = leads.distinct;
          }) is in
          subst (λ (path : List ℕ). IsPath edges u path v) same leads

      -- a node is its centroid, without a hop, or the next node leads on
      pub step_on : (u : ℕ) (level : CentroidLevel) → IsCentroidLevelOf rows edges u level
          → ((level.hops ≡ 0) × (level.centroid ≡ u)) ⊎ IsStepOn edges u level
      step_on u level is = by is.path is.hops is.greatest is.leads
        where
          joined : AreJoined edges u level.centroid
          joined = (centroid_known edges nodes u level.centroid is.centroid).1

          by : (path : List ℕ) → level.hops ≡ length path
              → level.greatest ≡ greatest_along rows u path
              → IsPath tree u path level.centroid
              → ((level.hops ≡ 0) × (level.centroid ≡ u)) ⊎ IsStepOn edges u level
          by [] hops greatest leads = inl (hops, sym leads.walk)
          by (x ∷ path) hops greatest leads =
              let inside : IsPath edges u (x ∷ path) level.centroid =
              path_inside u level.centroid (x ∷ path) joined leads in
              inr (record {
                next = x;
                adjacent = inside.walk.0;
                light = omega (arith, greatest);
                leads = λ other also.
                    let same : other.centroid ≡ level.centroid =
                    same_Some other.centroid level.centroid (sym also.centroid
                    ∙ sym (one_centroid edges nodes u x
                    (AreJoined-adjacent edges u x inside.walk.0)) ∙ is.centroid) in
                    let rest : also.path ≡ path =
                    one_path x level.centroid also.path path
                    (subst (IsPath tree x also.path) same also.leads)
                    (IsPath-rest tree u x level.centroid path leads) in
                    let long : length also.path ≡ length path = ap length rest in
                    let heavy : greatest_along rows x also.path ≡ greatest_along rows x path =
                    ap (greatest_along rows x) rest in
                    let their_hops = also.hops in
                    let their_greatest = also.greatest in (
                      same,
                      omega (arith, hops, long, their_hops),
                      omega (arith, greatest, heavy, their_greatest),
                    );
              })
