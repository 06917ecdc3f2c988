-- Two nodes that light edges join have one centroid on some level, and light edges alone on their
-- paths to it: that of the last piece that both are in lies between them.
use Rattle.std.proofs.Common.{◌≡◌, ◌∙◌, ℕ, ◌≤◌, inl, inr, suc, nat_le, true, List, [], ◌∷◌, slice_get, Contains, Some, refl, sym, ap, subst, arith}
use Rattle.std.proofs.lemmas.Bool.{cases_Bool, cases_eq, leb-true}
use Rattle.std.proofs.lemmas.Option.{same_Some}
use Rattle.pls_configuration.specs.declared.row.NodeRow.{NodeRow}
use Rattle.pls_configuration.specs.Configuration.{IsNetwork, ids_of}
use Rattle.pls_configuration.specs.Walk.{Edge, Adjacent, AreJoined, Joins, Walk, edges_of}
use Rattle.pls_graph.proofs.Joined.{AreJoined-adjacent, AreJoined-through, AreJoined-turned}
use Rattle.pls_graph.proofs.Members.{Contains-cons_cases, Contains-first, Contains-from_filter, Contains-from_place, Contains-later}
use Rattle.pls_facts.specs.Path.{IsPath}
use Rattle.pls_facts.specs.SpanningTree.{IsTree, pointed_edges}
use Rattle.pls_facts.specs.Weight.{edge_weight}
use Rattle.pls_facts.proofs.CycleRule.{no_heavier}
use Rattle.pls_facts.proofs.Distinct.{decide_Contains}
use Rattle.pls_facts.proofs.Paths.{Walk-among, path_of}
use Rattle.pls_facts.proofs.PointedEdges.{pointed_among}
use Rattle.pls_facts.proofs.PortEdges.{IsAtPort, ports_of_edge}
use Rattle.pls_facts.proofs.Weights.{port_weighs}
use Rattle.pls_centroid.specs.Centroid.{is_centroid, next_edges}
use Rattle.pls_centroid.specs.Levels.{AreLevelsFrom, IsCentroidLevelOf, greatest_along}
use Rattle.pls_centroid.specs.declared.level.CentroidLevel.{CentroidLevel}
use Rattle.pls_centroid.proofs.Mates.{one_path, path_inside}
use Rattle.pls_centroid.proofs.Pieces.{left-among, one_centroid, passes_centroid, walk-left}

-- a walk ends at one of its nodes
pub walk_ends : (edges : List Edge) (u v : ℕ) (nodes : List ℕ) → Walk edges u nodes v
    → Contains (u ∷ nodes) v
walk_ends edges u v [] same = subst (Contains (u ∷ [])) same (Contains-first u [])
walk_ends edges u v (x ∷ nodes) walk =
    Contains-later u (x ∷ nodes) v (walk_ends edges x v nodes walk.1)

-- a walk joins its ends through each of its nodes
pub joined_at : (edges : List Edge) (u v w : ℕ) (nodes : List ℕ) → Walk edges u nodes v
    → Contains (u ∷ nodes) w → AreJoined edges u w × AreJoined edges w v
joined_at edges u v w [] walk in' = elim (Contains-cons_cases u [] w in') [
  | inl same ↦ (([], same), ([], sym same ∙ walk))
  | inr none ↦ absurd (omega (arith, none.1))
]
joined_at edges u v w (x ∷ nodes) walk in' = elim (Contains-cons_cases u (x ∷ nodes) w in') [
  | inl same ↦
      (([], same), subst (λ (u : ℕ). AreJoined edges u v) same (x ∷ nodes, walk))
  | inr later ↦
      let rest : AreJoined edges x w × AreJoined edges w v =
      joined_at edges x v w nodes walk.1 later in
      (AreJoined-through edges u x w (AreJoined-adjacent edges u x walk.0) rest.0, rest.1)
]

-- on a level that both nodes have they have one centroid, and no greatest weight is above this
pub record MeetLightly (most : ℕ) (us vs : List CentroidLevel) : Type 0 where
  pub number : ℕ
  pub mine : CentroidLevel
  pub theirs : CentroidLevel
  pub at : slice_get us number ≡ Some mine
  pub there : slice_get vs number ≡ Some theirs
  pub same : mine.centroid ≡ theirs.centroid
  pub light : mine.greatest ≤ most
  pub also : theirs.greatest ≤ most

module _ (rows : List NodeRow) (net : IsNetwork rows) where
  -- the weight of an edge is what the network says of its ends
  pub edge_weighs : (edge : Edge) (u v : ℕ) → Contains (edges_of rows) edge → Joins edge u v
      → edge_weight rows u v ≡ edge.weight
  edge_weighs edge u v in' joins =
      let ports = ports_of_edge rows net edge in' in
      elim joins [
        | inl is ↦ ap (λ (u : ℕ). edge_weight rows u v) (sym is.0)
            ∙ ap (edge_weight rows edge.a) (sym is.1) ∙ by edge.a edge.b ports.0
        | inr is ↦ ap (λ (u : ℕ). edge_weight rows u v) (sym is.1)
            ∙ ap (edge_weight rows edge.b) (sym is.0) ∙ by edge.b edge.a ports.1
      ]
    where
      by : (u v : ℕ) → IsAtPort rows edge u v → edge_weight rows u v ≡ edge.weight
      by u v way =
          ap (λ (u : ℕ). edge_weight rows u v) (sym way.owner)
          ∙ ap (edge_weight rows way.row.id) (sym way.names)
          ∙ port_weighs rows net way.row way.port
          (Contains-from_place rows way.place way.row way.at)
          (Contains-from_place way.row.ports way.number way.port way.has)
          ∙ ap (λ (edge : Edge). edge.weight) way.is

  module _ (is_tree : IsTree rows) (most : ℕ) where
    abbrev tree : List Edge
    tree = pointed_edges rows

    abbrev light : List Edge
    light = no_heavier most tree

    -- light edges are edges of the tree
    light_among : (edge : Edge) → Contains light edge → Contains tree edge
    light_among edge in' =
        (Contains-from_filter (λ (edge : Edge). nat_le edge.weight most) tree edge in').0

    light_weighs : (u v : ℕ) → Adjacent light u v → edge_weight rows u v ≤ most
    light_weighs u v (edge, in', joins) =
        let found : Contains tree edge × (nat_le edge.weight most ≡ true) =
        Contains-from_filter (λ (edge : Edge). nat_le edge.weight most) tree edge in' in
        omega (
          arith,
          edge_weighs edge u v (pointed_among rows net edge found.0) joins,
          leb-true edge.weight most found.1,
        )

    -- so nothing along them is heavier
    light_along : (u v : ℕ) (nodes : List ℕ) → Walk light u nodes v
        → greatest_along rows u nodes ≤ most
    light_along u v [] walk = omega arith
    light_along u v (x ∷ nodes) walk =
        omega (arith, light_weighs u x walk.0, light_along x v nodes walk.1)

    -- a path along light edges is the one in the tree
    light_path : (u v : ℕ) (nodes : List ℕ) → IsPath light u nodes v → IsPath tree u nodes v
    light_path u v nodes is = record {
      walk = Walk-among light tree u v nodes is.walk (λ edge in' along. light_among edge in');
      distinct = is.distinct;
    }

    -- where they join a node to its centroid, its greatest is light
    level_light : (edges : List Edge) (u : ℕ) (level : CentroidLevel)
        → IsCentroidLevelOf rows edges u level → AreJoined light u level.centroid
        → level.greatest ≤ most
    level_light edges u level is (walked, walk) =
        let (path, leads) : (path : List ℕ) × IsPath light u path level.centroid =
        path_of light u level.centroid walked walk in
        let same : is.path ≡ path = one_path rows net is_tree u level.centroid is.path path
        is.leads (light_path u level.centroid path leads) in
        let here = is.greatest in
        omega (
          arith,
          here,
          ap (greatest_along rows u) same,
          light_along u level.centroid path leads.walk,
        )

    pub meet_lightly : (edges : List Edge)
        → ((edge : Edge) → Contains edges edge → Contains tree edge) → (u v : ℕ)
        → (us vs : List CentroidLevel) → AreLevelsFrom rows edges u us
        → AreLevelsFrom rows edges v vs → AreJoined edges u v → AreJoined light u v
        → MeetLightly most us vs
    meet_lightly edges among u v [] vs one other joined lightly = absurd one
    meet_lightly edges among u v (l ∷ us) [] one other joined lightly = absurd other
    meet_lightly edges among u v (l ∷ us) (m ∷ vs) one other joined lightly =
        by (path_of light u v lightly.0 lightly.1)
        (meet_lightly (next_edges (ids_of rows) edges) (λ edge in'.
        among edge (left-among (is_centroid edges (ids_of rows)) edges edge in')) u v us vs)
      where
        same : l.centroid ≡ m.centroid
        same = same_Some l.centroid m.centroid
            (sym one.0.centroid ∙ one_centroid edges (ids_of rows) u v joined ∙ other.0.centroid)

        -- where the centroid is on the path
        here : (path : List ℕ) → IsPath light u path v → Contains (u ∷ path) l.centroid
            → MeetLightly most (l ∷ us) (m ∷ vs)
        here path is on =
            let both : AreJoined light u l.centroid × AreJoined light l.centroid v =
            joined_at light u v l.centroid path is.walk on in
            record {
              number = 0;
              mine = l;
              theirs = m;
              at = refl;
              there = refl;
              same = same;
              light = level_light edges u l one.0 both.0;
              also = level_light edges v m other.0 (subst (AreJoined light v) same
                  (AreJoined-turned light l.centroid v both.1));
            }

        -- where it is not, the nodes are in one piece of the next level too
        onward : (path : List ℕ) → IsPath light u path v
            → (Contains (u ∷ path) l.centroid → ⊥)
            → AreJoined (next_edges (ids_of rows) edges) u v
        onward path is off =
            let inside : IsPath edges u path v = path_inside rows net is_tree edges among u v path
            joined (light_path u v path is) in (
              path,
              walk-left (is_centroid edges (ids_of rows)) edges u v path inside.walk
                  (λ w in'. elim (cases_Bool (is_centroid edges (ids_of rows) w)) [
                    | inr fails ↦ fails
                    | inl passes ↦ absurd (off (subst (Contains (u ∷ path))
                        (sym (passes_centroid edges (ids_of rows) u l.centroid w one.0.centroid
                        (joined_at edges u v w path inside.walk in').0 passes)) in'))
                  ]),
            )

        later : MeetLightly most us vs → MeetLightly most (l ∷ us) (m ∷ vs)
        later rest = record {
          number = suc rest.number;
          mine = rest.mine;
          theirs = rest.theirs;
          at = rest.at;
          there = rest.there;
          same = rest.same;
          light = rest.light;
          also = rest.also;
        }

        by : (path : List ℕ) × IsPath light u path v
            → (AreLevelsFrom rows (next_edges (ids_of rows) edges) u us
            → AreLevelsFrom rows (next_edges (ids_of rows) edges) v vs
            → AreJoined (next_edges (ids_of rows) edges) u v → AreJoined light u v
            → MeetLightly most us vs) → MeetLightly most (l ∷ us) (m ∷ vs)
        by (path, is) rest = elim (decide_Contains cases_eq (u ∷ path) l.centroid) [
          | inl on ↦ here path is on
          | inr off ↦ elim one.1 [
            | inl last ↦ absurd (off (subst (Contains (u ∷ path)) (sym last.0)
                (Contains-first u path)))
            | inr on ↦ elim other.1 [
              | inl last ↦ absurd (off (subst (Contains (u ∷ path)) (sym last.0 ∙ sym same)
                  (walk_ends light u v path is.walk)))
              | inr also ↦ later (rest on.1 also.1 (onward path is off) lightly)
            ]
          ]
        ]
