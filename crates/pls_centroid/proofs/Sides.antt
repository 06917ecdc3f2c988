-- The sides of an edge of a tree: what is left of a piece where one of its ends is taken away.
use Rattle.std.proofs.Common.{◌≡◌, ◌≢◌, ◌∙◌, ℕ, ◌+◌, ◌<◌, ◌≤◌, ◌==◌, inl, inr, Bool, true, false, List, [], ◌∷◌, length, Contains, refl, sym, ap, subst, arith}
use Rattle.std.proofs.lemmas.Bool.{eq-eqb, eqb-true, ne_eqb, true≢false}
use Rattle.pls_configuration.specs.declared.row.NodeRow.{NodeRow}
use Rattle.pls_configuration.specs.Configuration.{IsNetwork, ids_of}
use Rattle.pls_configuration.specs.Walk.{Edge, Adjacent, AreJoined, Walk, edges_of}
use Rattle.pls_graph.proofs.Joined.{Adjacent-turned, AreJoined-adjacent, AreJoined-through}
use Rattle.pls_graph.proofs.Members.{Contains-cons_cases, Contains-first, Contains-later}
use Rattle.pls_facts.specs.Classes.{class_of}
use Rattle.pls_facts.specs.Path.{IsPath}
use Rattle.pls_facts.specs.SpanningTree.{IsTree, pointed_edges}
use Rattle.pls_facts.proofs.Classes.{class-joined, joined-class}
use Rattle.pls_facts.proofs.Distinct.{AreDistinct-cons, AreDistinct-first}
use Rattle.pls_facts.proofs.Neighbours.{Leads, adjacent_known, leads, port_adjacent}
use Rattle.pls_facts.proofs.Paths.{IsPath-rest, Walk-among, path_of}
use Rattle.pls_facts.proofs.PointedEdges.{pointed_among}
use Rattle.pls_centroid.specs.Centroid.{are_together, edges_without, part_of, piece_of}
use Rattle.pls_centroid.proofs.Lightly.{joined_at}
use Rattle.pls_centroid.proofs.Mates.{one_path}
use Rattle.pls_centroid.proofs.Pieces.{adjacent-left, left-adjacent, left-among, left-joined, taken-alone, walk-left}
use Rattle.pls_centroid.proofs.Filters.{filter-apart, filter-less}

-- the test of a node that is taken away
abbrev pub is_node : ℕ → ℕ → Bool
is_node u w = w == u

-- a walk along what is left comes to nothing that is taken away
pub stays_left : (taken : ℕ → Bool) (edges : List Edge) (u v : ℕ) (nodes : List ℕ)
    → Walk (edges_without taken edges) u nodes v → taken u ≡ false → (w : ℕ)
    → Contains (u ∷ nodes) w → taken w ≡ false
stays_left taken edges u v [] walk is w in' = elim (Contains-cons_cases u [] w in') [
  | inl same ↦ ap taken (sym same) ∙ is
  | inr none ↦ absurd (omega (arith, none.1))
]
stays_left taken edges u v (x ∷ nodes) walk is w in' =
    elim (Contains-cons_cases u (x ∷ nodes) w in') [
      | inl same ↦ ap taken (sym same) ∙ is
      | inr later ↦ stays_left taken edges x v nodes walk.1
          (left-adjacent taken edges u x walk.0).2 w later
    ]

-- from a later node on, a path is a path, among its later nodes
pub path_from : (edges : List Edge) (u w v : ℕ) (nodes : List ℕ) → IsPath edges u nodes v
    → Contains nodes w → (rest : List ℕ) × IsPath edges w rest v
    × ((z : ℕ) → Contains (w ∷ rest) z → Contains nodes z)
path_from edges u w v [] is in' = absurd (omega (arith, in'.1))
path_from edges u w v (x ∷ nodes) is in' = elim (Contains-cons_cases x nodes w in') [
  | inl same ↦ subst (λ (w : ℕ). (rest : List ℕ) × IsPath edges w rest v
      × ((z : ℕ) → Contains (w ∷ rest) z → Contains (x ∷ nodes) z)) same
      (nodes, IsPath-rest edges u x v nodes is, λ z in'. in')
  | inr later ↦
      let (rest, leads, among) : (rest : List ℕ) × IsPath edges w rest v
      × ((z : ℕ) → Contains (w ∷ rest) z → Contains nodes z) =
      path_from edges x w v nodes (IsPath-rest edges u x v nodes is) later in
      (rest, leads, λ z in'. Contains-later x nodes z (among z in'))
]

module _ (rows : List NodeRow) (net : IsNetwork rows) (is_tree : IsTree rows) (edges : List Edge)
    (among : (edge : Edge) → Contains edges edge → Contains (pointed_edges rows) edge) where
  abbrev nodes : List ℕ
  nodes = ids_of rows

  abbrev tree : List Edge
  tree = pointed_edges rows

  abbrev left : ℕ → List Edge
  left u = edges_without (is_node u) edges

  abbrev part : ℕ → ℕ → List ℕ
  part u x = part_of edges nodes u x

  abbrev piece : ℕ → List ℕ
  piece u = piece_of edges nodes u

  pub in_network : (u v : ℕ) → Adjacent edges u v → Adjacent (edges_of rows) u v
  in_network u v (edge, in', joins) = (edge, pointed_among rows net edge (among edge in'), joins)

  pub in_tree : (u v : ℕ) → Adjacent edges u v → Adjacent tree u v
  in_tree u v (edge, in', joins) = (edge, among edge in', joins)

  -- adjacent nodes differ, and are nodes
  pub differ : (u v : ℕ) → Adjacent edges u v → u ≢ v
  differ u v adjacent same =
      let way : Leads rows u v = leads rows net u v (in_network u v adjacent) in
      (port_adjacent rows net way.row way.port way.in' way.has).1
      (way.owner ∙ same ∙ sym way.names)

  pub known_beside : (u v : ℕ) → Adjacent edges u v → Contains nodes v
  known_beside u v adjacent = adjacent_known rows net u v (in_network u v adjacent)

  -- a path along what is left is a path in the tree
  pub left_path : (u v w : ℕ) (path : List ℕ) → IsPath (left u) v path w → IsPath tree v path w
  left_path u v w path is = record {
    walk = Walk-among (left u) tree v w path is.walk
        (λ edge in' along. among edge (left-among (is_node u) edges edge in'));
    distinct = is.distinct;
  }

  -- a neighbour through which a node is reached
  pub record IsToward (u z : ℕ) : Type 0 where
    pub next : ℕ
    pub adjacent : Adjacent edges u next
    pub onward : AreJoined (left u) next z

  pub toward : (u z : ℕ) → AreJoined edges u z → z ≢ u → IsToward u z
  toward u z (walked, walk) apart = by (path_of edges u z walked walk)
    where
      by : (path : List ℕ) × IsPath edges u path z → IsToward u z
      by ([], is) = absurd (apart (sym is.walk))
      by (x ∷ path, is) = record {
        next = x;
        adjacent = is.walk.0;
        onward = (
          path,
          walk-left (is_node u) edges x z path is.walk.1 (λ w in'. ne_eqb w u (λ same.
              AreDistinct-first u (x ∷ path) is.distinct (subst (Contains (x ∷ path)) same in'))),
        );
      }

  -- the two sides of an edge have no node in common
  pub sides_apart : (v x w : ℕ) → Adjacent edges v x → AreJoined (left v) x w
      → AreJoined (left x) v w
      → ⊥
  sides_apart v x w adjacent (walked, walk) (others, also) =
      by (path_of (left v) x w walked walk) (path_of (left x) v w others also)
    where
      by : (path : List ℕ) × IsPath (left v) x path w → (path : List ℕ) × IsPath (left x) v path w
          → ⊥
      by (path, is) (other, on) =
          let off : (is_node x v) ≡ false = ne_eqb v x (differ v x adjacent) in
          let away : (is_node v x) ≡ false = ne_eqb x v (λ e. differ v x adjacent (sym e)) in
          let around : IsPath tree x (v ∷ other) w = record {
            walk = (
              in_tree x v (Adjacent-turned edges v x adjacent),
              (left_path x v w other on).walk,
            );
            distinct = AreDistinct-cons x (v ∷ other) (λ in'. true≢false
                (sym (eq-eqb x x refl) ∙ stays_left (is_node x) edges v w other on.walk off x in'))
                on.distinct;
          } in
          let same : path ≡ v ∷ other = one_path rows net is_tree x w path (v ∷ other)
          (left_path v x w path is) around in
          true≢false (sym (eq-eqb v v refl) ∙ stays_left (is_node v) edges x w path is.walk away v
          (Contains-later x path v (subst (λ (path : List ℕ). Contains path v) (sym same)
          (Contains-first v other))))

  -- so together they are no more than the piece
  pub sides_few : (v x : ℕ) → Adjacent edges v x
      → length (part v x) + length (part x v) ≤ length (piece v)
  sides_few v x adjacent = filter-apart (are_together (left v) x) (are_together (left x) v)
      (are_together edges v) nodes
      (λ w in' passes. together w (AreJoined-through edges v x w
      (AreJoined-adjacent edges v x adjacent)
      (left-joined (is_node v) edges x w (joined (left v) x w passes))))
      (λ w in' passes. together w (left-joined (is_node x) edges v w (joined (left x) v w passes)))
      (λ w in' one other. sides_apart v x w adjacent (joined (left v) x w one)
      (joined (left x) v w other))
    where
      joined : (edges : List Edge) (u w : ℕ) → are_together edges u w ≡ true → AreJoined edges u w
      joined edges u w passes =
          joined-class edges u w (eqb-true (class_of edges u) (class_of edges w) passes)

      together : (w : ℕ) → AreJoined edges v w → are_together edges v w ≡ true
      together w joined =
          eq-eqb (class_of edges v) (class_of edges w) (class-joined edges v w joined)

  -- and a part of x that v is not in is smaller than the side of x
  pub part_less : (v x y : ℕ) → Adjacent edges v x → Adjacent edges x y
      → (AreJoined (left x) y v → ⊥) → length (part x y) < length (part v x)
  part_less v x y adjacent onward apart =
      filter-less (are_together (left x) y) (are_together (left v) x) nodes x
      (λ w in' passes. eq-eqb (class_of (left v) x) (class_of (left v) w)
      (class-joined (left v) x w (around w (joined-class (left x) y w
      (eqb-true (class_of (left x) y) (class_of (left x) w) passes)))))
      (known_beside v x adjacent)
      (ne_eqb (class_of (left x) y) (class_of (left x) x) (λ same.
      differ x y onward (taken-alone (is_node x) edges x y (eq-eqb x x refl)
      (joined-class (left x) x y (sym same)))))
      (eq-eqb (class_of (left v) x) (class_of (left v) x) refl)
    where
      not_v : (w : ℕ) (nodes : List ℕ) → Walk (left x) y nodes w → (z : ℕ)
          → Contains (y ∷ nodes) z → is_node v z ≡ false
      not_v w nodes walk z in' = ne_eqb z v (λ same.
          apart (subst (AreJoined (left x) y) same (joined_at (left x) y w z nodes walk in').0))

      around : (w : ℕ) → AreJoined (left x) y w → AreJoined (left v) x w
      around w (nodes, walk) = AreJoined-through (left v) x y w
          (AreJoined-adjacent (left v) x y (adjacent-left (is_node v) edges x y onward
          (ne_eqb x v (λ e. differ v x adjacent (sym e)))
          (ne_eqb y v (λ same. apart ([], same))))) (
            nodes,
            walk-left (is_node v) edges y w nodes
                (Walk-among (left x) edges y w nodes walk
                (λ edge in' along. left-among (is_node x) edges edge in'))
                (not_v w nodes walk),
          )
