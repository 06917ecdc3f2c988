-- Pieces: which nodes are in them, that nodes of one piece have one centroid, and what is left when
-- nodes are taken away.
use Rattle.std.proofs.Common.{◌≡◌, ◌≢◌, ◌∙◌, ℕ, ◌==◌, ◌≤◌, ◌*◌, inl, inr, nat_le, Bool, true, false, not, ◌||◌, List, [], ◌∷◌, length, find, slice_get, Contains, Option, Some, refl, sym, ap}
use Rattle.std.specs.List.{filter}
use Rattle.std.specs.Option.{option_map_or}
use Rattle.std.proofs.lemmas.Bool.{eq-eqb, eqb-true, leb-true, or_cases, true≢false}
use Rattle.pls_configuration.specs.Walk.{Edge, Adjacent, AreJoined, Walk}
use Rattle.pls_graph.proofs.Finds.{found_place}
use Rattle.pls_graph.proofs.Members.{Contains-filter, Contains-first, Contains-from_filter, Contains-from_place, Contains-later}
use Rattle.pls_facts.specs.Classes.{class_of}
use Rattle.pls_facts.proofs.Classes.{class-joined, joined-class}
use Rattle.pls_facts.proofs.Lists.{each_passes}
use Rattle.pls_facts.proofs.Paths.{AreJoined-among}
use Rattle.pls_centroid.specs.Centroid.{are_together, centroid_of, edges_without, is_central, is_centroid, part_of, piece_of}

module _ (edges : List Edge) (nodes : List ℕ) where
  -- a node of the piece of u is a node that is joined to u, and the other way round
  pub piece-joined : (u v : ℕ) → Contains (piece_of edges nodes u) v
      → Contains nodes v × AreJoined edges u v
  piece-joined u v in' =
      let found : Contains nodes v × (are_together edges u v ≡ true) =
      Contains-from_filter (are_together edges u) nodes v in' in
      (found.0, joined-class edges u v (eqb-true (class_of edges u) (class_of edges v) found.1))

  pub joined-piece : (u v : ℕ) → Contains nodes v → AreJoined edges u v
      → Contains (piece_of edges nodes u) v
  joined-piece u v in' joined = Contains-filter (are_together edges u) nodes v in'
      (eq-eqb (class_of edges u) (class_of edges v) (class-joined edges u v joined))

  -- nodes that are joined are in one piece
  pub one_piece : (u v : ℕ) → AreJoined edges u v → piece_of edges nodes u ≡ piece_of edges nodes v
  one_piece u v joined = ap (λ (class : ℕ). filter (λ w. class == class_of edges w) nodes)
      (class-joined edges u v joined)

  -- which has one centroid
  pub one_centroid : (u v : ℕ) → AreJoined edges u v
      → centroid_of edges nodes u ≡ centroid_of edges nodes v
  one_centroid u v joined = ap (find (is_central edges nodes)) (one_piece u v joined)

  -- the centroid is a node of the piece, and is central
  pub centroid_known : (u c : ℕ) → centroid_of edges nodes u ≡ Some c
      → Contains nodes c × AreJoined edges u c × (is_central edges nodes c ≡ true)
  centroid_known u c is =
      let (place, at, passes) : (place : ℕ) × (slice_get (piece_of edges nodes u) place ≡ Some c)
      × (is_central edges nodes c ≡ true) =
      found_place (is_central edges nodes) (piece_of edges nodes u) c is in
      let both : Contains nodes c × AreJoined edges u c =
      piece-joined u c (Contains-from_place (piece_of edges nodes u) place c at) in
      (both.0, both.1, passes)

  -- the test of a centroid
  pub centroid_passes : (u c : ℕ) → centroid_of edges nodes u ≡ Some c
      → is_centroid edges nodes c ≡ true
  centroid_passes u c is =
      let known = centroid_known u c is in
      let own : centroid_of edges nodes c ≡ Some c = sym (one_centroid u c known.1) ∙ is in
      ap (λ (found : Option ℕ). option_map_or (λ centroid. centroid == c) found false) own
      ∙ eq-eqb c c refl

  -- of the nodes of a piece only its centroid passes
  pub passes_centroid : (u c v : ℕ) → centroid_of edges nodes u ≡ Some c → AreJoined edges u v
      → is_centroid edges nodes v ≡ true → c ≡ v
  passes_centroid u c v is joined passes =
      let own : centroid_of edges nodes v ≡ Some c = sym (one_centroid u v joined) ∙ is in
      eqb-true c v
      (sym (ap (λ (found : Option ℕ). option_map_or (λ centroid. centroid == v) found false) own)
      ∙ passes)

  -- without a central node each other node of its piece is in a part of at most half
  pub central-part : (c v : ℕ) → is_central edges nodes c ≡ true
      → Contains (piece_of edges nodes c) v → v ≢ c
      → 2 * length (part_of edges nodes c v) ≤ length (piece_of edges nodes c)
  central-part c v central in' apart =
      let test : ℕ → Bool = λ v. v == c || nat_le (2 * length (part_of edges nodes c v))
      (length (piece_of edges nodes c)) in
      let passes : test v ≡ true = each_passes test (piece_of edges nodes c) central v in' in
      elim (or_cases (v == c) (nat_le (2 * length (part_of edges nodes c v))
      (length (piece_of edges nodes c))) passes) [
        | inl same ↦ absurd (apart (eqb-true v c same))
        | inr few ↦ leb-true (2 * length (part_of edges nodes c v))
            (length (piece_of edges nodes c)) few
      ]

module _ (taken : ℕ → Bool) (edges : List Edge) where
  -- what is left is among the edges, and no end of it is taken away
  pub left-among : (edge : Edge) → Contains (edges_without taken edges) edge
      → Contains edges edge
  left-among edge in' = (Contains-from_filter
      (λ (edge : Edge). not (taken edge.a || taken edge.b)) edges edge in').0

  pub left-ends : (edge : Edge) → Contains (edges_without taken edges) edge
      → (taken edge.a ≡ false) × (taken edge.b ≡ false)
  left-ends edge in' = by (taken edge.a) (taken edge.b) (Contains-from_filter
      (λ (edge : Edge). not (taken edge.a || taken edge.b)) edges edge in').1
    where
      by : (a b : Bool) → not (a || b) ≡ true → (a ≡ false) × (b ≡ false)
      by true b passes = absurd (cc)
      by false true passes = absurd (cc)
      by false false passes = (refl, refl)

  -- an edge stays of which no end is taken away
  pub left-stays : (edge : Edge) → Contains edges edge → taken edge.a ≡ false
      → taken edge.b ≡ false → Contains (edges_without taken edges) edge
  left-stays edge in' a b = Contains-filter
      (λ (edge : Edge). not (taken edge.a || taken edge.b)) edges edge in' (rw (a, b) refl)

  -- adjacent nodes are adjacent in the whole, and not taken away
  pub left-adjacent : (u v : ℕ) → Adjacent (edges_without taken edges) u v
      → Adjacent edges u v × (taken u ≡ false) × (taken v ≡ false)
  left-adjacent u v (edge, in', joins) =
      let ends = left-ends edge in' in (
        (edge, left-among edge in', joins),
        elim joins [
          | inl is ↦ ap taken (sym is.0) ∙ ends.0
          | inr is ↦ ap taken (sym is.1) ∙ ends.1
        ],
        elim joins [
          | inl is ↦ ap taken (sym is.1) ∙ ends.1
          | inr is ↦ ap taken (sym is.0) ∙ ends.0
        ],
      )

  -- adjacent nodes of which none is taken away stay adjacent
  pub adjacent-left : (u v : ℕ) → Adjacent edges u v → taken u ≡ false → taken v ≡ false
      → Adjacent (edges_without taken edges) u v
  adjacent-left u v (edge, in', joins) u_stays v_stays = (
    edge,
    elim joins [
      | inl is ↦ left-stays edge in' (ap taken is.0 ∙ u_stays) (ap taken is.1 ∙ v_stays)
      | inr is ↦ left-stays edge in' (ap taken is.0 ∙ v_stays) (ap taken is.1 ∙ u_stays)
    ],
    joins,
  )

  -- nodes that what is left joins are joined
  pub left-joined : (u v : ℕ) → AreJoined (edges_without taken edges) u v → AreJoined edges u v
  left-joined = AreJoined-among (edges_without taken edges) edges left-among

  -- a node that is taken away is joined to itself alone
  pub taken-alone : (u v : ℕ) → taken u ≡ true → AreJoined (edges_without taken edges) u v → u ≡ v
  taken-alone u v is ([], same) = same
  taken-alone u v is (x ∷ nodes, walk) =
      absurd (true≢false (sym is ∙ (left-adjacent u x walk.0).1))

  -- a walk stays where none of its nodes is taken away
  pub walk-left : (u v : ℕ) (nodes : List ℕ) → Walk edges u nodes v
      → ((w : ℕ) → Contains (u ∷ nodes) w → taken w ≡ false)
      → Walk (edges_without taken edges) u nodes v
  walk-left u v [] walk stays = walk
  walk-left u v (x ∷ nodes) walk stays = (
    adjacent-left u x walk.0 (stays u (Contains-first u (x ∷ nodes)))
        (stays x (Contains-later u (x ∷ nodes) x (Contains-first x nodes))),
    walk-left x v nodes walk.1 (λ w in'. stays w (Contains-later u (x ∷ nodes) w in')),
  )
