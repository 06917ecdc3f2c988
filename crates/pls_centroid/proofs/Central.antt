-- Each piece of a tree has a centroid: from a node that leaves a part of more than half, step into
-- that part; the parts of more than half get smaller, so one node leaves none (Jordan 1869).
use Rattle.std.proofs.Common.{◌≡◌, ◌≢◌, ◌∙◌, ℕ, zero, suc, ◌+◌, ◌*◌, ◌<◌, ◌≤◌, ◌==◌, ◌⊎◌, inl, inr, nat_le, Bool, true, false, ◌||◌, List, [], ◌∷◌, length, slice_get, Contains, Option, Some, None, refl, sym, ap, subst, arith}
use Rattle.std.proofs.lemmas.Bool.{cases_Bool, cases_eq, eq-eqb, eqb-true, eqb-false, leb-false, ne_eqb, true≢false}
use Rattle.pls_configuration.specs.declared.row.NodeRow.{NodeRow}
use Rattle.pls_configuration.specs.Configuration.{IsNetwork, ids_of}
use Rattle.pls_configuration.specs.Walk.{Edge, Adjacent, AreJoined}
use Rattle.pls_graph.proofs.Finds.{fails_where_none}
use Rattle.pls_graph.proofs.Joined.{AreJoined-adjacent, AreJoined-through}
use Rattle.pls_graph.proofs.Members.{Contains-cons_cases, place_from_Contains}
use Rattle.pls_facts.specs.Classes.{class_of}
use Rattle.pls_facts.specs.Path.{IsPath}
use Rattle.pls_facts.specs.SpanningTree.{IsTree, pointed_edges}
use Rattle.pls_facts.proofs.Classes.{class-joined, joined-class}
use Rattle.pls_facts.proofs.Distinct.{AreDistinct-first, decide_Contains}
use Rattle.pls_facts.proofs.Neighbours.{leads}
use Rattle.pls_facts.proofs.Paths.{path_of}
use Rattle.pls_centroid.specs.Centroid.{are_together, centroid_of, edges_without, is_central, part_of, piece_of}
use Rattle.pls_centroid.proofs.Pieces.{central-part, joined-piece, one_piece, piece-joined, walk-left}
use Rattle.pls_centroid.proofs.Filters.{filter-cover, some_fails}
use Rattle.pls_centroid.proofs.Sides as sides
use Rattle.pls_centroid.proofs.Sides.{path_from, is_node}

module _ (rows : List NodeRow) (net : IsNetwork rows) (is_tree : IsTree rows) (edges : List Edge)
    (among : (edge : Edge) → Contains edges edge → Contains (pointed_edges rows) edge) where
  abbrev nodes : List ℕ
  nodes = ids_of rows

  abbrev tree : List Edge
  tree = pointed_edges rows

  abbrev left : ℕ → List Edge
  left u = edges_without (is_node u) edges

  abbrev part : ℕ → ℕ → List ℕ
  part u x = part_of edges nodes u x

  abbrev piece : ℕ → List ℕ
  piece u = piece_of edges nodes u

  differ : (u v : ℕ) → Adjacent edges u v → u ≢ v
  differ = sides.differ rows net is_tree edges among

  known_beside : (u v : ℕ) → Adjacent edges u v → Contains nodes v
  known_beside = sides.known_beside rows net is_tree edges among

  toward : (u z : ℕ) → AreJoined edges u z → z ≢ u → sides.IsToward rows net is_tree edges among u z
  toward = sides.toward rows net is_tree edges among

  sides_few : (v x : ℕ) → Adjacent edges v x
      → length (part v x) + length (part x v) ≤ length (piece v)
  sides_few = sides.sides_few rows net is_tree edges among

  part_less : (v x y : ℕ) → Adjacent edges v x → Adjacent edges x y
      → (AreJoined (left x) y v → ⊥) → length (part x y) < length (part v x)
  part_less = sides.part_less rows net is_tree edges among

  -- a node whose removal leaves more than half of the piece beyond an edge
  pub record IsHeavySide (v x : ℕ) : Type 0 where
    pub adjacent : Adjacent edges v x
    pub heavy : length (piece v) < 2 * length (part v x)

  -- a node that is not central has such a side
  heavy_side : (u : ℕ) → is_central edges nodes u ≡ false → (x : ℕ) × IsHeavySide u x
  heavy_side u fails =
      let test : ℕ → Bool = λ v. v == u || nat_le (2 * length (part u v)) (length (piece u)) in
      let (z, in', off) : (z : ℕ) × Contains (piece u) z × (test z ≡ false) =
      some_fails test (piece u) fails in
      by z (piece-joined edges nodes u z in').1 (parts (z == u)
      (nat_le (2 * length (part u z)) (length (piece u))) off)
    where
      parts : (a b : Bool) → (a || b) ≡ false → (a ≡ false) × (b ≡ false)
      parts true b is = absurd (cc)
      parts false b is = (refl, is)

      by : (z : ℕ) → AreJoined edges u z → ((z == u) ≡ false)
          × (nat_le (2 * length (part u z)) (length (piece u)) ≡ false)
          → (x : ℕ) × IsHeavySide u x
      by z joined (apart, more) =
          let way : sides.IsToward rows net is_tree edges among u z = toward u z joined
          (eqb-false z u apart) in
          let same : length (part u way.next) ≡ length (part u z) =
          ap length (one_piece (left u) nodes way.next z way.onward) in (
            way.next,
            record {
              adjacent = way.adjacent;
              heavy = omega (
                arith,
                same,
                leb-false (2 * length (part u z)) (length (piece u)) more,
              );
            },
          )

  -- a node of the piece is on one of the sides
  pub on_a_side : (v x w : ℕ) → Adjacent edges v x → AreJoined edges v w
      → AreJoined (left v) x w ⊎ AreJoined (left x) v w
  on_a_side v x w adjacent (walked, walk) = by (path_of edges v w walked walk)
    where
      by : (path : List ℕ) × IsPath edges v path w → AreJoined (left v) x w ⊎ AreJoined (left x) v w
      by (path, is) = elim (decide_Contains cases_eq (v ∷ path) x) [
        | inr off ↦ inr (
          path,
          walk-left (is_node x) edges v w path is.walk
              (λ z in'. ne_eqb z x (λ same. off (subst (Contains (v ∷ path)) same in'))),
        )
        | inl on ↦ elim (Contains-cons_cases v path x on) [
          | inl same ↦ absurd (differ v x adjacent same)
          | inr later ↦
              let (rest, leads, among') : (rest : List ℕ) × IsPath edges x rest w
              × ((z : ℕ) → Contains (x ∷ rest) z → Contains path z) =
              path_from edges v x w path is later in
              inl (
                rest,
                walk-left (is_node v) edges x w rest leads.walk (λ z in'. ne_eqb z v (λ same.
                    AreDistinct-first v path is.distinct
                    (subst (Contains path) same (among' z in')))),
              )
        ]
      ]

  -- what both sides have together is the piece
  pub sides_many : (v x : ℕ) → Adjacent edges v x
      → length (part v x) + length (part x v) ≡ length (piece v)
  sides_many v x adjacent =
      let few = sides_few v x adjacent in
      let many = filter-cover (are_together (left v) x) (are_together (left x) v)
      (are_together edges v) nodes (λ w in' passes. elim (on_a_side v x w adjacent
      (joined-class edges v w (eqb-true (class_of edges v) (class_of edges w) passes))) [
        | inl there ↦ inl (eq-eqb (class_of (left v) x) (class_of (left v) w)
            (class-joined (left v) x w there))
        | inr here ↦ inr (eq-eqb (class_of (left x) v) (class_of (left x) w)
            (class-joined (left x) v w here))
      ]) in
      omega (arith, few, many)

  -- a node is central where the side beyond each of its neighbours is at most half
  pub central_by_sides : (v : ℕ)
      → ((x : ℕ) → Adjacent edges v x → 2 * length (part v x) ≤ length (piece v))
      → is_central edges nodes v ≡ true
  central_by_sides v few = elim (cases_Bool (is_central edges nodes v)) [
    | inl central ↦ central
    | inr fails ↦
        let (x, side) : (x : ℕ) × IsHeavySide v x = heavy_side v fails in
        let heavy = side.heavy in
        absurd (omega (arith, heavy, few x side.adjacent))
  ]

  -- and only then
  pub central_side : (v x : ℕ) → is_central edges nodes v ≡ true → Adjacent edges v x
      → 2 * length (part v x) ≤ length (piece v)
  central_side v x central adjacent = central-part edges nodes v x central
      (joined-piece edges nodes v x (known_beside v x adjacent)
      (AreJoined-adjacent edges v x adjacent)) (λ same. differ v x adjacent (sym same))

  -- from a heavy side on there is a central node
  central_beyond : (count v x : ℕ) → IsHeavySide v x → length (part v x) ≤ count
      → (c : ℕ) × Contains nodes c × AreJoined edges v c × (is_central edges nodes c ≡ true)
  central_beyond zero v x side few = let heavy = side.heavy in absurd (omega (arith, heavy, few))
  central_beyond (suc count) v x side few =
      elim (cases_Bool (is_central edges nodes x)) [
        | inl central ↦ (
          x,
          known_beside v x side.adjacent,
          AreJoined-adjacent edges v x side.adjacent,
          central,
        )
        | inr fails ↦ by (heavy_side x fails) (central_beyond count)
      ]
    where
      by : (y : ℕ) × IsHeavySide x y
          → ((v x : ℕ) → IsHeavySide v x → length (part v x) ≤ count
          → (c : ℕ) × Contains nodes c × AreJoined edges v c × (is_central edges nodes c ≡ true))
          → (c : ℕ) × Contains nodes c × AreJoined edges v c × (is_central edges nodes c ≡ true)
      by (y, next) beyond =
          let (c, known, joined, central) : (c : ℕ) × Contains nodes c × AreJoined edges x c
          × (is_central edges nodes c ≡ true) =
          beyond x y next (smaller (cases_eq (class_of (left x) y)
          (class_of (left x) v))) in (
            c,
            known,
            AreJoined-through edges v x c (AreJoined-adjacent edges v x side.adjacent) joined,
            central,
          )
        where
          smaller : (class_of (left x) y ≡ class_of (left x) v)
              ⊎ (class_of (left x) y ≢ class_of (left x) v) → length (part x y) ≤ count
          smaller (inl same) =
              let heavy = side.heavy in
              let also = next.heavy in
              let few = sides_few v x side.adjacent in
              let back : length (part x y) ≡ length (part x v) =
              ap length (one_piece (left x) nodes y v (joined-class (left x) y v same)) in
              let one : length (piece v) ≡ length (piece x) = ap length
              (one_piece edges nodes v x (AreJoined-adjacent edges v x side.adjacent)) in
              absurd (omega arith)
          smaller (inr apart) =
              let less = part_less v x y side.adjacent next.adjacent
              (λ joined. apart (class-joined (left x) y v joined)) in
              omega (arith, less, few)

  -- so each piece has a centroid
  pub has_centroid : (u : ℕ) → Contains nodes u
      → (c : ℕ) × (centroid_of edges nodes u ≡ Some c)
  has_centroid u known = by (centroid_of edges nodes u) refl
    where
      central : (c : ℕ) × Contains nodes c × AreJoined edges u c
          × (is_central edges nodes c ≡ true)
      central = elim (cases_Bool (is_central edges nodes u)) [
        | inl passes ↦ (u, known, ([], refl), passes)
        | inr fails ↦
            let (x, side) : (x : ℕ) × IsHeavySide u x = heavy_side u fails in
            let most : length (part u x) ≤ length (part u x) = omega arith in
            central_beyond (length (part u x)) u x side most
      ]

      by : (found : Option ℕ) → centroid_of edges nodes u ≡ found
          → (c : ℕ) × (centroid_of edges nodes u ≡ Some c)
      by (Some c) is = (c, is)
      by None is =
          let (place, at) : (place : ℕ) × (slice_get (piece u) place ≡ Some central.0) =
          place_from_Contains (piece u) central.0
          (joined-piece edges nodes u central.0 central.1 central.2) in
          absurd (true≢false (sym central.3
          ∙ fails_where_none (is_central edges nodes) (piece u) place central.0 is at))
