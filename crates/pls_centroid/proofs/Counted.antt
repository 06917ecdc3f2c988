-- The sizes of subtrees are the numbers of nodes of pieces and of their parts, so they tell which
-- nodes are central.
use Rattle.std.proofs.Common.{◌≡◌, ◌∙◌, ℕ, ◌+◌, ◌-◌, ◌*◌, ◌<◌, ◌≤◌, ◌==◌, ◌⊎◌, inl, inr, Bool, true, false, List, length, get_or, slice_get, Contains, Option, Some, None, option_map, refl, sym, ap, subst, arith}
use Rattle.std.proofs.lemmas.Bool.{eq-eqb, eqb-true, ne_eqb}
use Rattle.std.proofs.lemmas.List.{length-map}
use Rattle.std.proofs.lemmas.Option.{get_or_from_slice_get, same_Some, slice_get-map, slice_get_within}
use Rattle.pls_configuration.specs.declared.row.NodeRow.{NodeRow}
use Rattle.pls_configuration.specs.Configuration.{IsNetwork, ids_of}
use Rattle.pls_configuration.specs.Walk.{Edge, Adjacent, AreJoined}
use Rattle.pls_graph.proofs.Finds.{item_at}
use Rattle.pls_graph.proofs.Joined.{Adjacent-turned, AreJoined-turned}
use Rattle.pls_facts.specs.Classes.{class_of}
use Rattle.pls_facts.specs.Parents.{ChainMeets}
use Rattle.pls_facts.specs.SpanningTree.{IsTree, pointed_edges}
use Rattle.pls_facts.proofs.Classes.{class-joined, joined-class}
use Rattle.pls_facts.proofs.Paths.{AreJoined-among}
use Rattle.pls_search.specs.SubtreeSizes.{AreSubtreeSizes, HasParentAt}
use Rattle.pls_centroid.specs.Centroid.{are_together, edges_without, is_central, part_of, piece_of}
use Rattle.pls_centroid.specs.inner.Cut.{IsCut, id_at}
use Rattle.pls_centroid.proofs.Below.{chain_joins, id_at-row, joined_chain, one_parent, one_place_of, place_of_id}
use Rattle.pls_centroid.proofs.Central.{central_by_sides, central_side, sides_many}
use Rattle.pls_centroid.proofs.Pieces.{left-joined, left-stays}
use Rattle.pls_centroid.proofs.ManyPlaces.{as_many, many_places}

-- the identity at a place, among all
id_listed : (rows : List NodeRow) (place : ℕ) → place < length rows
    → get_or (ids_of rows) place 0 ≡ id_at rows place
id_listed rows place within =
    let (row, at) : (row : NodeRow) × (slice_get rows place ≡ Some row) = item_at rows place within
    in
    get_or_from_slice_get (ids_of rows) place row.id 0
    (slice_get-map (λ (row : NodeRow). row.id) rows place
    ∙ ap (option_map (λ (row : NodeRow). row.id)) at)
    ∙ sym (id_at-row rows place row at)

-- no node is taken away
abbrev pub none_taken : ℕ → Bool
none_taken w = false

module _ (rows : List NodeRow) (net : IsNetwork rows) (edges : List Edge)
    (known : (u v : ℕ) → Adjacent edges u v → Contains (ids_of rows) v)
    (parents : List (Option ℕ)) (cut : IsCut rows edges parents) (sizes : List ℕ)
    (are : AreSubtreeSizes parents sizes) where
  abbrev id : ℕ → ℕ
  id place = id_at rows place

  abbrev nodes : List ℕ
  nodes = ids_of rows

  -- a size is how many nodes some edges join to the node, where chains tell that
  size_of_class : (others : List Edge) (place size : ℕ) → slice_get sizes place ≡ Some size
      → ((other : ℕ) → other < length rows → ChainMeets (HasParentAt parents) other place
      → AreJoined others (id place) (id other))
      → ((other : ℕ) → other < length rows → AreJoined others (id place) (id other)
      → ChainMeets (HasParentAt parents) other place)
      → size ≡ length (piece_of others nodes (id place))
  size_of_class others place size at there back =
      as_many (λ p. (p < length parents) × ChainMeets (HasParentAt parents) p place)
      (λ p. (p < length nodes) × (are_together others (id place) (get_or nodes p 0) ≡ true))
      size (length (piece_of others nodes (id place)))
      (λ p such. (
        omega (arith, such.0, cut.each, many),
        eq-eqb (class_of others (id place)) (class_of others (get_or nodes p 0))
            (class-joined others (id place) (get_or nodes p 0)
            (subst (AreJoined others (id place)) (sym (id_listed rows p (inside p such.0)))
            (there p (inside p such.0) such.1))),
      ))
      (λ p same. (
        omega (arith, same.0, cut.each, many),
        back p (omega (arith, same.0, many))
            (subst (AreJoined others (id place)) (id_listed rows p (omega (arith, same.0, many)))
            (joined-class others (id place) (get_or nodes p 0)
            (eqb-true (class_of others (id place)) (class_of others (get_or nodes p 0)) same.1))),
      ))
      (are.size place size at) (many_places (are_together others (id place)) nodes)
    where
      many : length nodes ≡ length rows
      many = length-map rows (λ (row : NodeRow). row.id)

      inside : (p : ℕ) → p < length parents → p < length rows
      inside p within = omega (arith, within, cut.each)

  -- the size of a place without parent is how many nodes its piece has
  pub size_top : (place size : ℕ) → place < length rows → slice_get sizes place ≡ Some size
      → ((parent : ℕ) → HasParentAt parents place parent → ⊥)
      → size ≡ length (piece_of edges nodes (id place))
  size_top place size within at none = size_of_class edges place size at
      (λ other inside meets. AreJoined-turned edges (id other) (id place)
      (left-joined none_taken edges (id other) (id place)
      (chain_joins rows net edges known parents cut none_taken place (λ p deep in'. refl) other
      meets.0 inside meets.1)))
      (λ other inside joined. joined_chain rows net edges known parents cut none_taken place
      (λ p deep in'. refl) within (λ parent up. absurd (none parent up)) other inside
      (AreJoined-among edges (edges_without none_taken edges)
      (λ edge in'. left-stays none_taken edges edge in' refl refl) (id place) (id other) joined))

  -- that of another is how many nodes are on its side of the edge to its parent
  pub size_child : (place parent size : ℕ) → place < length rows
      → HasParentAt parents place parent → slice_get sizes place ≡ Some size
      → size ≡ length (part_of edges nodes (id parent) (id place))
  size_child place parent size within up at = size_of_class (edges_without away edges) place size at
      (λ other inside meets. AreJoined-turned (edges_without away edges) (id other) (id place)
      (chain_joins rows net edges known parents cut away place stays other meets.0 inside meets.1))
      (λ other inside joined. joined_chain rows net edges known parents cut away place stays within
      (λ also there. eq-eqb (id also) (id parent)
      (ap id (one_parent rows net edges known parents cut place also parent there up))) other inside
      joined)
    where
      away : ℕ → Bool
      away w = w == id parent

      stays : (p : ℕ) → cut.depth place ≤ cut.depth p → p < length rows → away (id p) ≡ false
      stays p deep in' =
          let step = cut.to place parent up in
          ne_eqb (id p) (id parent) (λ same.
          let one : p ≡ parent = one_place_of rows net p parent in' step.0 same in
          let e = ap cut.depth one in
          let down = step.2 in
          omega (arith, deep, e, down))

  module _ (is_tree : IsTree rows)
      (among : (edge : Edge) → Contains edges edge → Contains (pointed_edges rows) edge) where
    -- what is known at a place of its piece and of the sizes there
    pub record IsCounted (place all own below : ℕ) : Type 0 where
      pub within : place < length rows
      pub piece : all ≡ length (piece_of edges nodes (id place))
      pub size : slice_get sizes place ≡ Some own
      pub most : (child size : ℕ) → HasParentAt parents child place
          → slice_get sizes child ≡ Some size → size ≤ below
      pub one : (below ≡ 0) ⊎ ((child : ℕ) × HasParentAt parents child place
          × (slice_get sizes child ≡ Some below))

    module _ (place all own below : ℕ) (is : IsCounted place all own below) where
      -- the size of a place within
      sized : (other : ℕ) → other < length rows → (size : ℕ) × (slice_get sizes other ≡ Some size)
      sized other inside = let each = are.each in let many = cut.each in
          item_at sizes other (omega (arith, inside, each, many))

      -- a place with a parent is within
      child_within : (child parent : ℕ) → HasParentAt parents child parent → child < length rows
      child_within child parent up = let many = cut.each in
          omega (arith, slice_get_within parents child (Some parent) up, many)

      -- beyond the parent are all others
      parent_side : (parent : ℕ) → HasParentAt parents place parent
          → length (part_of edges nodes (id place) (id parent)) + own ≡ all
      parent_side parent up =
          let step = cut.to place parent up in
          let both = sides_many rows net is_tree edges among (id place) (id parent) step.1 in
          let here = size_child place parent own is.within up is.size in
          let whole = is.piece in
          omega (arith, both, here, whole)

      child_side : (child size : ℕ) → HasParentAt parents child place
          → slice_get sizes child ≡ Some size
          → size ≡ length (part_of edges nodes (id place) (id child))
      child_side child size up at = size_child child place size (child_within child place up) up at

      -- where neither the others nor those below one child are more than half, the node is central
      pub central_from : 2 * (all - own) ≤ all → 2 * below ≤ all
          → is_central edges nodes (id place) ≡ true
      central_from above under = central_by_sides rows net is_tree edges among (id place)
          (λ x adjacent.
          let (other, inside, named) : (other : ℕ) × (other < length rows)
          × (id_at rows other ≡ x) = place_of_id rows x (known (id place) x adjacent) in
          subst (λ (x : ℕ). 2 * length (part_of edges nodes (id place) x)
          ≤ length (piece_of edges nodes (id place))) named
          (by other inside (cut.from place other is.within inside
          (subst (Adjacent edges (id place)) (sym named) adjacent))))
        where
          by : (other : ℕ) → other < length rows
              → HasParentAt parents place other ⊎ HasParentAt parents other place
              → 2 * length (part_of edges nodes (id place) (id other))
              ≤ length (piece_of edges nodes (id place))
          by other inside (inl up) =
              let side = parent_side other up in
              let whole = is.piece in
              omega (arith, side, whole, above)
          by other inside (inr down) =
              let (size, at) : (size : ℕ) × (slice_get sizes other ≡ Some size) =
              sized other inside in
              let side = child_side other size down at in
              let most = is.most other size down at in
              let whole = is.piece in
              omega (arith, side, whole, most, under)

      -- and only there
      pub central_to : is_central edges nodes (id place) ≡ true
          → (2 * (all - own) ≤ all) × (2 * below ≤ all)
      central_to central = (
        by (slice_get parents place) refl,
        elim is.one [
          | inl none ↦ omega (arith, none)
          | inr found ↦
              let (child, up, at) : (child : ℕ) × HasParentAt parents child place
              × (slice_get sizes child ≡ Some below) = found in
              let side = child_side child below up at in
              let step = cut.to child place up in
              let few = central_side rows net is_tree edges among (id place) (id child) central
              (Adjacent-turned edges (id child) (id place) step.1) in
              let whole = is.piece in
              omega (arith, side, few, whole)
        ],
      )
        where
          top : ((parent : ℕ) → HasParentAt parents place parent → ⊥) → 2 * (all - own) ≤ all
          top none =
              let here = size_top place own is.within is.size none in
              let whole = is.piece in
              omega (arith, here, whole)

          by : (o : Option (Option ℕ)) → slice_get parents place ≡ o → 2 * (all - own) ≤ all
          by (Some (Some parent)) e =
              let side = parent_side parent e in
              let step = cut.to place parent e in
              let few = central_side rows net is_tree edges among (id place) (id parent) central
              step.1 in
              let whole = is.piece in
              omega (arith, side, few, whole)
          by (Some None) e = top (λ parent up. absurd (no_some parent (sym e ∙ up)))
            where
              no_some : (parent : ℕ) → Some None ≡ Some (Some parent) → ⊥
              no_some parent same = let e : None ≡ Some parent = same_Some None (Some parent) same
                  in
                  absurd (cc)
          by None e = top (λ parent up. let no : None ≡ Some (Some parent) = sym e
              ∙ up in absurd (cc))
