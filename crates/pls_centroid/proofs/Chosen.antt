-- The first central place of each piece is its centroid.
use Rattle.std.proofs.Common.{◌≡◌, ◌∙◌, ℕ, ◌<◌, List, length, slice_get, Contains, Option, Some, None, option_map, sym, ap, subst, arith}
use Rattle.std.proofs.lemmas.Bool.{eq-eqb, eqb-true, true≢false}
use Rattle.std.proofs.lemmas.Option.{same_Some, slice_get-map, slice_get_within}
use Rattle.pls_configuration.specs.declared.row.NodeRow.{NodeRow}
use Rattle.pls_configuration.specs.Configuration.{IsNetwork, ids_of}
use Rattle.pls_configuration.specs.Walk.{Edge, Adjacent, AreJoined}
use Rattle.pls_graph.proofs.Finds.{item_at}
use Rattle.pls_graph.proofs.Joined.{AreJoined-through, AreJoined-turned}
use Rattle.pls_facts.specs.Classes.{class_of}
use Rattle.pls_facts.specs.SpanningTree.{IsTree, pointed_edges}
use Rattle.pls_facts.proofs.Classes.{class-joined, joined-class}
use Rattle.pls_centroid.specs.Centroid.{are_together, centroid_of, is_central}
use Rattle.pls_centroid.specs.inner.Cut.{IsCut, id_at}
use Rattle.pls_centroid.specs.inner.Rooted.{AreCentroidsOf, AreFirstCentral, AreTopsOf, IsFirstCentral, IsTopOf}
use Rattle.pls_centroid.proofs.Below.{id_at-row, place_of_id}
use Rattle.pls_centroid.proofs.Central.{has_centroid}
use Rattle.pls_centroid.proofs.Cutting.{find_in_filter, id_known, same_top, top_joined}
use Rattle.pls_centroid.proofs.Pieces.{centroid_known}

-- the identity at a place stands there among all
listed_at : (rows : List NodeRow) (place : ℕ) → place < length rows
    → slice_get (ids_of rows) place ≡ Some (id_at rows place)
listed_at rows place within =
    let (row, at) : (row : NodeRow) × (slice_get rows place ≡ Some row) = item_at rows place within
    in
    slice_get-map (λ (row : NodeRow). row.id) rows place
    ∙ ap (option_map (λ (row : NodeRow). row.id)) at
    ∙ ap Some (sym (id_at-row rows place row at))

module _ (rows : List NodeRow) (net : IsNetwork rows) (is_tree : IsTree rows) (edges : List Edge)
    (among : (edge : Edge) → Contains edges edge → Contains (pointed_edges rows) edge)
    (known : (u v : ℕ) → Adjacent edges u v → Contains (ids_of rows) v)
    (left : List (Option ℕ)) (cut : IsCut rows edges left) (tops : List ℕ)
    (are : AreTopsOf left tops) where
  abbrev id : ℕ → ℕ
  id place = id_at rows place

  -- the top of a place within
  top_at : (place : ℕ) → place < length rows
      → (top : ℕ) × (slice_get tops place ≡ Some top) × IsTopOf left place top
  top_at place within =
      let each = are.each in
      let many = cut.each in
      let (top, at) : (top : ℕ) × (slice_get tops place ≡ Some top) =
      item_at tops place (omega (arith, within, each, many)) in
      (top, at, are.top place top at)

  -- places of one top are joined
  joined_places : (place other top : ℕ) → place < length rows → other < length rows
      → IsTopOf left place top → IsTopOf left other top → AreJoined edges (id place) (id other)
  joined_places place other top within inside first second =
      AreJoined-through edges (id place) (id top) (id other)
      (top_joined rows net edges known left cut place top within first)
      (AreJoined-turned edges (id other) (id top)
      (top_joined rows net edges known left cut other top inside second))

  -- joined places have one top
  same_at : (place other top : ℕ) → place < length rows → other < length rows
      → IsTopOf left place top → AreJoined edges (id place) (id other)
      → slice_get tops other ≡ Some top
  same_at place other top within inside first joined =
      let (also, at, second) : (top : ℕ) × (slice_get tops other ≡ Some top)
      × IsTopOf left other top = top_at other inside in
      at ∙ ap Some (sym (same_top rows net edges known left cut place other top also within inside
      first second joined))

  -- the first central place is the centroid
  first_is : (place top c : ℕ) → place < length rows → slice_get tops place ≡ Some top
      → IsFirstCentral rows edges tops (length rows) top (Some c)
      → centroid_of edges (ids_of rows) (id place) ≡ Some (id c)
  first_is place top c within at (few, there, central, before) =
      find_in_filter (is_central edges (ids_of rows)) (are_together edges (id place)) (ids_of rows)
      c (id c) (listed_at rows c few)
      (eq-eqb (class_of edges (id place)) (class_of edges (id c))
      (class-joined edges (id place) (id c)
      (joined_places place c top within few (are.top place top at) (are.top c top there))))
      central (λ j y less stands together passes.
      let inside : j < length rows = omega (arith, less, few) in
      let same : id j ≡ y = same_Some (id j) y (sym (listed_at rows j inside) ∙ stands) in
      let joined : AreJoined edges (id place) (id j) =
      subst (AreJoined edges (id place)) (sym same) (joined-class edges (id place) y
      (eqb-true (class_of edges (id place)) (class_of edges y) together)) in
      true≢false (sym passes ∙ ap (is_central edges (ids_of rows)) (sym same)
      ∙ before j less (same_at place j top within inside (are.top place top at) joined)))

  -- so where the first are found, there is one for each piece
  pub centroids_found : (centroids : List (Option ℕ))
      → AreFirstCentral rows edges tops (length rows) centroids
      → AreCentroidsOf rows edges tops centroids
  centroids_found centroids found = record {
    each = found.each;
    centroid = λ place top at.
        let is = are.top place top at in
        let each = are.each in
        let many = cut.each in
        let here = found.each in
        let inside = is.inside in
        let (entry, stands) : (entry : Option ℕ) × (slice_get centroids top ≡ Some entry) =
        item_at centroids top (omega (arith, inside, many, here)) in
        by place top at (omega (arith, slice_get_within tops place top at, each, many)) entry stands
        (found.first top entry stands);
  }
    where
      by : (place top : ℕ) → slice_get tops place ≡ Some top → place < length rows
          → (entry : Option ℕ) → slice_get centroids top ≡ Some entry
          → IsFirstCentral rows edges tops (length rows) top entry
          → (c : ℕ) × (slice_get centroids top ≡ Some (Some c)) × (c < length rows)
          × (centroid_of edges (ids_of rows) (id place) ≡ Some (id c))
      by place top at within (Some c) stands first =
          (c, stands, first.0, first_is place top c within at first)
      by place top at within None stands none =
          let (c, is) : (c : ℕ) × (centroid_of edges (ids_of rows) (id place) ≡ Some c) =
          has_centroid rows net is_tree edges among (id place) (id_known rows place within) in
          let centroid = centroid_known edges (ids_of rows) (id place) c is in
          let (other, inside, named) : (other : ℕ) × (other < length rows)
          × (id_at rows other ≡ c) = place_of_id rows c centroid.0 in
          absurd (true≢false (sym centroid.2 ∙ ap (is_central edges (ids_of rows)) (sym named)
          ∙ none other inside (same_at place other top within inside (are.top place top at)
          (subst (AreJoined edges (id place)) (sym named) centroid.1))))
