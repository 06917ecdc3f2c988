-- Ways that are noted, and what is known of the places on the way to their centroids.
use Rattle.std.proofs.Common.{◌≡◌, ◌≢◌, ◌∙◌, ℕ, ◌<◌, ◌≤◌, ◌⊎◌, inl, inr, List, [], ◌∷◌, length, get_or, set, slice_get, Contains, Option, Some, None, refl, sym, ap, subst, arith, get_or-set_same}
use Rattle.std.proofs.lemmas.Bool.{cases_eq}
use Rattle.std.proofs.lemmas.List.{length-map, length-set}
use Rattle.std.proofs.lemmas.Option.{same_Some, slice_get-get_or, slice_get_within}
use Rattle.pls_configuration.specs.declared.row.NodeRow.{NodeRow}
use Rattle.pls_configuration.specs.Configuration.{ids_of}
use Rattle.pls_configuration.specs.Walk.{Edge, Adjacent, AreJoined}
use Rattle.pls_graph.proofs.Joined.{along}
use Rattle.pls_configuration.specs.WalkBy.{WalkBy}
use Rattle.pls_facts.specs.Parents.{ChainMeets}
use Rattle.pls_facts.specs.SpanningTree.{pointed_edges}
use Rattle.pls_facts.specs.Weight.{edge_weight}
use Rattle.pls_facts.proofs.Fewer.{length-part}
use Rattle.pls_facts.proofs.Neighbours.{adjacent_known}
use Rattle.pls_facts.proofs.PointedEdges.{pointed_among}
use Rattle.pls_search.specs.SubtreeSizes.{HasParentAt}
use Rattle.pls_centroid.specs.declared.reaching.Way.{Way}
use Rattle.pls_centroid.specs.Centroid.{centroid_of}
use Rattle.pls_centroid.specs.inner.Cut.{id_at}
use Rattle.pls_centroid.specs.inner.Reaching.{IsCentroidAt, IsNoted, IsWay}
use Rattle.pls_centroid.specs.inner.Rooted.{AreCentroidsOf, AreWeightsUp, IsStage}
use Rattle.pls_centroid.proofs.Cutting.{IsTopOf-up, id_known, one_top, same_top}
use Rattle.pls_centroid.proofs.Lightly.{joined_at}
use Rattle.pls_centroid.proofs.Noting.{set_cases}
use Rattle.pls_centroid.proofs.Pieces.{centroid_known}

-- a chain goes on to the parent of its last
pub chain_more : (Up : ℕ → ℕ → Type 0) (u v w : ℕ) (nodes : List ℕ) → WalkBy Up u nodes v → Up v w
    → ChainMeets Up u w
chain_more Up u v w [] same up = (w ∷ [], (subst (λ (v : ℕ). Up v w) (sym same) up, refl))
chain_more Up u v w (x ∷ nodes) chain up =
    let rest : ChainMeets Up x w = chain_more Up x v w nodes chain.1 up in
    (x ∷ rest.0, (chain.0, rest.1))

-- what was written stands there
pub set_same_at : (ways : List (Option Way)) (place : ℕ) (new : Option Way) → place < length ways
    → slice_get (set ways place new) place ≡ Some new
set_same_at ways place new within =
    let long = length-set ways place new in
    slice_get-get_or (set ways place new) place None (omega (arith, within, long))
    ∙ ap Some (get_or-set_same ways place new None within)

-- what is noted stays noted where one more way is
pub noted_stays : (ways : List (Option Way)) (place : ℕ) (way : Way) (other : ℕ)
    → place < length ways
    → IsNoted ways other → IsNoted (set ways place (Some way)) other
noted_stays ways place way other within (old, at) = by (cases_eq other place)
  where
    inside : other < length (set ways place (Some way))
    inside = let one = slice_get_within ways other (Some old) at in
        omega (arith, one, length-set ways place (Some way))

    by : (other ≡ place) ⊎ (other ≢ place) → IsNoted (set ways place (Some way)) other
    by (inl same) = elim (set_cases ways place (Some way) other
        (get_or (set ways place (Some way)) other None) within
        (slice_get-get_or (set ways place (Some way)) other None inside)) [
          | inl is ↦ (
            way,
            slice_get-get_or (set ways place (Some way)) other None inside
                ∙ ap Some is.1,
          )
          | inr is ↦ absurd (is.0 same)
        ]
    by (inr apart) = elim (set_cases ways place (Some way) other
        (get_or (set ways place (Some way)) other None) within
        (slice_get-get_or (set ways place (Some way)) other None inside)) [
          | inl is ↦ absurd (apart is.0)
          | inr is ↦ (
            old,
            slice_get-get_or (set ways place (Some way)) other None inside
                ∙ sym is.1 ∙ at,
          )
        ]

module _ (rows : List NodeRow) (edges : List Edge) (left : List (Option ℕ)) (tops : List ℕ)
    (stage : IsStage rows edges left tops) (centroids : List (Option ℕ))
    (are : AreCentroidsOf rows edges tops centroids) (weights : List ℕ)
    (weigh : AreWeightsUp rows left weights) where
  pub known : (u v : ℕ) → Adjacent edges u v → Contains (ids_of rows) v
  known u v (edge, in', joins) = adjacent_known rows stage.net u v
      (edge, pointed_among rows stage.net edge (stage.among edge in'), joins)

  -- a way has fewer edges than there are nodes
  pub way_short : (place c hops greatest : ℕ) → place < length rows
      → IsWay rows (id_at rows place) (id_at rows c) hops greatest → hops < 32768
  way_short place c hops greatest within way =
      let few : length (id_at rows place ∷ way.path) ≤ length (ids_of rows) =
      length-part (id_at rows place ∷ way.path) (ids_of rows) way.leads.distinct
      (λ w in'. along (pointed_edges rows) (Contains (ids_of rows))
      (λ u v here (edge, edge_in, joins). adjacent_known rows stage.net u v
      (edge, pointed_among rows stage.net edge edge_in, joins)) (id_at rows place) w
      (joined_at (pointed_edges rows) (id_at rows place) (id_at rows c) w way.path way.leads.walk
      in').0 (id_known rows place within)) in
      let many = length-map rows (λ (row : NodeRow). row.id) in
      let most = stage.net.limits.few_nodes in
      let long = way.long in
      omega (arith, few, many, most, long)

  -- a place with a parent has its centroid
  pub same_centroid : (place parent c : ℕ) → HasParentAt left place parent
      → IsCentroidAt tops centroids parent c → (top : ℕ) × (slice_get tops place ≡ Some top)
      → IsCentroidAt tops centroids place c
  same_centroid place parent c up (top, at, is) (other, there) =
      let one : top ≡ other = one_top rows stage.net edges known left stage.cut place top other
      (IsTopOf-up left place parent top up (stage.are.top parent top at))
      (stage.are.top place other there) in
      (other, there, subst (λ (top : ℕ). slice_get centroids top ≡ Some (Some c)) one is)

  -- a place within has a top
  pub has_top : (place : ℕ) → place < length left → (top : ℕ) × (slice_get tops place ≡ Some top)
  has_top place within = let each = stage.are.each in
      (get_or tops place 0, slice_get-get_or tops place 0 (omega (arith, within, each)))

  -- the centroid of a place is a place, joined to it, and of the same top
  pub centroid_at : (place c : ℕ) → place < length rows → IsCentroidAt tops centroids place c
      → c < length rows
  centroid_at place c within (top, at, is) =
      let found = are.centroid place top at in
      let same : found.0 ≡ c = same_Some found.0 c
      (same_Some (Some found.0) (Some c) (sym found.1 ∙ is)) in
      subst (λ (c : ℕ). c < length rows) same found.2

  pub weight_is : (place parent : ℕ) → HasParentAt left place parent → place < length rows
      → get_or weights place 0 ≡ edge_weight rows (id_at rows place) (id_at rows parent)
  weight_is place parent up within = let each = weigh.each in
      weigh.weight place parent (get_or weights place 0) up
      (slice_get-get_or weights place 0 (omega (arith, within, each)))

  -- a place and its centroid have one top, and are joined
  pub centroid_is : (place c : ℕ) → place < length rows → IsCentroidAt tops centroids place c
      → AreJoined edges (id_at rows place) (id_at rows c) × IsCentroidAt tops centroids c c
  centroid_is place c within (top, at, is) =
      let found = are.centroid place top at in
      let same : found.0 ≡ c = same_Some found.0 c
      (same_Some (Some found.0) (Some c) (sym found.1 ∙ is)) in
      let one : centroid_of edges (ids_of rows) (id_at rows place) ≡ Some (id_at rows c) =
      found.3 ∙ ap (λ (c : ℕ). Some (id_at rows c)) same in
      let joined : AreJoined edges (id_at rows place) (id_at rows c) =
      (centroid_known edges (ids_of rows) (id_at rows place) (id_at rows c) one).1 in
      let inside : c < length rows = centroid_at place c within (top, at, is) in
      let (also, stands) : (top : ℕ) × (slice_get tops c ≡ Some top) =
      has_top c (let many = stage.cut.each in omega (arith, inside, many)) in
      let tops_are : top ≡ also = same_top rows stage.net edges known left stage.cut place c top
      also
      within inside (stage.are.top place top at) (stage.are.top c also stands) joined in
      (joined, (top, stands ∙ ap Some (sym tops_are), is))

  -- the parent of a place has its centroid
  pub parent_centroid : (place parent c : ℕ) → HasParentAt left place parent → parent < length left
      → IsCentroidAt tops centroids place c → IsCentroidAt tops centroids parent c
  parent_centroid place parent c up inside (top, at, is) =
      let (also, stands) : (top : ℕ) × (slice_get tops parent ≡ Some top) = has_top parent inside in
      let one : top ≡ also = one_top rows stage.net edges known left stage.cut place top also
      (stage.are.top place top at)
      (IsTopOf-up left place parent also up (stage.are.top parent also stands)) in
      (also, stands, subst (λ (top : ℕ). slice_get centroids top ≡ Some (Some c)) one is)
