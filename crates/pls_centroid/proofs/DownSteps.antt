-- One step down: a place whose parent has a way has one too.
use Rattle.std.proofs.Common.{◌≡◌, ◌∙◌, ℕ, ◌+◌, ◌-◌, ◌^◌, ◌<◌, min, max, inl, inr, List, [], ◌∷◌, length, get_or, set, slice_get, Contains, Option, Some, None, refl, sym, ap, subst, arith}
use Rattle.std.specs.Option.{option_map_or}
use Rattle.std.proofs.lemmas.Bool.{cases_lt}
use Rattle.std.proofs.lemmas.List.{length-set}
use Rattle.std.proofs.lemmas.Option.{same_Some, slice_get-get_or, slice_get_within}
use Rattle.pls_configuration.specs.declared.row.NodeRow.{NodeRow}
use Rattle.pls_configuration.specs.Configuration.{ids_of}
use Rattle.pls_configuration.specs.Walk.{Edge, Adjacent, AreJoined}
use Rattle.pls_configuration.specs.WalkBy.{WalkBy}
use Rattle.pls_facts.specs.Parents.{ChainMeets}
use Rattle.pls_facts.specs.Weight.{edge_weight}
use Rattle.pls_search.specs.SubtreeSizes.{HasParentAt}
use Rattle.pls_centroid.specs.declared.reaching.Way.{Way}
use Rattle.pls_centroid.specs.inner.Cut.{id_at}
use Rattle.pls_centroid.specs.inner.Reaching.{AreDownRight, AreUpNoted, AreUpRight, IsCentroidAt, IsNoted, IsWay, behind, way_by}
use Rattle.pls_centroid.specs.inner.Rooted.{AreBehindParents, AreCentroidsOf, AreWeightsUp, IsStage}
use Rattle.pls_centroid.proofs.Cutting.{IsTopOf-none, one_top, same_top}
use Rattle.pls_centroid.proofs.Noting.{set_cases}
use Rattle.pls_centroid.proofs.Ways.{way_down}
use Rattle.pls_centroid.proofs.NotedWays as noted_ways
use Rattle.pls_centroid.proofs.NotedWays.{noted_stays, set_same_at}

module _ (rows : List NodeRow) (edges : List Edge) (left : List (Option ℕ)) (tops : List ℕ)
    (stage : IsStage rows edges left tops) (centroids : List (Option ℕ))
    (are : AreCentroidsOf rows edges tops centroids) (weights : List ℕ)
    (weigh : AreWeightsUp rows left weights) where
  known : (u v : ℕ) → Adjacent edges u v → Contains (ids_of rows) v
  known = noted_ways.known rows edges left tops stage centroids are weights weigh

  way_short : (place c hops greatest : ℕ) → place < length rows
      → IsWay rows (id_at rows place) (id_at rows c) hops greatest → hops < 32768
  way_short = noted_ways.way_short rows edges left tops stage centroids are weights weigh

  has_top : (place : ℕ) → place < length left → (top : ℕ) × (slice_get tops place ≡ Some top)
  has_top = noted_ways.has_top rows edges left tops stage centroids are weights weigh

  centroid_at : (place c : ℕ) → place < length rows → IsCentroidAt tops centroids place c
      → c < length rows
  centroid_at = noted_ways.centroid_at rows edges left tops stage centroids are weights weigh

  weight_is : (place parent : ℕ) → HasParentAt left place parent → place < length rows
      → get_or weights place 0 ≡ edge_weight rows (id_at rows place) (id_at rows parent)
  weight_is = noted_ways.weight_is rows edges left tops stage centroids are weights weigh

  centroid_is : (place c : ℕ) → place < length rows → IsCentroidAt tops centroids place c
      → AreJoined edges (id_at rows place) (id_at rows c) × IsCentroidAt tops centroids c c
  centroid_is = noted_ways.centroid_is rows edges left tops stage centroids are weights weigh

  parent_centroid : (place parent c : ℕ) → HasParentAt left place parent → parent < length left
      → IsCentroidAt tops centroids place c → IsCentroidAt tops centroids parent c
  parent_centroid = noted_ways.parent_centroid rows edges left tops stage centroids are weights
      weigh

  -- where all parents of noted places are noted, so is what the chain of a centroid meets
  chain_noted : (order : List ℕ) → AreBehindParents left order → (ways : List (Option Way))
      → AreUpNoted left order ways 0 → (u v : ℕ) (nodes : List ℕ) → u < length left
      → WalkBy (HasParentAt left) u nodes v → IsNoted ways u → IsNoted ways v
  chain_noted order behind_parents ways noted u v [] within same is = subst (IsNoted ways) same is
  chain_noted order behind_parents ways noted u v (x ∷ nodes) within chain is =
      let (number, stands) : (number : ℕ) × (slice_get order number ≡ Some u) =
      behind_parents.all u within in
      let step = (stage.cut.to u x chain.0).0 in
      let many = stage.cut.each in
      chain_noted order behind_parents ways noted x v nodes (omega (arith, step, many)) chain.1
      (noted number u x (omega arith) stands is chain.0)

  -- so, going down, the chain of no centroid meets what is not noted
  pub down_begins : (order : List ℕ) → AreBehindParents left order → (ways : List (Option Way))
      → AreUpRight rows left tops centroids ways → AreUpNoted left order ways 0
      → AreDownRight rows left tops centroids order ways 0
  down_begins order behind_parents ways up noted = record {
    each = up.each;
    right = λ place way stands c centroid. (up.right place way stands c centroid).0;
    off = λ place c none centroid meets.
        let each = up.each in
        let many = stage.cut.each in
        let one = slice_get_within ways place None none in
        let within : place < length rows = omega (arith, one, each, many) in
        let inside : c < length rows = centroid_at place c within centroid in
        let in_left : c < length left = omega (arith, inside, many) in
        let is : IsNoted ways place = chain_noted order behind_parents ways noted c place meets.0
        in_left meets.1 (up.start c in_left (centroid_is place c within centroid).1) in
        let no : None ≡ Some is.0 = same_Some None (Some is.0) (sym none ∙ is.1) in
        absurd (cc);
    done = λ number place less stands. absurd (omega (arith, less));
  }

  -- one step down
  module _ (order : List ℕ) (behind_parents : AreBehindParents left order)
      (ways : List (Option Way)) (count place : ℕ) (at : slice_get order count ≡ Some place)
      (before : AreDownRight rows left tops centroids order ways count) where
    -- the way that is noted is there, and right
    record IsFound : Type 0 where
      way : Way
      is : way_by left weights ways place ≡ Some way
      right : (c : ℕ) → IsCentroidAt tops centroids place c
          → IsWay rows (id_at rows place) (id_at rows c) way.hops way.greatest

    place_in_left : place < length left
    place_in_left = behind_parents.within count place at

    place_within : place < length rows
    place_within = let each = stage.cut.each in let one = place_in_left in omega (arith, each, one)

    found_way : IsFound
    found_way = by (get_or ways place None) refl (get_or left place None) refl
      where
        here : slice_get ways place ≡ Some (get_or ways place None)
        here = let each = before.each in let one = place_in_left in
            slice_get-get_or ways place None (omega (arith, each, one))

        parent_here : slice_get left place ≡ Some (get_or left place None)
        parent_here = slice_get-get_or left place None place_in_left

        by : (w : Option Way) → get_or ways place None ≡ w → (o : Option ℕ)
            → get_or left place None ≡ o → IsFound
        by (Some way) f o e = record {
          way = way;
          is = ap (λ (w : Option Way). option_map_or (λ way. Some way) w (option_map_or
              (λ parent. option_map_or (λ way. Some (behind way (get_or weights place 0)))
              (get_or ways parent None) None) (get_or left place None) None)) f;
          right = before.right place way (here ∙ ap Some f);
        }
        by None f None e =
            let (top, stands) : (top : ℕ) × (slice_get tops place ≡ Some top) =
            has_top place place_in_left in
            let centroid = are.centroid place top stands in
            let own : IsCentroidAt tops centroids place centroid.0 = (top, stands, centroid.1) in
            let one : top ≡ place = one_top rows stage.net edges known left stage.cut place top
            place
            (stage.are.top place top stands)
            (IsTopOf-none left place (parent_here ∙ ap Some e)) in
            let (also, at_c, same) : IsCentroidAt tops centroids centroid.0 centroid.0 =
            (centroid_is place centroid.0 place_within own).1 in
            let joined : AreJoined edges (id_at rows place) (id_at rows centroid.0) =
            (centroid_is place centroid.0 place_within own).0 in
            let tops_are : top ≡ also = same_top rows stage.net edges known left stage.cut place
            centroid.0 top also place_within centroid.2 (stage.are.top place top stands)
            (stage.are.top centroid.0 also at_c) joined in
            absurd (before.off place centroid.0 (here ∙ ap Some f) own
            (subst (ChainMeets (HasParentAt left) centroid.0) (sym tops_are ∙ one)
            (stage.are.top centroid.0 also at_c).meets))
        by None f (Some parent) e =
            let up : HasParentAt left place parent = parent_here ∙ ap Some e in
            let many = stage.cut.each in
            let step = (stage.cut.to place parent up).0 in
            let inside : parent < length left = omega (arith, step, many) in
            let (early, stands) : (number : ℕ) × (slice_get order number ≡ Some parent) =
            behind_parents.all parent inside in
            let noted : IsNoted ways parent = before.done early parent
            (behind_parents.behind count place early parent at up stands) stands in
            let each = before.each in
            let read : get_or ways parent None ≡ Some noted.0 =
            same_Some (get_or ways parent None) (Some noted.0)
            (sym (slice_get-get_or ways parent None (omega (arith, inside, each))) ∙ noted.1) in
            record {
              way = behind noted.0 (get_or weights place 0);
              is = ap (λ (w : Option Way). option_map_or (λ way. Some way) w (option_map_or
                  (λ parent. option_map_or (λ way. Some (behind way (get_or weights place 0)))
                  (get_or ways parent None) None) (get_or left place None) None)) f
                  ∙ ap (λ (o : Option ℕ). option_map_or (λ parent. option_map_or
                  (λ way. Some (behind way (get_or weights place 0))) (get_or ways parent None)
                  None)
                  o None) e
                  ∙ ap (λ (w : Option Way). option_map_or
                  (λ way. Some (behind way (get_or weights place 0))) w None) read;
              right = λ c centroid.
                  let way = before.right parent noted.0 noted.1 c
                  (parent_centroid place parent c up inside centroid) in
                  let short = way_short parent c noted.0.hops noted.0.greatest step way in
                  let hops : noted.0.hops + 1 ≡ min (noted.0.hops + 1) (2 ^ 32 - 1) =
                  omega (arith, short) in
                  subst (λ (hops : ℕ). IsWay rows (id_at rows place) (id_at rows c) hops
                  (max noted.0.greatest (get_or weights place 0))) hops
                  (subst (λ (weight : ℕ). IsWay rows (id_at rows place) (id_at rows c)
                  (noted.0.hops + 1) (max noted.0.greatest weight))
                  (sym (weight_is place parent up place_within))
                  (way_down rows stage.net stage.tree edges stage.among known left stage.cut c
                  (centroid_at place c place_within centroid) place parent noted.0.hops
                  noted.0.greatest place_within up (before.off place c (here ∙ ap Some f) centroid)
                  (centroid_is place c place_within centroid).0 way));
            }

    pub down_step : AreDownRight rows left tops centroids order
        (set ways place (way_by left weights ways place)) (count + 1)
    down_step = subst (λ (w : Option Way). AreDownRight rows left tops centroids order
        (set ways place w) (count + 1)) (sym found.is) (record {
          each = let each = before.each in
              omega (arith, each, length-set ways place (Some found.way));
          right = λ other way stands c centroid. elim (set_cases ways place (Some found.way) other
              (Some way) within stands) [
                | inr old ↦ before.right other way old.1 c centroid
                | inl new ↦
                    let is : way ≡ found.way = same_Some way found.way new.1 in
                    subst (λ (way : Way). IsWay rows (id_at rows other) (id_at rows c) way.hops
                    way.greatest) (sym is)
                    (subst (λ (other : ℕ). IsWay rows (id_at rows other) (id_at rows c)
                    found.way.hops found.way.greatest) (sym new.0)
                    (found.right c (subst (λ (other : ℕ). IsCentroidAt tops centroids other c) new.0
                    centroid)))
              ];
          off = λ other c none centroid meets. elim (set_cases ways place (Some found.way) other
              None within none) [
                | inr old ↦ before.off other c old.1 centroid meets
                | inl new ↦ let no : None ≡ Some found.way = new.1 in absurd (cc)
              ];
          done = λ number other less stands. elim (cases_lt number count) [
            | inl earlier ↦ noted_stays ways place found.way other within
                (before.done number other earlier stands)
            | inr late ↦
                let one : number ≡ count = omega (arith, late, less) in
                let same : place ≡ other = same_Some place other
                (sym at ∙ ap (slice_get order) (sym one) ∙ stands) in
                subst (IsNoted (set ways place (Some found.way))) same
                (found.way, set_same_at ways place (Some found.way) within)
          ];
        })
      where
        found : IsFound
        found = found_way

        within : place < length ways
        within = let each = before.each in let one = place_in_left in omega (arith, each, one)
