-- One step up: the way of a place to its centroid is noted at its parent.
use Rattle.std.proofs.Common.{◌≡◌, ◌∙◌, ℕ, ◌+◌, ◌-◌, ◌^◌, ◌<◌, ◌≤◌, min, max, inl, inr, List, length, get_or, set, slice_get, Contains, Option, Some, None, refl, sym, ap, subst, arith}
use Rattle.std.specs.Option.{option_map_or}
use Rattle.std.proofs.lemmas.Bool.{cases_lt}
use Rattle.std.proofs.lemmas.List.{length-set}
use Rattle.std.proofs.lemmas.Option.{same_Some, slice_get-get_or}
use Rattle.pls_configuration.specs.declared.row.NodeRow.{NodeRow}
use Rattle.pls_configuration.specs.Configuration.{ids_of}
use Rattle.pls_configuration.specs.Walk.{Edge, Adjacent}
use Rattle.pls_facts.specs.Parents.{ChainMeets}
use Rattle.pls_facts.specs.Weight.{edge_weight}
use Rattle.pls_facts.proofs.PointedEdges.{pointed_among}
use Rattle.pls_facts.proofs.Weights.{edge_weight-turned}
use Rattle.pls_search.specs.SubtreeSizes.{HasParentAt}
use Rattle.pls_centroid.specs.declared.reaching.Way.{Way}
use Rattle.pls_centroid.specs.inner.Cut.{id_at}
use Rattle.pls_centroid.specs.inner.Reaching.{AreUpNoted, AreUpRight, IsCentroidAt, IsNoted, IsWay, behind, noted_up}
use Rattle.pls_centroid.specs.inner.Rooted.{AreBehindParents, AreCentroidsOf, AreWeightsUp, IsStage}
use Rattle.pls_centroid.proofs.Noting.{set_cases}
use Rattle.pls_centroid.proofs.Ways.{way_up}
use Rattle.pls_centroid.proofs.NotedWays as noted_ways
use Rattle.pls_centroid.proofs.NotedWays.{chain_more, noted_stays, set_same_at}

module _ (rows : List NodeRow) (edges : List Edge) (left : List (Option ℕ)) (tops : List ℕ)
    (stage : IsStage rows edges left tops) (centroids : List (Option ℕ))
    (are : AreCentroidsOf rows edges tops centroids) (weights : List ℕ)
    (weigh : AreWeightsUp rows left weights) where
  known : (u v : ℕ) → Adjacent edges u v → Contains (ids_of rows) v
  known = noted_ways.known rows edges left tops stage centroids are weights weigh

  way_short : (place c hops greatest : ℕ) → place < length rows
      → IsWay rows (id_at rows place) (id_at rows c) hops greatest → hops < 32768
  way_short = noted_ways.way_short rows edges left tops stage centroids are weights weigh

  same_centroid : (place parent c : ℕ) → HasParentAt left place parent
      → IsCentroidAt tops centroids parent c → (top : ℕ) × (slice_get tops place ≡ Some top)
      → IsCentroidAt tops centroids place c
  same_centroid = noted_ways.same_centroid rows edges left tops stage centroids are weights weigh

  has_top : (place : ℕ) → place < length left → (top : ℕ) × (slice_get tops place ≡ Some top)
  has_top = noted_ways.has_top rows edges left tops stage centroids are weights weigh

  centroid_at : (place c : ℕ) → place < length rows → IsCentroidAt tops centroids place c
      → c < length rows
  centroid_at = noted_ways.centroid_at rows edges left tops stage centroids are weights weigh

  weight_is : (place parent : ℕ) → HasParentAt left place parent → place < length rows
      → get_or weights place 0 ≡ edge_weight rows (id_at rows place) (id_at rows parent)
  weight_is = noted_ways.weight_is rows edges left tops stage centroids are weights weigh

  -- one step up
  module _ (order : List ℕ) (behind_parents : AreBehindParents left order)
      (ways : List (Option Way)) (count place : ℕ) (at : slice_get order count ≡ Some place)
      (before : AreUpRight rows left tops centroids ways)
      (noted : AreUpNoted left order ways (count + 1)) where
    within_left : place < length left
    within_left = behind_parents.within count place at

    within : place < length rows
    within = let each = stage.cut.each in let one = within_left in omega (arith, each, one)

    pub up_step : AreUpRight rows left tops centroids (noted_up left weights ways place)
        × AreUpNoted left order (noted_up left weights ways place) count
    up_step = by (get_or left place None) refl (get_or ways place None) refl
      where
        here : slice_get ways place ≡ Some (get_or ways place None)
        here = let each = before.each in let one = within_left in
            slice_get-get_or ways place None (omega (arith, each, one))

        parent_here : slice_get left place ≡ Some (get_or left place None)
        parent_here = slice_get-get_or left place None within_left

        -- the later places, and this one
        more : ((parent : ℕ) → IsNoted ways place → HasParentAt left place parent
            → IsNoted ways parent) → AreUpNoted left order ways count
        more own number other parent less stands is up = elim (cases_lt count number) [
          | inl later ↦ noted number other parent (omega (arith, later)) stands is up
          | inr equal ↦
              let one : number ≡ count = omega (arith, equal, less) in
              let same : other ≡ place = same_Some other place
              (sym stands ∙ ap (slice_get order) one ∙ at) in
              own parent (subst (IsNoted ways) same is)
              (subst (λ (other : ℕ). HasParentAt left other parent) same up)
        ]

        by : (o : Option ℕ) → get_or left place None ≡ o → (w : Option Way)
            → get_or ways place None ≡ w
            → AreUpRight rows left tops centroids (option_map_or (λ parent. option_map_or (λ way.
            set ways parent (Some (behind way (get_or weights place 0)))) w ways) o ways)
            × AreUpNoted left order (option_map_or (λ parent. option_map_or (λ way.
            set ways parent (Some (behind way (get_or weights place 0)))) w ways) o ways) count
        by None e w f = (
          before,
          more (λ parent is up.
              let no : None ≡ Some parent = same_Some None (Some parent)
              (sym (parent_here ∙ ap Some e) ∙ up) in absurd (cc)),
        )
        by (Some parent) e None f = (
          before,
          more (λ also is up.
              let no : None ≡ Some is.0 = same_Some None (Some is.0)
              (sym (here ∙ ap Some f) ∙ is.1) in
              absurd (cc)),
        )
        by (Some parent) e (Some way) f = (
          record {
            each = let each = before.each in
                omega (
                  arith,
                  each,
                  length-set ways parent (Some
                      (behind way (get_or weights place 0))),
                );
            right = λ other found stands c centroid. elim (set_cases ways parent
                (Some (behind way (get_or weights place 0))) other (Some found) inside stands) [
                  | inr old ↦ before.right other found old.1 c centroid
                  | inl new ↦
                      let is : found ≡ behind way (get_or weights place 0) =
                      same_Some found (behind way (get_or weights place 0)) new.1 in
                      subst (λ (found : Way). IsWay rows (id_at rows other) (id_at rows c)
                      found.hops
                      found.greatest × ChainMeets (HasParentAt left) c other) (sym is)
                      (subst (λ (other : ℕ). IsWay rows (id_at rows other) (id_at rows c)
                      (behind way (get_or weights place 0)).hops
                      (behind way (get_or weights place 0)).greatest
                      × ChainMeets (HasParentAt left) c other) (sym new.0)
                      (up_right c (subst (λ (other : ℕ). IsCentroidAt tops centroids other c) new.0
                      centroid)))
                ];
            start = λ other other_in centroid. noted_stays ways parent
                (behind way (get_or weights place 0)) other inside
                (before.start other other_in centroid);
          },
          λ number other also less stands is_noted goes_up. elim (cases_lt count number) [
            | inl later ↦ noted_stays ways parent (behind way (get_or weights place 0)) also inside
                (noted number other also (omega (arith, later)) stands
                (old_noted number other less stands is_noted) goes_up)
            | inr equal ↦
                let one : number ≡ count = omega (arith, equal, less) in
                let same : other ≡ place = same_Some other place
                (sym stands ∙ ap (slice_get order) one ∙ at) in
                let parent_is : parent ≡ also = same_Some parent also (same_Some (Some parent)
                (Some also) (sym up ∙ subst (λ (other : ℕ). HasParentAt left other also) same
                goes_up)) in
                subst (IsNoted (set ways parent (Some (behind way (get_or weights place 0)))))
                parent_is
                (new_noted)
          ],
        )
          where
            up : HasParentAt left place parent
            up = parent_here ∙ ap Some e

            inside : parent < length ways
            inside = let each = before.each in let many = stage.cut.each in
                let one = (stage.cut.to place parent up).0 in omega (arith, each, many, one)

            new_noted : IsNoted (set ways parent (Some (behind way (get_or weights place 0))))
                parent
            new_noted = (
              behind way (get_or weights place 0),
              set_same_at ways parent
                  (Some (behind way (get_or weights place 0))) inside,
            )

            -- what is noted at a later place was before
            old_noted : (number other : ℕ) → count ≤ number → slice_get order number ≡ Some other
                → IsNoted (set ways parent (Some (behind way (get_or weights place 0)))) other
                → IsNoted ways other
            old_noted number other less stands (found, is) = elim (set_cases ways parent
                (Some (behind way (get_or weights place 0))) other (Some found) inside is) [
                  | inr old ↦ (found, old.1)
                  | inl new ↦
                      let early = behind_parents.behind count place number parent at up
                      (stands ∙ ap Some new.0) in
                      absurd (omega (arith, early, less))
                ]

            up_right : (c : ℕ) → IsCentroidAt tops centroids parent c
                → IsWay rows (id_at rows parent) (id_at rows c)
                (behind way (get_or weights place 0)).hops
                (behind way (get_or weights place 0)).greatest
                × ChainMeets (HasParentAt left) c parent
            up_right c centroid =
                let own : IsCentroidAt tops centroids place c =
                same_centroid place parent c up centroid (has_top place within_left) in
                let is = before.right place way (here ∙ ap Some f) c own in
                let short = way_short place c way.hops way.greatest within is.0 in
                let more' = way_up rows stage.net stage.tree edges stage.among known left stage.cut
                c (centroid_at place c within own) place parent way.hops way.greatest within up is.1
                is.0 in
                let hops : way.hops + 1 ≡ min (way.hops + 1) (2 ^ 32 - 1) = omega (arith, short) in
                let weight : edge_weight rows (id_at rows parent) (id_at rows place)
                ≡ get_or weights place 0 =
                edge_weight-turned rows stage.net (id_at rows place) (id_at rows parent)
                (let (edge, in', joins) : Adjacent edges (id_at rows place) (id_at rows parent) =
                (stage.cut.to place parent up).1 in
                (edge, pointed_among rows stage.net edge (stage.among edge in'), joins))
                ∙ sym (weight_is place parent up within) in (
                  subst (λ (hops : ℕ). IsWay rows (id_at rows parent) (id_at rows c) hops
                      (max way.greatest (get_or weights place 0))) hops
                      (subst (λ (weight : ℕ). IsWay rows (id_at rows parent) (id_at rows c)
                      (way.hops + 1) (max way.greatest weight)) weight more'),
                  chain_more (HasParentAt left) c place parent is.1.0 is.1.1 up,
                )
