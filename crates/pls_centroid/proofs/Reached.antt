-- The ways that are noted after all steps up and down are those of all places.
use Rattle.std.proofs.Common.{◌≡◌, ◌∙◌, ℕ, zero, suc, ◌+◌, ◌-◌, ◌<◌, ◌≤◌, ◌==◌, Bool, true, false, cond, List, [], length, get_or, set, slice_get, Option, Some, None, refl, sym, ap, subst, arith}
use Rattle.std.specs.Option.{option_map_or}
use Rattle.std.proofs.lemmas.Bool.{eq-eqb, eqb-true}
use Rattle.std.proofs.lemmas.Option.{get_or_from_slice_get, same_Some, slice_get-get_or, slice_get_within}
use Rattle.pls_configuration.specs.declared.row.NodeRow.{NodeRow}
use Rattle.pls_configuration.specs.Walk.{Edge}
use Rattle.pls_facts.specs.Parents.{ChainMeets}
use Rattle.pls_search.specs.SubtreeSizes.{HasParentAt}
use Rattle.pls_centroid.specs.declared.reaching.Way.{Way}
use Rattle.pls_centroid.specs.inner.Cut.{id_at}
use Rattle.pls_centroid.specs.inner.Reaching.{AreDownRight, AreStarted, AreUpNoted, AreUpRight, AreWaysOf, IsNotedDown, IsNotedUp, IsCentroidAt, IsNoted, IsWay, no_way, start_at, way_by}
use Rattle.pls_centroid.specs.inner.Rooted.{AreBehindParents, AreCentroidsOf, AreWeightsUp, IsStage}
use Rattle.pls_centroid.proofs.Ways.{way_itself}
use Rattle.pls_centroid.proofs.UpSteps as up_steps
use Rattle.pls_centroid.proofs.DownSteps as down_steps

module _ (rows : List NodeRow) (edges : List Edge) (left : List (Option ℕ)) (tops : List ℕ)
    (stage : IsStage rows edges left tops) (centroids : List (Option ℕ))
    (are : AreCentroidsOf rows edges tops centroids) (weights : List ℕ)
    (weigh : AreWeightsUp rows left weights) where
  -- after all places all have their ways
  pub ways_all : (order : List ℕ) → AreBehindParents left order → (ways : List (Option Way))
      (count : ℕ) → length order ≤ count → AreDownRight rows left tops centroids order ways count
      → AreWaysOf rows tops centroids ways
  ways_all order behind_parents ways count enough down = record {
    each = down.each ∙ stage.cut.each;
    way = λ place c within centroid.
        let many = stage.cut.each in
        let (number, stands) : (number : ℕ) × (slice_get order number ≡ Some place) =
        behind_parents.all place (omega (arith, within, many)) in
        let one = slice_get_within order number place stands in
        let noted : IsNoted ways place = down.done number place (omega (arith, one, enough))
        stands in
        (noted.0, noted.1, down.right place noted.0 noted.1 c centroid);
  }

  -- at first the centroids alone are noted
  pub up_begins : (ways : List (Option Way)) → length ways ≡ length left
      → ((place : ℕ) (entry : Option Way) → slice_get ways place ≡ Some entry
      → entry ≡ start_at tops centroids place) → AreUpRight rows left tops centroids ways
  up_begins ways each entries = record {
    each = each;
    right = λ place way stands c centroid. right place way c centroid
        (entries place (Some way) stands);
    start = λ place within centroid.
        let one : place < length ways = omega (arith, within, each) in
        let at : slice_get ways place ≡ Some (get_or ways place None) =
        slice_get-get_or ways place None one in
        (no_way, at ∙ ap Some (entries place (get_or ways place None) at ∙ start place centroid));
  }
    where
      read : (place c : ℕ) → IsCentroidAt tops centroids place c
          → get_or centroids (get_or tops place 0) None ≡ Some c
      read place c (top, at, is) =
          ap (λ (top : ℕ). get_or centroids top None) (get_or_from_slice_get tops place top 0 at)
          ∙ get_or_from_slice_get centroids top (Some c) None is

      start : (place : ℕ) → IsCentroidAt tops centroids place place
          → start_at tops centroids place ≡ Some no_way
      start place centroid = rw (read place place centroid, eq-eqb place place refl) refl

      right : (place : ℕ) (way : Way) (c : ℕ) → IsCentroidAt tops centroids place c
          → Some way ≡ start_at tops centroids place
          → IsWay rows (id_at rows place) (id_at rows c) way.hops way.greatest
          × ChainMeets (HasParentAt left) c place
      right place way c centroid is = by (c == place) refl
          (is ∙ ap (λ (o : Option ℕ). cond (option_map_or (λ c. c == place) o false) (Some no_way)
          None) (read place c centroid))
        where
          by : (b : Bool) → (c == place) ≡ b → Some way ≡ cond (c == place) (Some no_way) None
              → IsWay rows (id_at rows place) (id_at rows c) way.hops way.greatest
              × ChainMeets (HasParentAt left) c place
          by false e is =
              let no : Some way ≡ None = is ∙ ap (λ (b : Bool). cond b (Some no_way) None) e in
              absurd (cc)
          by true e is =
              let same : c ≡ place = eqb-true c place e in
              let one : way ≡ no_way = same_Some way no_way
              (is ∙ ap (λ (b : Bool). cond b (Some no_way) None) e) in (
                subst (λ (way : Way). IsWay rows (id_at rows place) (id_at rows c) way.hops
                    way.greatest) (sym one)
                    (subst (λ (c : ℕ). IsWay rows (id_at rows place) (id_at rows c) 0 0) (sym same)
                    (way_itself rows (id_at rows place))),
                ([], same),
              )

  module _ (order : List ℕ) (behind_parents : AreBehindParents left order) where
    -- all steps up
    up_all : (count : ℕ) → count ≤ length order → (old new : List (Option Way))
        → AreUpRight rows left tops centroids old → IsNotedUp left order weights count old new
        → AreUpRight rows left tops centroids new
        × AreUpNoted left order new (length order - count)
    up_all zero few old new up same = (
      subst (AreUpRight rows left tops centroids) same up,
      λ number place parent less stands is goes_up.
          let within = slice_get_within order number place stands in
          absurd (omega (arith, within, less)),
    )
    up_all (suc count) few old new up (before, made, is) =
        let number : ℕ = length order - suc count in
        let place : ℕ = get_or order number 0 in
        let at : slice_get order number ≡ Some place =
        slice_get-get_or order number 0 (omega (arith, few)) in
        let rest = up_all count (omega (arith, few)) old before up made in
        let next : length order - count ≡ number + 1 = omega (arith, few) in
        let step = up_steps.up_step rows edges left tops stage centroids are weights weigh order
        behind_parents before number place at rest.0
        (subst (AreUpNoted left order before) next rest.1) in
        subst (λ (ways : List (Option Way)). AreUpRight rows left tops centroids ways
        × AreUpNoted left order ways number) (sym is) step

    -- all steps down
    down_all : (count : ℕ) → count ≤ length order → (old new : List (Option Way))
        → AreDownRight rows left tops centroids order old 0
        → IsNotedDown left order weights count old new
        → AreDownRight rows left tops centroids order new count
    down_all zero few old new down same =
        subst (λ (ways : List (Option Way)). AreDownRight rows left tops centroids order ways 0)
        same
        down
    down_all (suc count) few old new down (before, made, is) =
        let place : ℕ = get_or order count 0 in
        let at : slice_get order count ≡ Some place =
        slice_get-get_or order count 0 (omega (arith, few)) in
        let rest = down_all count (omega (arith, few)) old before down made in
        let one : count + 1 ≡ suc count = omega arith in
        subst (λ (ways : List (Option Way)). AreDownRight rows left tops centroids order ways
        (suc count)) (sym is)
        (subst (AreDownRight rows left tops centroids order (set before place
        (way_by left weights before place))) one
        (down_steps.down_step rows edges left tops stage centroids are weights weigh order
        behind_parents before count place at rest))

    -- so the ways that are noted are those of the places
    pub ways_right : (started up down : List (Option Way)) → AreStarted tops centroids started
        → length tops ≡ length left
        → IsNotedUp left order weights (length order) started up
        → IsNotedDown left order weights (length order) up down
        → AreWaysOf rows tops centroids down
    ways_right started up down start each goes_up goes_down =
        let all : length order ≤ length order = omega arith in
        let first = up_all (length order) all started up
        (up_begins started (start.each ∙ each) start.entry) goes_up in
        let none : length order - length order ≡ 0 = omega arith in
        ways_all order behind_parents down (length order) all
        (down_all (length order) all up down
        (down_steps.down_begins rows edges left tops stage centroids are weights weigh order
        behind_parents up first.0
        (subst (AreUpNoted left order up) none first.1)) goes_down)
