-- Components that are marked one after the other.
use Rattle.std.proofs.Common.{◌≡◌, ◌≢◌, ◌∙◌, ℕ, ◌+◌, ◌<◌, ◌≤◌, ◌⊎◌, Bool, inl, inr, List, [], ◌∷◌, ◌++◌, length, get_or, slice_get, Contains, Some, sym, ap, subst, arith}
use Rattle.std.proofs.lemmas.Bool.{cases_lt}
use Rattle.std.proofs.lemmas.List.{length-map}
use Rattle.std.proofs.lemmas.List.Elements.{All-contains, Contains-append_left, Contains-get_or, Contains-push, Contains-push_cases}
use Rattle.std.proofs.lemmas.List.Quantifiers.{all_pairs_push}
use Rattle.std.proofs.lemmas.Option.{get_or_from_slice_get, same_Some, slice_get-get_or, slice_get_within}
use Rattle.pls_configuration.specs.declared.row.NodeRow.{NodeRow}
use Rattle.pls_configuration.specs.declared.verdict.Verdict.{Verdict}
use Rattle.pls_configuration.specs.declared.verdict.Verdict.TheVariants.{Accept}
use Rattle.pls_configuration.specs.Configuration.{IsNetwork}
use Rattle.pls_graph.specs.declared.size.Size.{Size}
use Rattle.pls_graph.proofs.Members.{Contains-from_place, place_from_Contains}
use Rattle.pls_labels.specs.Seen.{Seen, label_of, seen, views}
use Rattle.pls_components.specs.Components.{AreComponents, IsComponent, items_at, least_id}
use Rattle.pls_components.specs.Parts.{AreLacking, AreShown}
use Rattle.pls_components.specs.inner.Marking.{AreMarkedBefore, ArePutAt, IsShownBy}
use Rattle.pls_components.proofs.Apart.{component_listed, same_component}
use Rattle.pls_components.proofs.Local.{view_same}
use Rattle.pls_components.proofs.Putting.{items-agree}

module _ (holds : List NodeRow → Type 0) (marked : List NodeRow → List (List Bool) → Type 0)
    (judge : Seen → Verdict) (longest : Size → ℕ) (rows : List NodeRow) (parts : List (List ℕ)) where
  abbrev Before : ℕ → List (List Bool) → List ℕ → Type 0
  Before number labels ids = AreMarkedBefore holds marked judge longest rows parts number labels ids

  abbrev ShownAt : List ℕ → List (List Bool) → Type 0
  ShownAt places labels =
      IsShownBy holds marked judge longest (items_at rows places) (items_at labels places)

  pub marked-first : (labels : List (List Bool)) → length labels ≡ length rows → Before 0 labels []
  marked-first labels size = record {
    size = size;
    done = λ k places none. absurd (omega arith);
    rising = λ i j d less none. absurd (omega arith);
    each = λ id in'. absurd (let i = in'.1 in omega arith);
  }

  module _ (net : IsNetwork rows) (are : AreComponents rows parts) (number : ℕ)
      (places : List ℕ) (at : slice_get parts number ≡ Some places) where
    -- an earlier component has none of its places
    apart : (k : ℕ) (before : List ℕ) → k < number → slice_get parts k ≡ Some before → (place : ℕ)
        → Contains before place → Contains places place → ⊥
    apart k before less there place in' too =
        let same : before ≡ places =
        same_component rows net before places
        (are.each before (Contains-from_place parts k before there))
        (are.each places (Contains-from_place parts number places at)) place in' too in
        let order = are.order k number places less (slice_get_within parts number places at) in
        let one : get_or parts k places ≡ before = get_or_from_slice_get parts k before places there in
        let other : get_or parts number places ≡ places =
        get_or_from_slice_get parts number places places at in
        let both : least_id rows (get_or parts k places) ≡ least_id rows (get_or parts number places) =
        ap (least_id rows) (one ∙ same ∙ sym other) in
        absurd (omega arith)

    -- one more component has the property
    pub marked-more : (old new put : List (List Bool)) (ids : List ℕ) → Before number old ids
        → ArePutAt places put old new → IsShownBy holds marked judge longest (items_at rows places) put
        → Before (number + 1) new ids
    marked-more old new put ids so_far is_put shown = record {
      size = is_put.size ∙ so_far.size;
      done = λ k listed less there. elim (cases_lt k number) [
        | inl before ↦ elim (so_far.done k listed before there) [
          | inl was ↦ inl (subst
              (λ (labels : List (List Bool)). IsShownBy holds marked judge longest
              (items_at rows listed) labels)
              (items-agree old new listed (λ place in'. sym (is_put.others place
              (λ too. apart k listed before there place in' too)))) was)
          | inr lacks ↦ inr lacks
        ]
        | inr past ↦
            let same : number ≡ k = omega arith in
            let here : places ≡ listed = same_Some places listed
            (sym at ∙ ap (slice_get parts) same ∙ there) in
            inl (subst (λ (listed : List ℕ). ShownAt listed new) here
            (subst (IsShownBy holds marked judge longest (items_at rows places)) (sym is_put.here) shown))
      ];
      rising = so_far.rising;
      each = λ id in'. let each = so_far.each id in' in (
        each.0,
        each.1,
        (let less = each.2 in omega arith),
        each.3,
        each.4,
        each.5,
      );
    }

    -- one more component lacks it
    pub lacking-more : (labels : List (List Bool)) (ids : List ℕ) (id : ℕ)
        → Before number labels ids → (holds (items_at rows places) → ⊥) → least_id rows places ≡ id
        → Before (number + 1) labels (ids ++ id ∷ [])
    lacking-more labels ids id so_far lacks least = record {
      size = so_far.size;
      done = λ k listed less there. elim (cases_lt k number) [
        | inl before ↦ elim (so_far.done k listed before there) [
          | inl was ↦ inl was
          | inr lacks ↦ inr (lacks.0, Contains-append_left ids (id ∷ []) (least_id rows listed) lacks.1)
        ]
        | inr past ↦
            let same : number ≡ k = omega arith in
            let here : places ≡ listed = same_Some places listed
            (sym at ∙ ap (slice_get parts) same ∙ there) in
            inr (subst (λ (listed : List ℕ). (holds (items_at rows listed) → ⊥)
            × Contains (ids ++ id ∷ []) (least_id rows listed)) here
            (lacks, subst (Contains (ids ++ id ∷ [])) (sym least) (Contains-push ids id)))
      ];
      rising = all_pairs_push (λ (one later : ℕ). one < later) ids id so_far.rising
          (λ k d inside.
          let (j, listed, less, there, lacks', is) = so_far.each (get_or ids k d)
          (Contains-get_or ids k d inside) in
          let order = are.order j number places less (slice_get_within parts number places at) in
          let one : least_id rows (get_or parts j places) ≡ least_id rows listed =
          ap (least_id rows) (get_or_from_slice_get parts j listed places there) in
          let other : least_id rows (get_or parts number places) ≡ least_id rows places =
          ap (least_id rows) (get_or_from_slice_get parts number places places at) in
          omega arith);
      each = λ other in'. elim (Contains-push_cases ids id other in') [
        | inl was ↦ let each = so_far.each other was in (
          each.0,
          each.1,
          (let less = each.2 in omega arith),
          each.3,
          each.4,
          each.5,
        )
        | inr same ↦ (number, places, omega arith, at, lacks, least ∙ same)
      ];
    }

  module _ (net : IsNetwork rows) (are : AreComponents rows parts) (number : ℕ)
      (all : length parts ≤ number) (labels : List (List Bool)) (ids : List ℕ)
      (done : Before number labels ids) where
    -- what was found of a component
    found : (places : List ℕ) → IsComponent rows places → ShownAt places labels
        ⊎ ((holds (items_at rows places) → ⊥) × Contains ids (least_id rows places))
    found places is =
        let (k, at) : (k : ℕ) × (slice_get parts k ≡ Some places) =
        place_from_Contains parts places (component_listed rows net parts are places is) in
        done.done k places (let within = slice_get_within parts k places at in omega arith) at

    -- no identity is listed: all have the property
    pub all-shown : ids ≡ [] → AreShown holds marked judge longest rows labels
    all-shown empty = record {
      has = λ places is. (shown places is).has;
      each = done.size;
      right = λ places is. (shown places is).right;
      accepted = λ i d inside.
          let many : length (views rows labels) ≡ length rows =
          length-map rows (seen (label_of rows labels)) in
          let (places, listed, in') : (places : List ℕ) × Contains parts places × Contains places i =
          are.all i (omega arith) in
          let (j, at) : (j : ℕ) × (slice_get places j ≡ Some i) = place_from_Contains places i in' in
          let is : IsComponent rows places = are.each places listed in
          let kept : slice_get (views (items_at rows places) (items_at labels places)) j
          ≡ Some (get_or (views rows labels) i d) =
          view_same rows net labels done.size places is i j at
          ∙ slice_get-get_or (views rows labels) i d inside in
          All-contains (λ (view : Seen). judge view ≡ Accept)
          (views (items_at rows places) (items_at labels places)) (get_or (views rows labels) i d)
          (shown places is).accepted
          (Contains-from_place (views (items_at rows places) (items_at labels places)) j
          (get_or (views rows labels) i d) kept);
      short = λ places is. (shown places is).short;
    }
      where
        shown : (places : List ℕ) → IsComponent rows places → ShownAt places labels
        shown places is = elim (found places is) [
          | inl has ↦ has
          | inr lacks ↦
              let in' : Contains [] (least_id rows places) =
              subst (λ (ids : List ℕ). Contains ids (least_id rows places)) empty lacks.1 in
              absurd (let i = in'.1 in omega arith)
        ]

    -- else these lack it
    pub some-lacking : ids ≢ [] → AreLacking holds rows ids
    some-lacking filled = record {
      some = filled;
      rising = done.rising;
      each = λ id in'.
          let (k, places, less, at, lacks, is) = done.each id in' in (
            places,
            record { component = are.each places (Contains-from_place parts k places at); lacks = lacks },
            is,
          );
      all = λ places lacks. elim (found places lacks.component) [
        | inl has ↦ absurd (lacks.lacks has.has)
        | inr named ↦ named.1
      ];
    }
