-- One step more of the loops over places: a top noted, a greatest size, a first central place.
use Rattle.std.proofs.Common.{◌≡◌, ◌≢◌, ◌∙◌, ℕ, ◌+◌, ◌<◌, max, ◌⊎◌, inl, inr, Bool, true, false, List, length, get_or, set, slice_get, Option, Some, None, sym, ap, subst, arith, get_or-set_same, get_or-set_other}
use Rattle.std.proofs.lemmas.Bool.{cases_eq, cases_lt}
use Rattle.std.proofs.lemmas.List.{length-set}
use Rattle.std.proofs.lemmas.Option.{get_or_from_slice_get, same_Some, slice_get-get_or, slice_get_within}
use Rattle.pls_configuration.specs.declared.row.NodeRow.{NodeRow}
use Rattle.pls_configuration.specs.Configuration.{ids_of}
use Rattle.pls_configuration.specs.Walk.{Edge}
use Rattle.pls_search.specs.SubtreeSizes.{HasParentAt}
use Rattle.pls_centroid.specs.Centroid.{is_central}
use Rattle.pls_centroid.specs.inner.Cut.{id_at}
use Rattle.pls_centroid.specs.inner.Rooted.{AreTopsSoFar, IsFirstCentral, IsGreatestBelow, IsTopOf, first_of}

-- what stands at a place of a list that was written once: the new item, or the old one elsewhere
pub set_cases : {X : Type 0} (xs : List X) (place : ℕ) (new : X) (other : ℕ) (x : X)
    → place < length xs → slice_get (set xs place new) other ≡ Some x
    → ((other ≡ place) × (x ≡ new)) ⊎ ((other ≢ place) × (slice_get xs other ≡ Some x))
set_cases xs place new other x within at = elim (cases_eq other place) [
  | inl same ↦ inl (
    same,
    sym (get_or_from_slice_get (set xs place new) other x x at)
        ∙ ap (λ (other : ℕ). get_or (set xs place new) other x) same
        ∙ get_or-set_same xs place new x within,
  )
  | inr apart ↦
      let inside = slice_get_within (set xs place new) other x at in
      let long = length-set xs place new in
      inr (
        apart,
        slice_get-get_or xs other x (omega (arith, inside, long))
            ∙ ap Some (sym (get_or-set_other xs place other new x apart)
            ∙ get_or_from_slice_get (set xs place new) other x x at),
      )
]

-- one top more
pub tops_more : (left : List (Option ℕ)) (order : List ℕ) (count : ℕ) (tops : List ℕ)
    (place top : ℕ) → slice_get order count ≡ Some place → place < length tops
    → IsTopOf left place top → AreTopsSoFar left order count tops
    → AreTopsSoFar left order (count + 1) (set tops place top)
tops_more left order count tops place top at within is before number other found less stands noted =
    elim (set_cases tops place top other found within noted) [
      | inl same ↦ subst (λ (found : ℕ). IsTopOf left other found) (sym same.1)
          (subst (λ (other : ℕ). IsTopOf left other top) (sym same.0) is)
      | inr apart ↦ elim (cases_lt number count) [
        | inl earlier ↦ before number other found earlier stands apart.1
        | inr late ↦
            let here : number ≡ count = omega (arith, late, less) in
            let one : other ≡ place = same_Some other place
            (sym stands ∙ ap (slice_get order) here ∙ at) in
            absurd (apart.0 one)
      ]
    ]

-- one child more
pub greatest_more : (left : List (Option ℕ)) (sizes : List ℕ) (count place greatest size : ℕ)
    → HasParentAt left count place → slice_get sizes count ≡ Some size
    → IsGreatestBelow left sizes count place greatest
    → IsGreatestBelow left sizes (count + 1) place (max size greatest)
greatest_more left sizes count place greatest size up at is = record {
  most = λ child other less down stands. elim (cases_lt child count) [
    | inl earlier ↦
        let few = is.most child other earlier down stands in omega (arith, few)
    | inr late ↦
        let here : child ≡ count = omega (arith, late, less) in
        let same : other ≡ size = same_Some other size
        (sym stands ∙ ap (slice_get sizes) here ∙ at) in
        omega (arith, same)
  ];
  one = elim (cases_lt greatest size) [
    | inl more ↦
        let is_size : max size greatest ≡ size = omega (arith, more) in
        inr (count, up, at ∙ ap Some (sym is_size))
    | inr less ↦
        let is_old : max size greatest ≡ greatest = omega (arith, less) in
        elim is.one [
          | inl none ↦ inl (is_old ∙ none)
          | inr found ↦ inr (found.0, found.1, found.2 ∙ ap Some (sym is_old))
        ]
  ];
}

-- a place more that is no child
pub greatest_past : (left : List (Option ℕ)) (sizes : List ℕ) (count place greatest : ℕ)
    → (HasParentAt left count place → ⊥) → IsGreatestBelow left sizes count place greatest
    → IsGreatestBelow left sizes (count + 1) place greatest
greatest_past left sizes count place greatest none is = record {
  most = λ child other less down stands. elim (cases_lt child count) [
    | inl earlier ↦ is.most child other earlier down stands
    | inr late ↦
        let here : child ≡ count = omega (arith, late, less) in
        absurd (none (subst (λ (child : ℕ). HasParentAt left child place) here down))
  ];
  one = is.one;
}

module _ (rows : List NodeRow) (edges : List Edge) (tops : List ℕ) where
  abbrev Central : ℕ → Bool
  Central place = is_central edges (ids_of rows) (id_at rows place)

  -- nothing found yet, and here is the first
  pub first_here : (count top : ℕ) → IsFirstCentral rows edges tops count top None
      → slice_get tops count ≡ Some top
      → is_central edges (ids_of rows) (id_at rows count) ≡ true
      → IsFirstCentral rows edges tops (count + 1) top (Some count)
  first_here count top none at central =
      (omega arith, at, central, λ place less stands. none place less stands)

  -- found before
  pub first_stays : (count top c : ℕ) → IsFirstCentral rows edges tops count top (Some c)
      → IsFirstCentral rows edges tops (count + 1) top (Some c)
  first_stays count top c is = let less = is.0 in (omega (arith, less), is.1, is.2, is.3)

  -- none here
  pub first_past : (count top : ℕ) → IsFirstCentral rows edges tops count top None
      → (slice_get tops count ≡ Some top
      → is_central edges (ids_of rows) (id_at rows count) ≡ false)
      → IsFirstCentral rows edges tops (count + 1) top None
  first_past count top none off place less stands = elim (cases_lt place count) [
    | inl earlier ↦ none place earlier stands
    | inr late ↦
        let here : place ≡ count = omega (arith, late, less) in
        subst (λ (place : ℕ). is_central edges (ids_of rows) (id_at rows place) ≡ false) (sym here)
        (off (subst (λ (place : ℕ). slice_get tops place ≡ Some top) here stands))
  ]

-- one place more, where each central place that was found is within
pub first_within : (centroids : List (Option ℕ)) (limit count top : ℕ) (central : Bool)
    → count < limit → top < length centroids
    → ((place c : ℕ) → slice_get centroids place ≡ Some (Some c) → c < limit) → (place c : ℕ)
    → slice_get (set centroids top (first_of (get_or centroids top None) central count)) place
    ≡ Some (Some c) → c < limit
first_within centroids limit count top central less inside before place c at =
    elim (set_cases centroids top (first_of (get_or centroids top None) central count) place
    (Some c) inside at) [
      | inl same ↦ by (get_or centroids top None) central (slice_get-get_or centroids top None
          inside)
          same.1
      | inr apart ↦ before place c apart.1
    ]
  where
    by : (found : Option ℕ) (central : Bool) → slice_get centroids top ≡ Some found
        → Some c ≡ first_of found central count → c < limit
    by (Some old) central stands is = let same : c ≡ old = same_Some c old is in
        let less = before top old stands in omega (arith, same, less)
    by None true stands is = let same : c ≡ count = same_Some c count is in omega
        (arith, same, less)
    by None false stands is = absurd (cc)
