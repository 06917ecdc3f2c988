-- Pairs of a depth and a place, sorted by the depth, give all places by their depths.
use Rattle.std.proofs.Common.{◌≡◌, ◌∙◌, ℕ, ◌<◌, ◌≤◌, ◌++◌, List, length, map, take, get_or, slice_get, Some, option_map, sym, ap, subst, arith}
use Rattle.std.specs.List.Sorted.{IsNonDecreasingBy, IsPermutation}
use Rattle.std.proofs.lemmas.List.{take-append-le, take_all}
use Rattle.std.proofs.lemmas.List.Sorted.{Contains-permutation, IsPermutation-sym}
use Rattle.std.proofs.lemmas.Option.{get_or_from_slice_get, slice_get-get_or, slice_get-map, slice_get_within}
use Rattle.pls_graph.proofs.Finds.{from_option_map}
use Rattle.pls_graph.proofs.Members.{Contains-from_place, place_from_Contains}
use Rattle.pls_centroid.specs.inner.Rooted.{IsByDepth}

-- the front of a list that goes on
pub taken_front : {X : Type 0} (front tail : List X) (count : ℕ) → count ≡ length front
    → take count (front ++ tail) ≡ front
taken_front front tail count same =
    let few : count ≤ length front = omega (arith, same) in
    rw take-append-le (take_all count front (omega (arith, same)))

module _ (depths : List ℕ) (pairs sorted : List (ℕ × ℕ)) (many : length pairs ≡ length depths)
    (are : (place : ℕ) (pair : ℕ × ℕ) → slice_get pairs place ≡ Some pair
    → pair ≡ (get_or depths place 0, place))
    (moved : IsPermutation pairs sorted) (rises : IsNonDecreasingBy (λ (pair : ℕ × ℕ). pair.0)
    sorted)
  where
    -- a sorted pair is that of its place
    pair_at : (number : ℕ) (pair : ℕ × ℕ) → slice_get sorted number ≡ Some pair
        → (pair.1 < length depths) × (pair.0 ≡ get_or depths pair.1 0)
    pair_at number pair at =
        let (place, stands) : (place : ℕ) × (slice_get pairs place ≡ Some pair) =
        place_from_Contains pairs pair (Contains-permutation sorted pairs pair
        (IsPermutation-sym pairs sorted moved) (Contains-from_place sorted number pair at)) in
        let is : pair ≡ (get_or depths place 0, place) = are place pair stands in
        let one : pair.1 ≡ place = ap (λ (pair : ℕ × ℕ). pair.1) is in
        let deep : pair.0 ≡ get_or depths place 0 = ap (λ (pair : ℕ × ℕ). pair.0) is in (
          omega (arith, one, many, slice_get_within pairs place pair stands),
          deep ∙ ap (λ (place : ℕ). get_or depths place 0) (sym one),
        )

    abbrev second : ℕ × ℕ → ℕ
    second pair = pair.1

    pub by_depth : (order : List ℕ) (count : ℕ) → length sorted ≤ count
        → order ≡ map (λ (pair : ℕ × ℕ). pair.1) (take count sorted) → IsByDepth depths order
    by_depth order count all is = subst (IsByDepth depths)
        (sym (is ∙ ap (map (λ (pair : ℕ × ℕ). pair.1)) (take_all count sorted all))) (record {
          within = λ number place at.
              let (pair, stands, one) : (pair : ℕ × ℕ) × (slice_get sorted number ≡ Some pair)
              × (pair.1 ≡ place) = found number place at in
              let known = (pair_at number pair stands).0 in omega (arith, known, one);
          all = λ place inside.
              let pair : ℕ × ℕ = get_or pairs place (0, 0) in
              let stands : slice_get pairs place ≡ Some pair =
              slice_get-get_or pairs place (0, 0) (omega (arith, inside, many)) in
              let one : pair.1 ≡ place = ap (λ (pair : ℕ × ℕ). pair.1) (are place pair stands) in
              let (number, there) : (number : ℕ) × (slice_get sorted number ≡ Some pair) =
              place_from_Contains sorted pair (Contains-permutation pairs sorted pair moved
              (Contains-from_place pairs place pair stands)) in (
                number,
                slice_get-map second sorted number ∙ ap (option_map second) there
                    ∙ ap Some one,
              );
          rise = λ number later place other before at there.
              let (one, stands, is_place) : (pair : ℕ × ℕ)
              × (slice_get sorted number ≡ Some pair) × (pair.1 ≡ place) =
              found number place at in
              let (two, also, is_other) : (pair : ℕ × ℕ)
              × (slice_get sorted later ≡ Some pair) × (pair.1 ≡ other) =
              found later other there in
              let less = rises number later (0, 0) (omega (arith, before))
              (slice_get_within sorted later two also) in
              let first : (get_or sorted number (0, 0)).0 ≡ get_or depths place 0 =
              ap (λ (pair : ℕ × ℕ). pair.0) (get_or_from_slice_get sorted number one (0, 0) stands)
              ∙ (pair_at number one stands).1 ∙ ap (λ (p : ℕ). get_or depths p 0) is_place in
              let last : (get_or sorted later (0, 0)).0 ≡ get_or depths other 0 =
              ap (λ (pair : ℕ × ℕ). pair.0) (get_or_from_slice_get sorted later two (0, 0) also)
              ∙ (pair_at later two also).1 ∙ ap (λ (p : ℕ). get_or depths p 0) is_other in
              omega (arith, less, first, last);
        })
      where
        found : (number place : ℕ)
            → slice_get (map (λ (pair : ℕ × ℕ). pair.1) sorted) number ≡ Some place
            → (pair : ℕ × ℕ) × (slice_get sorted number ≡ Some pair) × (pair.1 ≡ place)
        found number place at = from_option_map second (slice_get sorted number) place
            (sym (slice_get-map second sorted number) ∙ at)
