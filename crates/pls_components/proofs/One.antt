-- The one component of a connected network.
use Rattle.std.proofs.Common.{◌≡◌, ◌∙◌, ℕ, zero, suc, ◌+◌, ◌<◌, ◌≤◌, List, [], ◌∷◌, ◌++◌, length, map, replicate, take, drop, slice_get, Option, Some, refl, sym, ap, subst, arith, add-one}
use Rattle.std.proofs.lemmas.List.{length-map, length-replicate, take_all}
use Rattle.std.proofs.lemmas.List.Elements.{All-contains}
use Rattle.std.proofs.lemmas.Option.{same_Some}
use Rattle.pls_configuration.specs.declared.row.NodeRow.{NodeRow}
use Rattle.pls_configuration.specs.Configuration.{IsNetwork}
use Rattle.pls_configuration.specs.Walk.{IsConnected}
use Rattle.pls_graph.specs.Places.{beside}
use Rattle.pls_graph.proofs.Beside.{beside_within}
use Rattle.pls_graph.proofs.Finds.{item_at}
use Rattle.pls_graph.proofs.Members.{Contains-from_place, Contains-map}
use Rattle.pls_components.specs.Components.{AreComponents, AreJoinedAt}
use Rattle.pls_components.specs.declared.component_list.Span.{Span}
use Rattle.pls_components.specs.inner.Numbers.{AreNumbered, AreSorted, AreSpans, HasNumber, places_from, places_of_number, span_items}
use Rattle.pls_components.proofs.Sorting.{sorted_components}

-- where all numbers are 0, the places of the number 0 are all places
zeros-push : (first count : ℕ)
    → places_from first (replicate (suc count) 0) 0
    ≡ places_from first (replicate count 0) 0 ++ (first + count) ∷ []
zeros-push first zero = ap (λ (n : ℕ). n ∷ []) (let same : first ≡ first + 0 = omega arith in same)
zeros-push first (suc count) =
    ap (λ (rest : List ℕ). first ∷ rest)
    (zeros-push (first + 1) count
    ∙ ap (λ (n : ℕ). places_from (first + 1) (replicate count 0) 0 ++ n ∷ [])
    (let same : (first + 1) + count ≡ first + suc count = omega arith in same))

pub zeros-more : (members : List ℕ) (count : ℕ) → members ≡ places_of_number (replicate count 0) 0
    → members ++ count ∷ [] ≡ places_of_number (replicate (count + 1) 0) 0
zeros-more members count is =
    let same : 0 + count ≡ count = omega arith in
    let all : members ++ count ∷ [] ≡ places_of_number (replicate (suc count) 0) 0 =
    ap (λ (front : List ℕ). front ++ count ∷ []) is
    ∙ ap (λ (n : ℕ). places_of_number (replicate count 0) 0 ++ n ∷ []) (sym same)
    ∙ sym (zeros-push 0 count) in
    rw add-one all

long_zeros : (first count : ℕ) → length (places_from first (replicate count 0) 0) ≡ count
long_zeros first zero = refl
long_zeros first (suc count) = let rest = long_zeros (first + 1) count in omega arith

one_items : (many : ℕ) (members : List ℕ) (span : Span) → span.start ≡ 0 → span.count ≡ many
    → members ≡ places_of_number (replicate many 0) 0
    → span_items members span ≡ places_of_number (replicate many 0) 0
one_items many members span start count is =
    ap (λ (n : ℕ). take span.count (drop n members)) start
    ∙ take_all span.count members
    (let long = ap (length {A = ℕ}) is in let total = long_zeros 0 many in omega arith)
    ∙ is

one_sorted : (many : ℕ) (members : List ℕ) (span : Span) → span.start ≡ 0 → span.count ≡ many
    → members ≡ places_of_number (replicate many 0) 0
    → AreSorted (replicate many 0) (span_items members span ∷ [])
one_sorted many members span start count is zero places there =
    sym (same_Some (span_items members span) places there)
    ∙ one_items many members span start count is
one_sorted many members span start count is (suc number) places there = absurd (cc)

pub one_spans : (many : ℕ) (members : List ℕ) (span : Span) → span.start ≡ 0 → span.count ≡ many
    → members ≡ places_of_number (replicate many 0) 0 → AreSpans members (span ∷ [])
one_spans many members span start count is zero one there =
    let same = same_Some span one there in
    let long = ap (length {A = ℕ}) is in
    let total = long_zeros 0 many in
    subst (λ (s : Span). s.start + s.count ≤ length members) same (omega arith)
one_spans many members span start count is (suc number) one there = absurd (cc)

module _ (rows : List NodeRow) (net : IsNetwork rows) (joined : IsConnected rows) where
  abbrev found : List (Option ℕ)
  found = map (λ n. Some n) (replicate (length rows) 0)

  has_zero : (place : ℕ) → place < length rows → HasNumber found place 0
  has_zero place within = at (length rows) place within
    where
      at : (count place : ℕ) → place < count → HasNumber (map (λ n. Some n) (replicate count 0)) place 0
      at zero place within = absurd (omega arith)
      at (suc count) zero within = refl
      at (suc count) (suc place) within = at count place (omega arith)

  has_within : (place known : ℕ) → HasNumber found place known → (place < length rows) × (known ≡ 0)
  has_within place known has = at (length rows) place has
    where
      at : (count place : ℕ) → HasNumber (map (λ n. Some n) (replicate count 0)) place known
          → (place < count) × (known ≡ 0)
      at zero place has = absurd (cc)
      at (suc count) zero has = (omega arith, sym (same_Some 0 known has))
      at (suc count) (suc place) has =
          let rest = at count place has in (let less = rest.0 in omega arith, rest.1)

  all_joined : (i j : ℕ) → i < length rows → j < length rows → AreJoinedAt rows i j
  all_joined i j one other =
      let (row, at) : (row : NodeRow) × (slice_get rows i ≡ Some row) = item_at rows i one in
      let (last, there) : (row : NodeRow) × (slice_get rows j ≡ Some row) = item_at rows j other in
      record {
        one = row;
        other = last;
        there = at;
        here = there;
        walk = joined row.id last.id
            (Contains-map (λ (row : NodeRow). row.id) rows row (Contains-from_place rows i row at))
            (Contains-map (λ (row : NodeRow). row.id) rows last (Contains-from_place rows j last there));
      }

  one_numbered : AreNumbered rows found (length rows) 1
  one_numbered = record {
    size = length-map (replicate (length rows) 0) (λ (n : ℕ). Some n)
        ∙ length-replicate (length rows) 0;
    few = net.limits.some;
    all = λ place within. (0, has_zero place within);
    below = λ place known has. let zero' = (has_within place known has).1 in omega arith;
    each = λ known less. (
      0,
      net.limits.some,
      subst (HasNumber found 0) (let same : 0 ≡ known = omega arith in same) (has_zero 0 net.limits.some),
    );
    walks = λ i j known one other.
        all_joined i j (has_within i known one).0 (has_within j known other).0;
    closed = λ place known other has in'.
        let here = has_within place known has in
        let inside : other < length rows =
        All-contains (λ (k : ℕ). k < length rows) (beside rows place) other
        (beside_within rows net place here.0) in' in
        subst (HasNumber found other) (sym here.1) (has_zero other inside);
    earlier = λ place known smaller has less.
        absurd (let zero' = (has_within place known has).1 in omega arith);
  }

  -- all places, in one span, are the components
  pub one_part : (members : List ℕ) (span : Span) → span.start ≡ 0 → span.count ≡ length rows
      → members ≡ places_of_number (replicate (length rows) 0) 0
      → AreComponents rows (span_items members span ∷ [])
  one_part members span start count is =
      sorted_components rows net found 1 one_numbered (replicate (length rows) 0) refl
      (span_items members span ∷ []) (one_sorted (length rows) members span start count is) refl
