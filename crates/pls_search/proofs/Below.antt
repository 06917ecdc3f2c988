-- The places below a number, the numbers at places, and the terms of sums over places.
use Rattle.std.proofs.Common.{◌≡◌, ◌≢◌, ℕ, zero, suc, ◌<◌, ◌≤◌, inl, inr, List, [], ◌∷◌, length, get_or, Contains, refl, ap, subst, arith}
use Rattle.std.specs.List.{sum_by}
use Rattle.std.proofs.lemmas.Bool.{cases_eq}
use Rattle.std.proofs.lemmas.List.Kept.{AllPairs-cons}
use Rattle.std.proofs.lemmas.List.Sums.{sum_by-cons}
use Rattle.std.proofs.lemmas.Option.{get_or_from_slice_get, slice_get-get_or}
use Rattle.pls_graph.proofs.Members.{Contains-cons_cases, Contains-first, Contains-from_place, Contains-later}
use Rattle.pls_facts.specs.SpanningTree.{AreDistinct}
use Rattle.pls_facts.proofs.Sums.{AreApart}
use Rattle.pls_search.specs.inner.Passing.{below, number_at}

-- the places below a number are those numbers
pub below-lt : (count place : ℕ) → Contains (below count) place → place < count
below-lt zero place in' = absurd (omega (arith, in'.1))
below-lt (suc count) place in' = elim (Contains-cons_cases count (below count) place in') [
  | inl same ↦ omega (arith, same)
  | inr later ↦ omega (arith, below-lt count place later)
]

pub lt-below : (count place : ℕ) → place < count → Contains (below count) place
lt-below zero place within = absurd (omega (arith, within))
lt-below (suc count) place within = elim (cases_eq count place) [
  | inl same ↦ subst (Contains (count ∷ below count)) same (Contains-first count (below count))
  | inr other ↦ Contains-later count (below count) place
      (lt-below count place (omega (arith, within, other)))
]

pub below-length : (count : ℕ) → length (below count) ≡ count
below-length zero = refl
below-length (suc count) = omega (arith, below-length count)

pub below-apart : (count : ℕ) → AreApart (λ place. place) (below count)
below-apart zero = tt
below-apart (suc count) = (
  λ place in' same. omega (arith, below-lt count place in', same),
  below-apart count,
)

pub below-distinct : (count : ℕ) → AreDistinct (below count)
below-distinct zero = λ i j d before within. absurd (omega (arith, within))
below-distinct (suc count) =
    AllPairs-cons (λ one other. one ≢ other) count (below count)
    (λ k d within same.
    let low = below-lt count (get_or (below count) k d)
    (Contains-from_place (below count) k (get_or (below count) k d)
    (slice_get-get_or (below count) k d within)) in
    omega (arith, low, same))
    (below-distinct count)

-- a term of a sum that is 0 is 0
pub zero_term : (f : ℕ → ℕ) (xs : List ℕ) (x : ℕ) → sum_by f xs ≡ 0 → Contains xs x → f x ≡ 0
zero_term f [] x none in' = absurd (omega (arith, in'.1))
zero_term f (y ∷ xs) x none in' =
    let head = sum_by-cons f y xs in
    elim (Contains-cons_cases y xs x in') [
      | inl same ↦ let is = ap f same in omega (arith, none, head, is)
      | inr later ↦ zero_term f xs x (omega (arith, none, head)) later
    ]

-- of a sum that is above 0 some term is
pub some_term : (f : ℕ → ℕ) (xs : List ℕ) → 1 ≤ sum_by f xs
    → (x : ℕ) × Contains xs x × (1 ≤ f x)
some_term f [] some = absurd (omega (arith, some))
some_term f (y ∷ xs) some =
    let head = sum_by-cons f y xs in
    elim (cases_eq (f y) 0) [
      | inl none ↦
          let (x, in', is) : (x : ℕ) × Contains xs x × (1 ≤ f x) =
          some_term f xs (omega (arith, some, head, none)) in
          (x, Contains-later y xs x in', is)
      | inr is ↦ (y, Contains-first y xs, grind (arith))
    ]

-- a term is at most the sum
pub term_le : (f : ℕ → ℕ) (xs : List ℕ) (x : ℕ) → Contains xs x → f x ≤ sum_by f xs
term_le f [] x in' = absurd (omega (arith, in'.1))
term_le f (y ∷ xs) x in' =
    let head = sum_by-cons f y xs in
    elim (Contains-cons_cases y xs x in') [
      | inl same ↦ let is = ap f same in omega (arith, head, is)
      | inr later ↦ let low = term_le f xs x later in omega (arith, head, low)
    ]

-- what stands at a place within, whatever stands for places that are not
pub number_any : (numbers : List ℕ) (place other : ℕ) → place < length numbers
    → get_or numbers place other ≡ number_at numbers place
number_any numbers place other within =
    get_or_from_slice_get numbers place (number_at numbers place) other
    (slice_get-get_or numbers place 0 within)
