-- How the first pair of edges is found, from the last edge to the first.
use Rattle.std.specs.Prelude.{◌≡◌, ℕ, zero, suc, ◌+◌, ◌<◌, ◌≤◌, ◌⊎◌, nat_eq, nat_le, Bool, if◌then◌else◌, List, IfNone, IfSome, slice_get, Option, Some, None}
use Rattle.std.specs.HashMap.{HashMap, get}
use Rattle.std.specs.Cmp.Lexicographic.{pointwise}
use Rattle.pls_configuration.specs.declared.row.NodeRow.{NodeRow}
use Rattle.pls_splice.specs.Crossing.{IsPair}
use Rattle.pls_splice.specs.declared.finding.Pair.{Pair}

-- the first number that passes, of so many from a number on
abbrev pub first_from : (ℕ → Bool) → ℕ → ℕ → Option ℕ
first_from passes from zero = None
first_from passes from (suc count) =
    if passes from then Some from else first_from passes (suc from) count

-- whether two lists of words are the same, as a table of them compares them
abbrev pub same_words : List ℕ → List ℕ → Bool
same_words = pointwise nat_eq

-- the table has for each key the first number with that key, of so many from a number on
abbrev pub HasFirst : {K S : Type 0} → (K → List ℕ) → HashMap K ℕ S → (ℕ → List ℕ) → ℕ → ℕ → Type 0
HasFirst {K} words table key from count = (q : K)
    → get (λ x y. same_words (words x) (words y)) table q
    ≡ first_from (λ j. same_words (key j) (words q)) from count

-- these are the keys of the numbers from 0 on
abbrev pub AreKeys : {K : Type 0} → (K → List ℕ) → List K → (ℕ → List ℕ) → Type 0
AreKeys {K} words keys key =
    (k : ℕ) (found : K) → slice_get keys k ≡ Some found → words found ≡ key k

-- the pair of edge i and a later one, where that is not too far, and else the pair found before
abbrev pub with_edge : Option Pair → ℕ → Option ℕ → ℕ → Option Pair
with_edge found i None count = found
with_edge found i (Some j) count =
    if nat_le (j + 3) (count + i) then Some (record { first = i; second = j }) else found

-- the pair is the first of those whose first edge is not before this one
pub record IsFirstFrom (rows : List NodeRow) (labels : List (List Bool)) (order : List ℕ) (from : ℕ)
    (pair : Pair) : Type 0 where
  pub fits : IsPair rows labels order pair.first pair.second
  pub first : (k l : ℕ) → from ≤ k → IsPair rows labels order k l
      → (pair.first < k) ⊎ ((pair.first ≡ k) × (pair.second ≤ l))

-- what was found is the first of the pairs whose first edge is not before this one, or there is
-- none
pub record IsFoundFrom (rows : List NodeRow) (labels : List (List Bool)) (order : List ℕ) (from : ℕ)
    (found : Option Pair) : Type 0 where
  pub none : IfNone found ((k l : ℕ) → from ≤ k → ¬ IsPair rows labels order k l)
  pub some : IfSome found (IsFirstFrom rows labels order from)
