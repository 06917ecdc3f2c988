-- The greatest of some numbers: each is at most the greatest, and the greatest at most a limit of
-- all and the sum of all.
use Rattle.std.proofs.Common.{ℕ, ◌≤◌, inl, inr, List, [], ◌∷◌, map, sum_by, Contains, arith}
use Rattle.std.proofs.lemmas.List.Sums.{sum_by-cons}
use Rattle.pls_graph.specs.Size.{greatest}
use Rattle.pls_graph.proofs.Members.{Contains-cons_cases, Contains-first, Contains-later}

-- a number of a list is at most the greatest
pub in_greatest : (numbers : List ℕ) (number : ℕ) → Contains numbers number
    → number ≤ greatest numbers
in_greatest [] number in' = absurd (omega (arith, in'.1))
in_greatest (first ∷ numbers) number in' =
    elim (Contains-cons_cases first numbers number in') [
      | inl same ↦ omega (arith, same)
      | inr later ↦ omega (arith, in_greatest numbers number later)
    ]

-- the greatest of some numbers is at most a limit of all
pub greatest_within : {X : Type 0} (h : X → ℕ) (items : List X) (most : ℕ)
    → ((x : X) → Contains items x → h x ≤ most) → greatest (map h items) ≤ most
greatest_within h [] most each = omega arith
greatest_within h (x ∷ items) most each =
    let first = each x (Contains-first x items) in
    let others = greatest_within h items most (λ y in'. each y (Contains-later x items y in')) in
    omega (arith, first, others)

-- no item is greater than the sum
pub greatest_in_sum : {X : Type 0} (h : X → ℕ) (items : List X)
    → greatest (map h items) ≤ sum_by h items
greatest_in_sum h [] = omega arith
greatest_in_sum h (x ∷ items) =
    let others = greatest_in_sum h items in
    let sum = sum_by-cons h x items in
    omega (arith, others, sum)
