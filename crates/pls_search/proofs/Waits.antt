-- How many visits each place waits for, as its children are counted.
use Rattle.std.proofs.Common.{◌≡◌, ◌∙◌, ℕ, ◌+◌, ◌<◌, ◌≤◌, ◌==◌, inl, inr, Bool, true, false, List, [], ◌∷◌, length, set, Option, Some, None, ap, arith}
use Rattle.std.specs.List.{sum_by}
use Rattle.std.proofs.lemmas.Bool.{cases_eq, eq-eqb, ne_eqb}
use Rattle.std.proofs.Math.Numerals.{add-one}
use Rattle.std.proofs.lemmas.List.{get_or-set_other, get_or-set_same, length-set}
use Rattle.std.proofs.lemmas.List.Sums.{sum_by-cons}
use Rattle.pls_facts.proofs.Sums.{when}
use Rattle.pls_search.specs.inner.Passing.{AreWaits, below, number_at, parent_of}
use Rattle.pls_search.proofs.Below.{below-length}
use Rattle.pls_search.proofs.Brought.{child, child-None, child-Some}

when-le : (b : Bool) (n : ℕ) → when b n ≤ n
when-le true n = omega arith
when-le false n = omega arith

module _ (parents : List (Option ℕ)) where
  -- one more place counted among the children
  pub waits_more : (first : ℕ) (waits : List ℕ) → AreWaits parents first waits
      → parent_of parents first ≡ None → AreWaits parents (first + 1) waits
  waits_more first waits are none = record {
    each = are.each;
    is = λ v v_in.
        let before = are.is v v_in in
        let head = sum_by-cons (λ c. when (child parents v c) 1) first (below first) in
        let not_child : when (child parents v first) 1 ≡ 0 =
        ap (λ (b : Bool). when b 1) (child-None parents v first none) in
        let next : below (first + 1) ≡ first ∷ below first = ap below (add-one first) in
        let more = ap (sum_by (λ c. when (child parents v c) (when true 1))) next in
        omega (arith, before, head, not_child, more);
  }

  pub waits_more_at : (first : ℕ) (waits : List ℕ) → AreWaits parents first waits → (parent : ℕ)
      → parent < length parents → parent_of parents first ≡ Some parent
      → AreWaits parents (first + 1) (set waits parent (number_at waits parent + 1))
  waits_more_at first waits are parent parent_in up = record {
    each = length-set waits parent (number_at waits parent + 1) ∙ are.each;
    is = λ v v_in.
        let before = are.is v v_in in
        let head = sum_by-cons (λ c. when (child parents v c) 1) first (below first) in
        let one : when (child parents v first) 1 ≡ when (v == parent) 1 =
        ap (λ (b : Bool). when b 1) (child-Some parents v first parent up) in
        let next : below (first + 1) ≡ first ∷ below first = ap below (add-one first) in
        let more = ap (sum_by (λ c. when (child parents v c) (when true 1))) next in
        elim (cases_eq v parent) [
          | inl same ↦
              let now : number_at (set waits parent (number_at waits parent + 1)) v
              ≡ number_at waits parent + 1 =
              ap (number_at (set waits parent (number_at waits parent + 1))) same
              ∙ get_or-set_same waits parent (number_at waits parent + 1) 0
              (let each = are.each in omega (arith, each, parent_in)) in
              let yes : when (v == parent) 1 ≡ 1 =
              ap (λ (b : Bool). when b 1) (eq-eqb v parent same) in
              let then = ap (number_at waits) same in
              omega (arith, before, head, one, more, now, yes, then)
          | inr apart ↦
              let now : number_at (set waits parent (number_at waits parent + 1)) v
              ≡ number_at waits v =
              get_or-set_other waits parent v (number_at waits parent + 1) 0 apart in
              let no : when (v == parent) 1 ≡ 0 =
              ap (λ (b : Bool). when b 1) (ne_eqb v parent apart) in
              omega (arith, before, head, one, more, now, no)
        ];
  }

  -- a place waits for at most one more than the places counted
  pub waits_few : (first : ℕ) (waits : List ℕ) → AreWaits parents first waits → (v : ℕ)
      → v < length parents → number_at waits v ≤ first + 1
  waits_few first waits are v v_in =
      let is = are.is v v_in in
      let low = few (below first) in
      let many = below-length first in
      omega (arith, is, low, many)
    where
      few : (xs : List ℕ) → sum_by (λ c. when (child parents v c) (when true 1)) xs ≤ length xs
      few [] = omega arith
      few (x ∷ xs) =
          omega (
            arith,
            few xs,
            sum_by-cons (λ c. when (child parents v c) (when true 1)) x xs,
            when-le (child parents v x) 1,
          )
