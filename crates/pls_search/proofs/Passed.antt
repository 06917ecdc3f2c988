-- A pass over all places ends with none that waits, and with the total at each.
use Rattle.std.proofs.Common.{◌≡◌, ℕ, zero, suc, ◌<◌, ◌≤◌, inl, inr, nat_lt, nat_le, Bool, true, false, List, length, Contains, Option, Some, slice_get, refl, ap, subst, arith}
use Rattle.std.proofs.lemmas.Bool.{cases_eq, leb-true}
use Rattle.std.proofs.lemmas.Option.{get_or_from_slice_get, slice_get_within}
use Rattle.pls_facts.specs.Parents.{AreSoMany, ChainMeets}
use Rattle.pls_facts.proofs.Sums.{sum-zero, when, when-none}
use Rattle.pls_search.specs.SubtreeSizes.{AreSubtreeSizes, HasParentAt}
use Rattle.pls_search.specs.inner.Passing.{IsPassing, below, number_at, visits_from}
use Rattle.pls_search.proofs.Below.{below-lt, some_term, term_le}
use Rattle.pls_search.proofs.Brought.{child, waiting}

module _ (parents : List (Option ℕ)) where
  module _ (waits sizes : List ℕ)
      (passing : IsPassing parents (visits_from (length parents)) waits sizes) where
    -- at the end no place waits
    none_waits : (top v : ℕ) → v < length parents → passing.total v ≤ top → number_at waits v ≡ 0
    none_waits zero v v_in low =
        let sums = passing.totals.sums v v_in in absurd (omega (arith, sums, low))
    none_waits (suc top) v v_in low = elim (cases_eq (number_at waits v) 0) [
      | inl none ↦ none
      | inr some ↦
          let waited = passing.waited v v_in in
          let owed : when (nat_le (length parents) v) 1 ≡ 0 = when-none (nat_le (length parents) v) 1
          (λ is. absurd (let past = leb-true (length parents) v is in omega (arith, past, v_in))) in
          let (c, c_in, adds) : (c : ℕ) × Contains (below (length parents)) c
          × (1 ≤ when (child parents v c) (when (waiting waits c) 1)) =
          some_term (λ c. when (child parents v c) (when (waiting waits c) 1)) (below (length parents))
          (let above : 1 ≤ number_at waits v = grind (arith) in omega (arith, waited, owed, above)) in
          let is_below = below-lt (length parents) c c_in in
          let (is_one, waits_too) = both (child parents v c) (waiting waits c) adds in
          let sums = passing.totals.sums v v_in in
          let part = term_le (λ c. when (child parents v c) (when true (passing.total c)))
          (below (length parents)) c c_in in
          let one : when (child parents v c) (passing.total c) ≡ passing.total c =
          ap (λ (b : Bool). when b (passing.total c)) is_one in
          let none = none_waits top c is_below (omega (arith, sums, part, one, low)) in
          let no : nat_lt 0 0 ≡ true = rw none at waits_too in
          absurd (cc)
    ]
      where
        both : (a b : Bool) → 1 ≤ when a (when b 1) → (a ≡ true) × (b ≡ true)
        both true true some = (refl, refl)
        both true false some = absurd (omega (arith, some))
        both false b some = absurd (omega (arith, some))

    -- so each has its total
    pub passed_sizes : AreSubtreeSizes parents sizes
    passed_sizes = record { each = passing.sizes_each; size = sized_at }
      where
        sized_at : (place size : ℕ) → slice_get sizes place ≡ Some size → AreSoMany
            (λ other. (other < length parents) × ChainMeets (HasParentAt parents) other place) size
        sized_at place size at =
            let within : place < length parents =
            (let each = passing.sizes_each in
            omega (arith, each, slice_get_within sizes place size at)) in
            let sized = passing.sized place within in
            let none = sum-zero
            (λ c. when (child parents place c) (when (waiting waits c) (passing.total c)))
            (below (length parents))
            (λ c c_in. when-none (child parents place c) (when (waiting waits c) (passing.total c))
            (λ is. when-none (waiting waits c) (passing.total c) (λ waits_too.
            let low = none_waits (passing.total c) c (below-lt (length parents) c c_in) (omega arith) in
            let no : nat_lt 0 0 ≡ true = rw low at waits_too in
            absurd (cc)))) in
            let got : number_at sizes place ≡ size = get_or_from_slice_get sizes place size 0 at in
            subst (AreSoMany (λ other.
            (other < length parents) × ChainMeets (HasParentAt parents) other place))
            (omega (arith, sized, none, got)) (passing.totals.many place)
