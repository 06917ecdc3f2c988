-- Numbers of a range.
use Rattle.std.proofs.Common.{◌≡◌, ◌∙◌, ℕ, zero, suc, ◌+◌, ◌-◌, ◌<◌, ◌≤◌, Bool, true, false, cond, ◌==◌, refl, arith, Contains}
use Rattle.std.specs.List.{range_with_len}
use Rattle.std.proofs.lemmas.Bool.{eqb-true}
use Rattle.std.proofs.lemmas.List.FromFn.{get_or-range_with_len, length-range_with_len}
use Rattle.pls_trial.proofs.Linking.{times}

-- the numbers of a range
pub Contains-range : (first count number : ℕ) → first ≤ number → number < first + count
    → Contains (range_with_len first count) number
Contains-range first count number from below =
    let within : number - first < count = omega arith in (
      number - first,
      omega (arith, length-range_with_len first count),
      get_or-range_with_len first count (number - first) number within ∙ omega arith,
    )

pub range-within : (first count number : ℕ) → Contains (range_with_len first count) number
    → (first ≤ number) × (number < first + count)
range-within first count number (i, within, is) =
    let inside : i < count = omega (arith, length-range_with_len first count) in
    let at = get_or-range_with_len first count i number inside in
    (omega arith, omega arith)

-- a number stands in a range once at most
pub times-range : (first count id : ℕ) → times id (range_with_len first count) ≤ 1
times-range first count id = (by first count).1
  where
    by : (first count : ℕ) → (id < first → times id (range_with_len first count) ≡ 0)
        × (times id (range_with_len first count) ≤ 1)
    by first zero = (λ below. refl, omega arith)
    by first (suc count) = at (id == first) refl (by (first + 1) count)
      where
        at : (b : Bool) → (id == first) ≡ b
            → (id < first + 1 → times id (range_with_len (first + 1) count) ≡ 0)
            × (times id (range_with_len (first + 1) count) ≤ 1)
            → (id < first → cond b 1 0 + times id (range_with_len (first + 1) count) ≡ 0)
            × (cond b 1 0 + times id (range_with_len (first + 1) count) ≤ 1)
        at true same rest = let e = eqb-true id first same in
            (λ below. absurd (omega arith), let none = rest.0 (omega arith) in omega arith)
        at false apart rest = let few = rest.1 in
            (λ below. let none = rest.0 (omega arith) in omega arith, omega arith)
