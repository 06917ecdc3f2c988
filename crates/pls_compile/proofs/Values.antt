-- How large the values of terms are.
use Rattle.std.proofs.Common.{◌≡◌, ℕ, zero, suc, ◌+◌, ◌-◌, ◌*◌, ◌^◌, ◌<◌, ◌≤◌, Bool, true, false, List, [], ◌∷◌, length, get_or, Option, Some, None, refl, ap, ◌∙◌, subst, ⊎_elim, arith}
use Rattle.std.specs.Prelude.{All, max, slice_get, if◌then◌else◌, option_and_then}
use Rattle.std.proofs.Math.Nat.{two-pow-succ, mul-le-mul_right}
use Rattle.std.proofs.lemmas.Bool.{cases_lt}
use Rattle.std.proofs.lemmas.List.{get_or_past}
use Rattle.std.proofs.lemmas.Option.{slice_get_within, get_or_from_slice_get}
use Rattle.std.proofs.lemmas.Nat.{pow-add, pow_pos}
use Rattle.pls_bits.specs.Bytes.{weigh}
use Rattle.pls_scheme.specs.Reading.{ReadPort, target}
use Rattle.pls_rules.specs.Formula.{Term, Number, Id, Mark, Num, Degree, Pointed, My, Up, UpWeight, Nb, NbWeight, NbUp, Add, Sum, formula_height, formula_nesting, term_height, term_nesting}
use Rattle.pls_rules.specs.RuleSet.{TermFits}
use Rattle.pls_compile.specs.RuleMeaning.{Sight, field_at, weight_at, innermost, sum_where, holds, value}
use Rattle.pls_compile.specs.Readable.{IsPort, IsReadable}

-- 2 ^ 64, doubled so many times
unfoldable pub limit : ℕ → ℕ
limit doublings = 2 ^ (64 + doublings)

limit-base : (v : ℕ) → v < 2 ^ 64 → v < limit 0
unfolding limit
limit-base v small = small

pub limit-suc : (k : ℕ) → limit (suc k) ≡ limit k + limit k
unfolding limit
limit-suc k =
    let e : 64 + suc k ≡ suc (64 + k) = omega arith in
    ap (λ (n : ℕ). 2 ^ n) e ∙ two-pow-succ (64 + k)

limit-fifteen : (k : ℕ) → limit (k + 15) ≡ 32768 * limit k
unfolding limit
limit-fifteen k =
    let e : 64 + (k + 15) ≡ 15 + (64 + k) = omega arith in
    ap (λ (n : ℕ). 2 ^ n) e ∙ pow-add 2 15 (64 + k)

limit_pos : (k : ℕ) → 0 < limit k
unfolding limit
limit_pos k = pow_pos (64 + k)

limit_more : (k d : ℕ) → limit k ≤ limit (k + d)
limit_more k zero = let e : k ≡ k + 0 = omega arith in
    let same = ap limit e in omega (arith, same)
limit_more k (suc d) =
    let e : k + suc d ≡ suc (k + d) = omega arith in
    let same = ap limit e in
    let before = limit_more k d in
    omega (arith, same, before, limit-suc (k + d))

pub limit_grows : (k m : ℕ) → k ≤ m → limit k ≤ limit m
limit_grows k m order =
    let e : k + (m - k) ≡ m = omega arith in
    let same = ap limit e in
    omega (arith, same, limit_more k (m - k))

-- all values that may stand on the stack are below 2 ^ 128
limit_top : limit 59 ≤ 2 ^ 128
unfolding limit
limit_top = omega arith

pub below_top : (v k : ℕ) → v < limit k → k ≤ 59 → v < 2 ^ 128
below_top v k small few = omega (arith, limit_grows k 59 few, limit_top)

pub weigh_small : (b : Bool) → weigh b < 2 ^ 64
weigh_small true = omega arith
weigh_small false = omega arith

-- an element of a list of small numbers, or 0
small_at : (label : List ℕ) (field : ℕ) → All (λ (v : ℕ). v < 2 ^ 64) label
    → get_or label field 0 < 2 ^ 64
small_at label field small =
    ⊎_elim (λ within. small field 0 within)
    (λ past. let e : get_or label field 0 ≡ 0 = get_or_past label field 0 past in omega (arith, e))
    (cases_lt field (length label))

-- what a port of the list is
pub port_at : (count : ℕ) (ports : List (ReadPort (List ℕ))) (place : ℕ) (port : ReadPort (List ℕ))
    → All (IsPort count) ports → slice_get ports place ≡ Some port → IsPort count port
port_at count ports place port each found =
    subst (IsPort count) (get_or_from_slice_get ports place port port found)
    (each place port (slice_get_within ports place port found))

-- so it is with what is found there, if it is found
field_small : (count field : ℕ) (port : Option (ReadPort (List ℕ)))
    → ((found : ReadPort (List ℕ)) → port ≡ Some found → IsPort count found)
    → field_at field port < 2 ^ 64
field_small count field None fits = omega arith
field_small count field (Some port) fits = small_at port.label field (fits port refl).label.small

weight_small : (count : ℕ) (port : Option (ReadPort (List ℕ)))
    → ((found : ReadPort (List ℕ)) → port ≡ Some found → IsPort count found)
    → weight_at port < 2 ^ 64
weight_small count None fits = omega arith
weight_small count (Some port) fits = (fits port refl).weight

-- a sum of two
limit_two : (x y h1 h2 q1 q2 : ℕ) → x < limit (h1 + 14 * q1) → y < limit (h2 + 14 * q2)
    → x + y < limit (1 + max h1 h2 + 14 * max q1 q2)
limit_two x y h1 h2 q1 q2 small_x small_y =
    let m : ℕ = max h1 h2 + 14 * max q1 q2 in
    let one = limit_grows (h1 + 14 * q1) m (omega arith) in
    let two = limit_grows (h2 + 14 * q2) m (omega arith) in
    let e : 1 + max h1 h2 + 14 * max q1 q2 ≡ suc m = omega arith in
    let same = ap limit e in
    omega (arith, one, two, same, limit-suc m)

-- a sum over ports
sum_most : (test : ℕ → Bool) (number : ℕ → ℕ) (most n : ℕ) → ((port : ℕ) → number port < most)
    → sum_where test number n ≤ n * most
sum_most test number most zero small = omega arith
sum_most test number most (suc n) small =
    let before = sum_most test number most n small in
    let here = small n in
    by (test n) before here
  where
    by : (b : Bool) → sum_where test number n ≤ n * most → number n < most
        → sum_where test number n + (if b then number n else 0) ≤ suc n * most
    by true before here = omega (arith, before, here)
    by false before here = omega (arith, before, here)

pub sum_below : (test : ℕ → Bool) (number : ℕ → ℕ) (k n : ℕ)
    → ((port : ℕ) → number port < limit k)
    → n ≤ 32767 → sum_where test number n < limit (k + 15)
sum_below test number k n small few =
    let sum = sum_most test number (limit k) n small in
    let most : n * limit k ≤ 32767 * limit k = mul-le-mul_right (limit k) few in
    omega (arith, sum, most, limit-fifteen k, limit_pos k)

module _ (count : ℕ) (view : Sight) (readable : IsReadable count view) where
  pub target_fits : (found : ReadPort (List ℕ)) → target view ≡ Some found → IsPort count found
  target_fits found is = by view.state.up is
    where
      by : (up : Option ℕ) → option_and_then (slice_get view.ports) up ≡ Some found
          → IsPort count found
      by None is = absurd (cc)
      by (Some place) is = port_at count view.ports place found readable.ports is

  pub innermost_fits : (ports : List ℕ) (found : ReadPort (List ℕ))
      → innermost view ports ≡ Some found → IsPort count found
  innermost_fits [] found is = absurd (cc)
  innermost_fits (place ∷ others) found is = port_at count view.ports place found readable.ports is

  -- the value of a term
  pub term_small : (inside : Bool) (t : Term ℕ) (ports : List ℕ) → TermFits count inside t
      → value view ports t < limit (term_height t + 14 * term_nesting t)
  term_small inside (Number n) ports fits = limit-base n (omega (arith, fits))
  term_small inside Id ports fits = limit-base view.id readable.id
  term_small inside Mark ports fits = limit-base view.state.mark readable.mark
  term_small inside Num ports fits = limit-base view.state.num readable.num
  term_small inside Degree ports fits =
      limit-base (length view.ports) (omega (arith, readable.degree))
  term_small inside Pointed ports fits = limit-base _ (weigh_small _)
  term_small inside (My f) ports fits = limit-base _ (small_at view.own f readable.own.small)
  term_small inside (Up f) ports fits =
      limit-base _ (field_small count f (target view) target_fits)
  term_small inside UpWeight ports fits =
      limit-base _ (weight_small count (target view) target_fits)
  term_small inside (Nb f) ports fits =
      limit-base _ (field_small count f (innermost view ports) (innermost_fits ports))
  term_small inside NbWeight ports fits =
      limit-base _ (weight_small count (innermost view ports) (innermost_fits ports))
  term_small inside NbUp ports fits = limit-base _ (weigh_small _)
  term_small inside (Add a b) ports fits =
      limit_two _ _ (term_height a) (term_height b) (term_nesting a) (term_nesting b)
      (term_small inside a ports fits.0) (term_small inside b ports fits.1)
  term_small inside (Sum a b) ports fits =
      let k : ℕ = term_height b + 14 * term_nesting b in
      let sum = sum_below (λ (port : ℕ). holds view (port ∷ ports) a)
      (λ (port : ℕ). value view (port ∷ ports) b) k (length view.ports)
      (λ port. term_small true b (port ∷ ports) fits.1) readable.degree in
      let grows = limit_grows (k + 15) (1 + max (formula_height a) (term_height b)
      + 14 * (1 + max (formula_nesting a) (term_nesting b))) (omega arith) in
      omega (arith, sum, grows)
