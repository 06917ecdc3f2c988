-- Delta codes as numbers of 64 bits.
use Rattle.std.proofs.Common.{◌≡◌, ℕ, suc, ◌+◌, ◌-◌, ◌*◌, ◌/◌, ◌%◌, ◌^◌, ◌<◌, ◌≤◌, Bool, List, [], ◌∷◌, ◌++◌, length, take, drop, Some, refl, sym, ap, ◌∙◌, arith}
use Rattle.std.proofs.Math.Nat.{pow-suc, pow-succ'}
use Rattle.std.proofs.Math.Pow.{pow_mono}
use Rattle.std.proofs.lemmas.Bool.{le-ltb}
use Rattle.std.proofs.lemmas.List.{length-take-le}
use Rattle.std.proofs.lemmas.Nat.{mod-mul-add}
use Rattle.pls_bits.specs.Bytes.{weigh}
use Rattle.pls_bits.specs.Delta.{delta_code}
use Rattle.pls_bits.specs.Gamma.{behind_one, digits, floor_log, gamma_code, number_from}
use Rattle.pls_bits.specs.declared.num_code.TheConstants.{MAX_CODED}
use Rattle.pls_bits.specs.laws.FloorLogLaws.{floor_log-bound, floor_log-le, floor_log-lt_suc}
use Rattle.pls_bits.proofs.Peeked.{Begins, digits-both, digits-mod, digits-none, seen-number}
use Rattle.pls_bits.proofs.Windows.{front-lt}

-- ---- what is read

-- a power in front of some digits is a power in their number
number_from-power : (k front : ℕ) (shown : List Bool)
    → number_from (2 ^ k + front) shown ≡ 2 ^ (k + length shown) + number_from front shown
number_from-power k front [] = let none : k + 0 ≡ k = omega arith in rw none refl
number_from-power k front (digit ∷ rest) =
    let next : 2 * (2 ^ k + front) + weigh digit ≡ 2 ^ suc k + (2 * front + weigh digit) =
    omega (arith, pow-suc 2 k) in
    let place : suc k + length rest ≡ k + suc (length rest) = omega arith in
    rw (next, ← place) (number_from-power (suc k) (2 * front + weigh digit) rest)

module _ (v count : ℕ) (bits : List Bool) (small : v < 2 ^ 64) (begins : Begins v bits)
    (few : count ≤ 62) (within : count ≤ length bits) where
  -- the number that a one and the next digits show
  pub behind_one-seen : behind_one count bits
      ≡ Some (1 * 2 ^ count % 2 ^ 64 - 1 + v / 2 ^ (64 - count), drop count bits)
  behind_one-seen =
      let long = length-take-le count bits within in
      let power = number_from-power 0 0 (take count bits) in
      let seen = seen-number v bits count small begins (omega (arith, few)) within in
      let most : 2 ^ count ≤ 2 ^ 62 = pow_mono {j = 62} few in
      let some : 1 ≤ 2 ^ count = pow_mono {i = 0} (omega arith) in
      let place : 0 + count ≡ count = omega arith in
      let sum : number_from 1 (take count bits) ≡ 2 ^ count + v / 2 ^ (64 - count) =
      rw (seen, long, place) at power in
      rw (le-ltb 62 count few, le-ltb (length bits) count within)
      (ap (λ n. Some (n, drop count bits)) (omega (arith, sum, most, some)))

  -- it has a place in a word
  pub seen_fits : 1 * 2 ^ count % 2 ^ 64 - 1 + v / 2 ^ (64 - count) < 2 ^ 64
  seen_fits =
      let front = front-lt count v (omega (arith, few)) small in
      let most : 2 ^ count ≤ 2 ^ 62 = pow_mono {j = 62} few in
      omega (arith, front, most)

-- ---- what is written

module _ (x : ℕ) (coded : x ≤ MAX_CODED) where
  -- the power of the first one
  pub power-le : 1 * 2 ^ floor_log (x + 1) % 2 ^ 64 ≤ x + 1
  power-le = let low = floor_log-le (x + 1) (omega arith) in omega (arith, low)

  -- the digits behind it are below it
  pub low-lt : x + 1 - 1 * 2 ^ floor_log (x + 1) % 2 ^ 64 < 2 ^ floor_log (x + 1)
  low-lt =
      let low = floor_log-le (x + 1) (omega arith) in
      let high : x + 1 < 2 * 2 ^ floor_log (x + 1) =
      rw pow-succ' at (floor_log-lt_suc (x + 1) (omega (arith, coded))) in
      omega (arith, low, high, coded)

  -- and are those of the whole
  low-digits : digits (floor_log (x + 1)) (x + 1 - 1 * 2 ^ floor_log (x + 1) % 2 ^ 64)
      ≡ digits (floor_log (x + 1)) (x + 1)
  low-digits =
      let count = floor_log (x + 1) in
      let rest = x + 1 - 1 * 2 ^ count % 2 ^ 64 in
      let low = floor_log-le (x + 1) (omega arith) in
      let sum : 1 * 2 ^ count + rest ≡ x + 1 = omega (arith, low, coded) in
      ap (digits count) (sym (mod-mul-add 1 (2 ^ count) rest low-lt)
      ∙ ap (λ n. n % 2 ^ count) sum) ∙ digits-mod count (x + 1)

-- a count is below the power that its code has room for
pub count-lt : (count : ℕ) → count ≤ 62 → count + 1 < 2 ^ (2 * floor_log (count + 1) + 1)
count-lt count few =
    let zeros = floor_log (count + 1) in
    let high = floor_log-lt_suc (count + 1) (omega (arith, few)) in
    let more : 2 ^ suc zeros ≤ 2 ^ (2 * zeros + 1) = pow_mono (omega arith) in
    omega (arith, high, more)

-- its gamma code is its digits with zeros in front
gamma_code-digits : (count : ℕ) → count ≤ 62
    → digits (2 * floor_log (count + 1) + 1) (count + 1) ≡ gamma_code count
unfolding gamma_code
gamma_code-digits count few =
    let zeros = floor_log (count + 1) in
    let high = floor_log-lt_suc (count + 1) (omega (arith, few)) in
    let size : 2 * zeros + 1 ≡ zeros + suc zeros = omega arith in
    let number : count + 1 ≡ 0 * 2 ^ suc zeros + (count + 1) = omega arith in
    ap (λ n. digits n (count + 1)) size ∙ ap (digits (zeros + suc zeros)) number
    ∙ digits-both zeros (suc zeros) 0 (count + 1) high
    ∙ ap (λ bits. bits ++ digits (suc zeros) (count + 1)) (digits-none zeros)

-- a code is written by two numbers
pub delta_code-digits : (x : ℕ) → x ≤ MAX_CODED
    → digits (2 * floor_log (floor_log (x + 1) + 1) + 1) (floor_log (x + 1) + 1)
    ++ digits (floor_log (x + 1)) (x + 1 - 1 * 2 ^ floor_log (x + 1) % 2 ^ 64) ≡ delta_code x
unfolding delta_code
delta_code-digits x coded =
    let count = floor_log (x + 1) in
    let front = gamma_code-digits count (floor_log-bound (x + 1)) in
    let behind = low-digits x coded in
    rw (front, behind) refl
