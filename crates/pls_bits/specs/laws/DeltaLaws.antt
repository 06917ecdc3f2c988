-- The laws of the delta code.
use Rattle.std.proofs.Common.{◌≡◌, ℕ, ◌+◌, ◌≤◌, Bool, List, ◌++◌, length, Option, Some, None, refl, sym, ap, ◌∙◌, append_assoc, arith}
use Rattle.std.proofs.lemmas.List.{length-append}
use Rattle.pls_bits.specs.Delta.{behind_count, delta_code, delta_takes}
use Rattle.pls_bits.specs.Gamma.{digits, floor_log, gamma_code, gamma_takes}
use Rattle.pls_bits.specs.declared.num_code.TheConstants.{MAX_CODED, MAX_CODE_BITS}
use Rattle.pls_bits.specs.laws.BinaryLaws.{length-digits}
use Rattle.pls_bits.specs.laws.FloorLogLaws.{floor_log-bound, floor_log-grows, floor_log-unique}
use Rattle.pls_bits.specs.laws.GammaLaws.{behind_one-code, behind_one-only, gamma_code-grows, gamma_takes-code, gamma_takes-only, length-gamma_code}

-- ---- the length

-- a code has the gamma code of the count of its digits, and these
pub length-delta_code : (x : ℕ)
    → length (delta_code x) ≡ length (gamma_code (floor_log (x + 1))) + floor_log (x + 1)
unfolding delta_code
length-delta_code x =
    let log = floor_log (x + 1) in
    let behind = length-digits log (x + 1) in
    let both = length-append (gamma_code log) (digits log (x + 1)) in
    omega (arith, behind, both)

-- the code of a count of digits begins with at most five zeros
pub floor_log-count : (count : ℕ) → count ≤ 62 → floor_log (count + 1) ≤ 5
floor_log-count count few =
    let order = floor_log-grows (count + 1) 63 (omega (arith, few)) in
    let five : floor_log 63 ≡ 5 = floor_log-unique 5 63 (omega arith) (omega arith) (omega arith) in
    omega (arith, order, five)

-- no code has more bits than 62 and the gamma code of 62
pub delta_short : (x : ℕ) → length (delta_code x) ≤ MAX_CODE_BITS
delta_short x =
    let bound = floor_log-bound (x + 1) in
    let zeros = floor_log-count (floor_log (x + 1)) bound in
    let count = length-gamma_code (floor_log (x + 1)) in
    let long = length-delta_code x in
    omega arith

-- a smaller number has no longer code
pub delta_code-grows : (small great : ℕ) → small ≤ great
    → length (delta_code small) ≤ length (delta_code great)
delta_code-grows small great order =
    let logs = floor_log-grows (small + 1) (great + 1) (omega arith) in
    let counts = gamma_code-grows (floor_log (small + 1)) (floor_log (great + 1)) logs in
    let short = length-delta_code small in
    let long = length-delta_code great in
    omega arith

-- ---- what is taken

-- a code is taken off, whatever follows it
pub delta_takes-code : (number : ℕ) (rest : List Bool) → number ≤ MAX_CODED
    → delta_takes (delta_code number ++ rest) ≡ Some (number, rest)
unfolding delta_code delta_takes
delta_takes-code number rest small =
    let count = floor_log (number + 1) in
    let shown = digits count (number + 1) in
    let bound = floor_log-bound (number + 1) in
    ap (λ bits. behind_count (gamma_takes bits)) (append_assoc (gamma_code count) shown rest)
    ∙ ap behind_count (gamma_takes-code count (shown ++ rest) (omega arith))
    ∙ behind_one-code number rest small

-- what is taken behind a count was a code
behind_count-only : (bits : List Bool) (taken : Option (ℕ × List Bool)) (number : ℕ)
    (rest : List Bool) → gamma_takes bits ≡ taken → behind_count taken ≡ Some (number, rest)
    → (number ≤ MAX_CODED) × (bits ≡ delta_code number ++ rest)
unfolding delta_code
behind_count-only bits None number rest count found = absurd (cc found)
behind_count-only bits (Some (count, behind)) number rest first found =
    let front = gamma_takes-only bits count behind first in
    let last = behind_one-only count number behind rest found in (
      last.0,
      front.1 ∙ ap (λ more. gamma_code count ++ more) last.2
          ∙ sym (append_assoc (gamma_code count) (digits count (number + 1)) rest)
          ∙ ap (λ n. (gamma_code n ++ digits n (number + 1)) ++ rest) (sym last.1),
    )

-- nothing but codes is taken off
pub delta_takes-only : (bits : List Bool) (number : ℕ) (rest : List Bool)
    → delta_takes bits ≡ Some (number, rest)
    → (number ≤ MAX_CODED) × (bits ≡ delta_code number ++ rest)
unfolding delta_takes
delta_takes-only bits number rest taken =
    behind_count-only bits (gamma_takes bits) number rest refl taken
