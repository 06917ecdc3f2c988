-- The laws of the gamma code.
use Rattle.std.proofs.Common.{◌≡◌, ℕ, zero, suc, ◌+◌, ◌-◌, ◌*◌, ◌^◌, ◌<◌, ◌≤◌, Bool, true, false, List, [], ◌∷◌, ◌++◌, length, take, drop, replicate, Some, None, refl, sym, ap, ◌∙◌, inl, inr, append_assoc, arith}
use Rattle.std.proofs.lemmas.Bool.{cases_lt, le-ltb, lt-ltb}
use Rattle.std.proofs.lemmas.List.{length-append, length-replicate, length-take-le, take-append-drop}
use Rattle.std.proofs.Math.Seq.{drop-append_seam, take-append_seam}
use Rattle.std.proofs.Math.Pow.{pow_mono}
use Rattle.std.proofs.lemmas.Nat.{pow_pos}
use Rattle.std.proofs.lemmas.Option.{same_Some}
use Rattle.pls_bits.specs.Gamma.{behind_one, behind_zeros, digits, floor_log, gamma_code, gamma_takes, number_from}
use Rattle.pls_bits.specs.declared.num_code.TheConstants.{MAX_CODED, MAX_CODE_BITS}
use Rattle.pls_bits.specs.laws.BinaryLaws.{digits-number_from, length-digits, number_behind-le, number_behind-lt, number_from-digits, one_in_front}
use Rattle.pls_bits.specs.laws.FloorLogLaws.{floor_log-bound, floor_log-grows, floor_log-le, floor_log-lt_suc, floor_log-unique}

-- ---- the length

-- a code has its zeros twice and the one between
pub length-gamma_code : (x : ℕ) → length (gamma_code x) ≡ 2 * floor_log (x + 1) + 1
unfolding gamma_code
length-gamma_code x =
    let zeros = length-replicate (floor_log (x + 1)) false in
    let behind = length-digits (suc (floor_log (x + 1))) (x + 1) in
    let both =
    length-append (replicate (floor_log (x + 1)) false)
    (digits (suc (floor_log (x + 1))) (x + 1)) in
    omega (arith, zeros, behind, both)

-- no code has more bits than twice 62 and one
pub gamma_short : (x : ℕ) → length (gamma_code x) ≤ MAX_CODE_BITS
gamma_short x =
    let bound = floor_log-bound (x + 1) in
    let long = length-gamma_code x in
    omega arith

-- a smaller number has no longer code
pub gamma_code-grows : (small great : ℕ) → small ≤ great
    → length (gamma_code small) ≤ length (gamma_code great)
gamma_code-grows small great order =
    let logs = floor_log-grows (small + 1) (great + 1) (omega arith) in
    let short = length-gamma_code small in
    let long = length-gamma_code great in
    omega arith

-- ---- the code behind its zeros

-- the code with the one written out
gamma_code-one : (k x y : ℕ) → x + 1 ≡ y → 2 ^ k ≤ y → y < 2 ^ suc k → k ≤ 62
    → gamma_code x ≡ replicate k false ++ true ∷ digits k y
unfolding gamma_code
gamma_code-one k x y next low high few =
    let log = floor_log-unique k y few low high in
    let one = one_in_front k y low high in
    rw (next, log, one) refl

-- zeros in front are counted
pub behind_zeros-replicate : (k count : ℕ) (bits : List Bool)
    → behind_zeros count (replicate k false ++ bits) ≡ behind_zeros (count + k) bits
behind_zeros-replicate zero count bits = ap (λ n. behind_zeros n bits) (omega arith)
behind_zeros-replicate (suc k) count bits =
    behind_zeros-replicate k (suc count) bits ∙ ap (λ n. behind_zeros n bits) (omega arith)

-- one more zero in front
replicate-behind : (k : ℕ) (bits : List Bool)
    → replicate k false ++ false ∷ bits ≡ replicate (suc k) false ++ bits
replicate-behind zero bits = refl
replicate-behind (suc k) bits = ap (λ rest. false ∷ rest) (replicate-behind k bits)

-- digits behind a one are taken
behind_one-digits : (k : ℕ) (shown rest : List Bool) → length shown ≡ k → k ≤ 62
    → behind_one k (shown ++ rest) ≡ Some (number_from 1 shown - 1, rest)
behind_one-digits k shown rest long few =
    let both = length-append shown rest in
    let front = take-append_seam shown rest in
    let back = drop-append_seam shown rest in
    rw (
      ← long,
      le-ltb 62 (length shown) (omega arith),
      le-ltb (length (shown ++ rest))
          (length shown) (omega arith),
      front,
      back,
    ) refl

-- the digits of a number behind its first one are taken
pub behind_one-code : (number : ℕ) (rest : List Bool) → number ≤ MAX_CODED
    → behind_one (floor_log (number + 1)) (digits (floor_log (number + 1)) (number + 1) ++ rest)
    ≡ Some (number, rest)
behind_one-code number rest small =
    let k = floor_log (number + 1) in
    let low = floor_log-le (number + 1) (omega arith) in
    let high = floor_log-lt_suc (number + 1) (omega arith) in
    let shown = digits k (number + 1) in
    let whole : number_from 1 shown ≡ number + 1 =
    rw (one_in_front k (number + 1) low high) at (number_from-digits k (number + 1)) in
    behind_one-digits k shown rest (length-digits k (number + 1)) (floor_log-bound (number + 1))
    ∙ ap (λ x. Some (x, rest)) (omega (arith, whole))

-- a code is taken off, whatever follows it
pub gamma_takes-code : (number : ℕ) (rest : List Bool) → number ≤ MAX_CODED
    → gamma_takes (gamma_code number ++ rest) ≡ Some (number, rest)
unfolding gamma_takes
gamma_takes-code number rest small =
    let k = floor_log (number + 1) in
    let low = floor_log-le (number + 1) (omega arith) in
    let high = floor_log-lt_suc (number + 1) (omega arith) in
    let few = floor_log-bound (number + 1) in
    let shown = digits k (number + 1) in
    let code : gamma_code number ++ rest ≡ replicate k false ++ true ∷ (shown ++ rest) =
    ap (λ bits. bits ++ rest) (gamma_code-one k number (number + 1) refl low high few)
    ∙ append_assoc (replicate k false) (true ∷ shown) rest in
    rw code
    (behind_zeros-replicate k 0 (true ∷ (shown ++ rest))
    ∙ ap (λ count. behind_one count (shown ++ rest)) (omega arith)
    ∙ behind_one-code number rest small)

-- ---- what is taken is a code

-- some digits are those of the number that they show behind a one
shown-digits : (shown : List Bool) → length shown ≤ 62
    → (number_from 1 shown - 1 ≤ MAX_CODED)
    × (floor_log (number_from 1 shown - 1 + 1) ≡ length shown)
    × (shown ≡ digits (length shown) (number_from 1 shown - 1 + 1))
shown-digits shown few =
    let y = number_from 1 shown in
    let low = number_behind-le shown in
    let high = number_behind-lt shown in
    let some = pow_pos (length shown) in
    let most : 2 ^ suc (length shown) ≤ 2 ^ 63 = pow_mono {j = 63} (omega (arith, few)) in
    let next : y - 1 + 1 ≡ y = omega arith in (
      omega arith,
      ap floor_log next ∙ floor_log-unique (length shown) y few low high,
      sym (ap (digits (length shown)) next ∙ digits-number_from 1 shown),
    )

-- what is taken behind a one are the digits of the number
pub behind_one-only : (count number : ℕ) (bits rest : List Bool)
    → behind_one count bits ≡ Some (number, rest)
    → (number ≤ MAX_CODED) × (floor_log (number + 1) ≡ count)
    × (bits ≡ digits count (number + 1) ++ rest)
behind_one-only count number bits rest taken =
    elim (cases_lt 62 count) [
      | inl many ↦
          let none : None ≡ Some (number, rest) =
          rw (lt-ltb 62 count many) at taken in absurd (cc none)
      | inr few ↦
          elim (cases_lt (length bits) count) [
            | inl short ↦
                let none : None ≡ Some (number, rest) =
                rw (le-ltb 62 count few, lt-ltb (length bits) count short) at taken in
                absurd (cc none)
            | inr enough ↦
                let some : Some (number_from 1 (take count bits) - 1, drop count bits)
                ≡ Some (number, rest) =
                rw (le-ltb 62 count few, le-ltb (length bits) count enough) at taken in
                let pair = same_Some _ _ some in
                let long = length-take-le count bits enough in
                let room : length (take count bits) ≤ 62 = rw long few in
                let found = ap (λ (p : ℕ × List Bool). p.0) pair in
                let behind = ap (λ (p : ℕ × List Bool). p.1) pair in
                let shown = rw (long, found) at (shown-digits (take count bits) room) in (
                  shown.0,
                  shown.1,
                  sym (take-append-drop count bits) ∙ ap (λ xs. xs ++ drop count bits) shown.2
                      ∙ ap (λ xs. digits count (number + 1) ++ xs) behind,
                )
          ]
    ]

-- and with as many zeros in front of it, a code of that number
zeros-only : (count number : ℕ) (bits rest : List Bool)
    → behind_one count bits ≡ Some (number, rest)
    → (number ≤ MAX_CODED) × (replicate count false ++ true ∷ bits ≡ gamma_code number ++ rest)
zeros-only count number bits rest taken =
    let shown = behind_one-only count number bits rest taken in
    let low = floor_log-le (number + 1) (omega arith) in
    let high = floor_log-lt_suc (number + 1) (omega (arith, shown.0)) in
    let few = floor_log-bound (number + 1) in
    let k = floor_log (number + 1) in
    let code = gamma_code-one k number (number + 1) refl low high few in (
      shown.0,
      ap (λ n. replicate n false ++ true ∷ bits) (sym shown.1)
          ∙ ap (λ xs. replicate k false ++ true ∷ xs) shown.2
          ∙ ap (λ n. replicate k false ++ true ∷ (digits n (number + 1) ++ rest)) (sym shown.1)
          ∙ sym (append_assoc (replicate k false) (true ∷ digits k (number + 1)) rest)
          ∙ ap (λ xs. xs ++ rest) (sym code),
    )

-- what is taken behind zeros was a code
behind_zeros-only : (count number : ℕ) (bits rest : List Bool)
    → behind_zeros count bits ≡ Some (number, rest)
    → (number ≤ MAX_CODED) × (replicate count false ++ bits ≡ gamma_code number ++ rest)
behind_zeros-only count number [] rest taken = absurd (cc taken)
behind_zeros-only count number (true ∷ bits) rest taken =
    zeros-only count number bits rest taken
behind_zeros-only count number (false ∷ bits) rest taken =
    rw (replicate-behind count bits) (behind_zeros-only (suc count) number bits rest taken)

-- nothing but codes is taken off
pub gamma_takes-only : (bits : List Bool) (number : ℕ) (rest : List Bool)
    → gamma_takes bits ≡ Some (number, rest)
    → (number ≤ MAX_CODED) × (bits ≡ gamma_code number ++ rest)
unfolding gamma_takes
gamma_takes-only bits number rest taken = behind_zeros-only 0 number bits rest taken
