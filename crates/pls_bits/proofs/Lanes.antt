-- Bytes as hex digits and back, as the lanes of vectors come to them.
use Rattle.std.proofs.Common.{◌≡◌, ℕ, zero, suc, ◌+◌, ◌-◌, ◌*◌, ◌/◌, ◌%◌, ◌<◌, ◌==◌, Bool, true, not, ◌||◌, ◌&&◌, List, [], ◌∷◌, length, slice_index, refl, ap, ◌∙◌, arith}
use Rattle.std.specs.Prelude.{bit_and, if◌then◌else◌, nat_le, nat_lt}
use Rattle.std.specs.Int.{byte_at, bytes_high_first}
use Rattle.std.specs.Int.Digits.{AllBelowBase}
use Rattle.std.specs.List.{list_all}
use Rattle.std.proofs.lemmas.Bool.{and_parts, eqb-true, ltb-true}
use Rattle.std.proofs.lemmas.Nat.{and_mask}
use Rattle.hex.specs.Hex.{IsBytes, encode_lower, encode_with, lower_digits}
use Rattle.pls_bits.specs.Hex.{is_lower_digit}
use Rattle.pls_bits.proofs.Digits.{below, is_lower-lt}

-- ---- from bytes to digits

-- the digit of a value: where the lane that compares the value with 10 is 255, it is a letter
abbrev digit_by_lanes : ℕ → ℕ
digit_by_lanes v = (v + (if nat_le 128 (if nat_le 10 v then 255 else 0) then 87 else 48)) % 256

abbrev digits_by_lanes : List ℕ → List ℕ
digits_by_lanes [] = []
digits_by_lanes (byte ∷ bytes) =
    digit_by_lanes (byte / 16) ∷ digit_by_lanes (bit_and byte 15) ∷ digits_by_lanes bytes

abbrev is_right : ℕ → Bool
is_right v = digit_by_lanes v == slice_index lower_digits v

right : (v : ℕ) → v < 16 → digit_by_lanes v ≡ slice_index lower_digits v
right v small = eqb-true _ _ (below is_right 16 refl v small)

byte_at-lt : (i n : ℕ) → byte_at i n < 256
byte_at-lt zero n = omega arith
byte_at-lt (suc i) n = omega arith

-- they are the hex text of the bytes of a number
pub lanes_text : (count n : ℕ)
    → digits_by_lanes (bytes_high_first count n) ≡ encode_lower (bytes_high_first count n)
unfolding encode_with
lanes_text zero n = refl
lanes_text (suc count) n =
    let byte = byte_at count n in
    let small = byte_at-lt count n in
    let low : bit_and byte 15 ≡ byte % 16 = and_mask byte 4 in
    let high = right (byte / 16) (omega (arith, small)) in
    let rest = right (byte % 16) (omega arith) in
    λ i. high i ∷ (ap digit_by_lanes low ∙ rest) i ∷ lanes_text count n i

-- ---- and back

-- the value of a digit
abbrev value_by_lanes : ℕ → ℕ
value_by_lanes c = (bit_and c 15 + c / 64 * 9 % 256) % 256

abbrev byte_by_lanes : ℕ → ℕ → ℕ
byte_by_lanes high low = (value_by_lanes high * 16 % 256 + value_by_lanes low) % 256

abbrev bytes_by_lanes : List ℕ → List ℕ
bytes_by_lanes [] = []
bytes_by_lanes (high ∷ []) = []
bytes_by_lanes (high ∷ low ∷ digits) = byte_by_lanes high low ∷ bytes_by_lanes digits

abbrev is_valued : ℕ → Bool
is_valued c = not (is_lower_digit c)
    || (nat_lt (value_by_lanes c) 16 && slice_index lower_digits (value_by_lanes c) == c)

valued : (c : ℕ) → is_lower_digit c ≡ true
    → (value_by_lanes c < 16) × (slice_index lower_digits (value_by_lanes c) ≡ c)
valued c low =
    let test = below is_valued 103 refl c (is_lower-lt c low) in
    let parts = and_parts (nat_lt (value_by_lanes c) 16) _ (rw low at test) in
    (ltb-true (value_by_lanes c) 16 parts.0, eqb-true _ _ parts.1)

-- the digits are the hex text of these bytes
pub lanes_bytes : (count : ℕ) (digits : List ℕ) → length digits ≡ 2 * count
    → list_all is_lower_digit digits ≡ true
    → AllBelowBase 256 (bytes_by_lanes digits) × (encode_lower (bytes_by_lanes digits) ≡ digits)
unfolding encode_with
lanes_bytes count [] twice lower = (tt, refl)
lanes_bytes count (a ∷ []) twice lower = absurd (omega arith)
lanes_bytes count (a ∷ b ∷ digits) twice lower =
    let first = and_parts (is_lower_digit a) _ lower in
    let second = and_parts (is_lower_digit b) _ first.1 in
    let rest = lanes_bytes (count - 1) digits (omega arith) second.1 in
    let high = valued a first.0 in
    let low = valued b second.0 in
    let byte : byte_by_lanes a b ≡ 16 * value_by_lanes a + value_by_lanes b =
    omega (arith, high.0, low.0) in
    let front : byte_by_lanes a b / 16 ≡ value_by_lanes a = omega (arith, byte, low.0) in
    let back : byte_by_lanes a b % 16 ≡ value_by_lanes b = omega (arith, byte, low.0) in (
      (omega arith, rest.0),
      λ i. (ap (slice_index lower_digits) front ∙ high.1) i
          ∷ (ap (slice_index lower_digits) back ∙ low.1) i ∷ rest.1 i,
    )

-- numbers below 256 are bytes
pub all_bytes : (bytes : List ℕ) → AllBelowBase 256 bytes → IsBytes bytes
all_bytes [] small i = omega arith
all_bytes (byte ∷ bytes) small zero = small.0
all_bytes (byte ∷ bytes) small (suc i) = all_bytes bytes small.1 i
