-- The bytes of a word, and the bytes of lists of bits that stand one behind the other.
use Rattle.std.proofs.Common.{◌≡◌, ℕ, ◌+◌, ◌-◌, ◌*◌, ◌/◌, ◌%◌, ◌^◌, ◌<◌, ◌≤◌, ◌==◌, Bool, false, List, [], ◌∷◌, ◌++◌, length, take, drop, map, slice_index_or, slice_index, refl, sym, ap, ◌∙◌, inl, inr, arith}
use Rattle.std.specs.Int.{bit_at, to_be_bytes, w64}
use Rattle.std.specs.List.{range_with_len}
use Rattle.std.proofs.lemmas.Bool.{cases_lt}
use Rattle.std.proofs.lemmas.List.{get_or-append_right, get_or_append_left, length-append, length-take-le, take-append-drop, take_at}
use Rattle.std.proofs.lemmas.List.FromFn.{fill_by_all}
use Rattle.std.proofs.lemmas.Grind.{same_number_lists}
use Rattle.hex.specs.Hex.{encode_lower, encode_with, lower_digits}
use Rattle.pls_bits.specs.Bytes.{bit_number, byte_at, byte_count, bytes_of, weigh}
use Rattle.pls_bits.specs.Gamma.{digits, number_from}
use Rattle.pls_bits.specs.Hex.{hex_digits}
use Rattle.pls_bits.specs.laws.BinaryLaws.{length-digits}
use Rattle.pls_bits.specs.inner.Word.{bits_of_word}
use Rattle.pls_bits.proofs.Packing.{length-bytes_of, slice_index-bytes_of}
use Rattle.pls_bits.proofs.Peeked.{digits-mod}
use Rattle.pls_bits.proofs.Text.{length-hex_digits}
use Rattle.pls_bits.proofs.Windows.{bit_at-shr, get_or-bits_of_word, get_or-digits, length-bits_of_word, number_of_digits}

-- ---- one byte

-- a byte is the number of its eight bits
pub byte_number : (bits : List Bool) (k : ℕ)
    → number_from 0 (map (λ i. slice_index_or bits (8 * k + i) false) (range_with_len 0 8))
    ≡ byte_at bits k
unfolding byte_at
byte_number bits k = omega arith

-- bytes with the same bits are the same
pub same_byte : (a b : List Bool) (k l : ℕ)
    → ((i : ℕ) → i < 8 → slice_index_or a (8 * k + i) false ≡ slice_index_or b (8 * l + i) false)
    → byte_at a k ≡ byte_at b l
unfolding byte_at
same_byte a b k l same =
    let each : (i : ℕ) → i < 8 → bit_number a (8 * k + i) ≡ bit_number b (8 * l + i) =
    λ i h. ap weigh (same i h) in
    omega (
      arith,
      each 0 (omega arith),
      each 1 (omega arith),
      each 2 (omega arith),
      each 3 (omega arith),
      each 4 (omega arith),
      each 5 (omega arith),
      each 6 (omega arith),
      each 7 (omega arith),
    )

-- byte k of a word
pub byte_of_word : (w k : ℕ) → k < 8 → byte_at (bits_of_word w) k ≡ w / 2 ^ (56 - 8 * k) % 256
byte_of_word w k h =
    let y = w / 2 ^ (56 - 8 * k) in
    let eight : digits 8 y
    ≡ map (λ i. slice_index_or (bits_of_word w) (8 * k + i) false) (range_with_len 0 8) =
    fill_by_all (λ i. slice_index_or (bits_of_word w) (8 * k + i) false) (digits 8 y) 8 false
    (length-digits 8 y) (λ i below.
    let place : 56 - 8 * k + (8 - 1 - i) ≡ 63 - (8 * k + i) = omega (arith, h, below) in
    get_or-digits 8 y i false below
    ∙ ap (λ bit. bit == 1) (bit_at-shr w (56 - 8 * k) (8 - 1 - i))
    ∙ ap (λ j. bit_at w j == 1) place
    ∙ sym (get_or-bits_of_word w (8 * k + i) false (omega (arith, h, below)))) in
    sym (byte_number (bits_of_word w) k) ∙ ap (number_from 0) (sym eight)
    ∙ ap (number_from 0) (sym (digits-mod 8 y)) ∙ number_of_digits 8 (y % 2 ^ 8) (omega arith)

-- the bytes of a word, the highest first
pub bytes_of-word : (w : ℕ) → bytes_of (bits_of_word w) ≡ to_be_bytes w64 w
unfolding bytes_of
bytes_of-word w =
    let count : byte_count (length (bits_of_word w)) ≡ 8 = ap byte_count (length-bits_of_word w) in
    let lowest : byte_at (bits_of_word w) 7 ≡ w % 256 =
    byte_of_word w 7 (omega arith) ∙ omega arith in
    rw (
      count,
      byte_of_word w 0 (omega arith),
      byte_of_word w 1 (omega arith),
      byte_of_word w 2 (omega arith),
      byte_of_word w 3 (omega arith),
      byte_of_word w 4 (omega arith),
      byte_of_word w 5 (omega arith),
      byte_of_word w 6 (omega arith),
      lowest,
    ) refl

-- ---- lists one behind the other, the first of whole bytes

-- the bytes of both
pub bytes_of-append : (a b : List Bool) (m : ℕ) → length a ≡ 8 * m
    → bytes_of (a ++ b) ≡ bytes_of a ++ bytes_of b
bytes_of-append a b m whole =
    let both = length-append a b in
    let front : length (bytes_of a) ≡ m = length-bytes_of a ∙ omega (arith, whole) in
    let back = length-bytes_of b in
    let all = length-append (bytes_of a) (bytes_of b) in
    same_number_lists (bytes_of (a ++ b)) (bytes_of a ++ bytes_of b)
    (length-bytes_of (a ++ b) ∙ omega (arith, whole, both, front, back, all)) (λ k h.
    let within : k < byte_count (length (a ++ b)) = rw (length-bytes_of (a ++ b)) at h in
    slice_index-bytes_of (a ++ b) k within
    ∙ elim (cases_lt k m) [
      | inl first ↦
          same_byte (a ++ b) a k k (λ i less.
          get_or_append_left a b false (8 * k + i) (omega (arith, whole, first, less)))
          ∙ sym (slice_index-bytes_of a k (omega (arith, whole, first)))
          ∙ sym (get_or_append_left (bytes_of a) (bytes_of b) 0 k (omega (arith, front, first)))
      | inr second ↦
          same_byte (a ++ b) b k (k - m) (λ i less.
          get_or-append_right a b (8 * m) (8 * k + i) false whole (omega (arith, second))
          ∙ ap (λ place. slice_index_or b place false) (omega (arith, second)))
          ∙ sym (slice_index-bytes_of b (k - m) (omega (arith, whole, both, second, within)))
          ∙ sym (get_or-append_right (bytes_of a) (bytes_of b) m k 0 front second)
    ])

-- the text of both
pub encode_with-append : (table xs ys : List ℕ)
    → encode_with table (xs ++ ys) ≡ encode_with table xs ++ encode_with table ys
unfolding encode_with
encode_with-append table [] ys = refl
encode_with-append table (x ∷ xs) ys =
    ap (λ rest. slice_index table (x / 16) ∷ slice_index table (x % 16) ∷ rest)
    (encode_with-append table xs ys)

pub hex_digits-append : (a b : List Bool) (m : ℕ) → length a ≡ 8 * m
    → hex_digits (a ++ b) ≡ hex_digits a ++ hex_digits b
unfolding hex_digits
hex_digits-append a b m whole =
    ap encode_lower (bytes_of-append a b m whole)
    ∙ encode_with-append lower_digits (bytes_of a) (bytes_of b)

-- the text of the first bytes
pub hex_digits-take : (bits : List Bool) (m : ℕ) → 8 * m ≤ length bits
    → hex_digits (take (8 * m) bits) ≡ take (2 * m) (hex_digits bits)
hex_digits-take bits m within =
    let front = take (8 * m) bits in
    let back = drop (8 * m) bits in
    let long : length front ≡ 8 * m = length-take-le (8 * m) bits within in
    let text : hex_digits bits ≡ hex_digits front ++ hex_digits back =
    ap hex_digits (sym (take-append-drop (8 * m) bits)) ∙ hex_digits-append front back m long in
    let count : length (hex_digits front) ≡ 2 * m =
    length-hex_digits front ∙ omega (arith, long) in
    sym (take_at (hex_digits front) (hex_digits back) (2 * m) count) ∙ ap (take (2 * m)) (sym text)
