-- The hex text of bits, a word at a time with zeros behind the last bit.
use Rattle.std.proofs.Common.{◌≡◌, ℕ, ◌+◌, ◌-◌, ◌*◌, ◌<◌, ◌≤◌, Bool, false, List, ◌++◌, length, take, drop, min, replicate, slice_index_or, refl, sym, ap, append_assoc, ◌∙◌, inl, inr, arith}
use Rattle.std.proofs.Math.Seq.{take-add}
use Rattle.std.proofs.lemmas.Bool.{cases_lt}
use Rattle.std.proofs.lemmas.Grind.{same_number_lists}
use Rattle.std.proofs.lemmas.List.{drop_at, get_or-append_right, get_or-replicate, get_or-take, get_or_append_left, get_or_past, length-append, length-replicate, length-take-le, take-append-drop, take-append-le, take-take, take_all}
use Rattle.std.proofs.lemmas.List.Sums.{AllPass-from_list_all}
use Rattle.std.proofs.lemmas.Str.{IsUtf8-from_ascii}
use Rattle.std.proofs.lemmas.Str.Ascii.{IsAscii-from_all}
use Rattle.std.specs.Str.{IsUtf8}
use Rattle.hex.specs.Hex.{encode_lower}
use Rattle.pls_bits.specs.Bytes.{byte_count, bytes_of}
use Rattle.pls_bits.specs.Hex.{hex_digits, is_lower_digit}
use Rattle.pls_bits.specs.inner.Word.{bits_of_word}
use Rattle.pls_bits.proofs.Digits.{is_lower-lt}
use Rattle.pls_bits.proofs.Packing.{length-bytes_of, slice_index-bytes_of}
use Rattle.pls_bits.proofs.Peeked.{Shows}
use Rattle.pls_bits.proofs.Text.{hex_digits-is_lower, length-hex_digits}
use Rattle.pls_bits.proofs.WordBytes.{hex_digits-append, hex_digits-take, same_byte}

-- bits with a word of zeros behind them
abbrev pub padded : List Bool → List Bool
padded bits = bits ++ replicate 64 false

length-padded : (bits : List Bool) → length (padded bits) ≡ length bits + 64
length-padded bits =
    omega (arith, length-append bits (replicate 64 false), length-replicate 64 false)

-- the zeros are what is read past the last bit
get_or-padded : (bits : List Bool) (i : ℕ) → i < length bits + 64
    → slice_index_or (padded bits) i false ≡ slice_index_or bits i false
get_or-padded bits i h =
    elim (cases_lt i (length bits)) [
      | inl within ↦ get_or_append_left bits (replicate 64 false) false i within
      | inr past ↦
          get_or-append_right bits (replicate 64 false) (length bits) i false refl past
          ∙ get_or-replicate 64 (i - length bits) false false (omega (arith, h, past))
          ∙ sym (get_or_past bits i false past)
    ]

-- zeros up to the end of the last byte change no byte
bytes_of-padded : (bits : List Bool)
    → bytes_of (take (8 * byte_count (length bits)) (padded bits)) ≡ bytes_of bits
bytes_of-padded bits =
    let count = byte_count (length bits) in
    let whole = take (8 * count) (padded bits) in
    let long : length whole ≡ 8 * count =
    length-take-le (8 * count) (padded bits) (omega (arith, length-padded bits)) in
    let size : length (bytes_of whole) ≡ count = length-bytes_of whole ∙ omega (arith, long) in
    same_number_lists (bytes_of whole) (bytes_of bits) (size ∙ sym (length-bytes_of bits)) (λ k h.
    let within : k < count = rw size at h in
    slice_index-bytes_of whole k (omega (arith, long, within))
    ∙ same_byte whole bits k k (λ i less.
    get_or-take (8 * count) (padded bits) (8 * k + i) false (omega (arith, within, less))
    ∙ get_or-padded bits (8 * k + i) (omega (arith, within, less)))
    ∙ sym (slice_index-bytes_of bits k within))

-- ---- the digits of one word

-- a whole word
whole_digits : (rest : List Bool) (word : ℕ) → 64 ≤ length rest → Shows word rest
    → take 16 (hex_digits (bits_of_word word)) ≡ take 16 (hex_digits rest)
whole_digits rest word many shows =
    ap (λ bits. take 16 (hex_digits bits))
    (shows ∙ take-append-le 64 rest (replicate 64 false) many)
    ∙ ap (take 16) (hex_digits-take rest 8 many) ∙ take-take 16 16 (hex_digits rest) (omega arith)

-- or fewer bits, with zeros behind them
last_digits : (rest : List Bool) (word : ℕ) → length rest ≤ 64 → Shows word rest
    → take (2 * byte_count (length rest)) (hex_digits (bits_of_word word))
    ≡ take 16 (hex_digits rest)
unfolding hex_digits
last_digits rest word few shows =
    let count = byte_count (length rest) in
    let all = take 64 (padded rest) in
    let long : length all ≡ 64 = length-take-le 64 (padded rest) (omega (arith, length-padded rest))
    in
    ap (λ bits. take (2 * count) (hex_digits bits)) shows
    ∙ sym (hex_digits-take all count (omega (arith, long, few)))
    ∙ ap hex_digits (take-take (8 * count) 64 (padded rest) (omega (arith, few)))
    ∙ ap encode_lower (bytes_of-padded rest)
    ∙ sym (take_all 16 (hex_digits rest) (omega (arith, length-hex_digits rest, few)))

-- bits from a whole word on have the digits from there on
digits_from : (bits : List Bool) (k : ℕ) → 64 * k ≤ length bits
    → hex_digits (drop (64 * k) bits) ≡ drop (16 * k) (hex_digits bits)
digits_from bits k within =
    let front = take (64 * k) bits in
    let size : length front ≡ 8 * (8 * k) = length-take-le (64 * k) bits within ∙ omega arith in
    let long : length (hex_digits front) ≡ 16 * k =
    length-hex_digits front ∙ omega (arith, ap byte_count size) in
    sym (ap (λ bits. drop (16 * k) (hex_digits bits)) (sym (take-append-drop (64 * k) bits))
    ∙ ap (drop (16 * k)) (hex_digits-append front (drop (64 * k) bits) (8 * k) size)
    ∙ drop_at (hex_digits front) (hex_digits (drop (64 * k) bits)) (16 * k) long)

-- the digits of the word at a place
pub word_digits_at : (bits : List Bool) (k word count : ℕ) → 64 * k ≤ length bits
    → Shows word (drop (64 * k) bits)
    → count ≡ 2 * byte_count (min (length (drop (64 * k) bits)) 64)
    → take count (hex_digits (bits_of_word word)) ≡ take 16 (drop (16 * k) (hex_digits bits))
word_digits_at bits k word count within shows is =
    let rest = drop (64 * k) bits in
    elim (cases_lt (length rest) 64) [
      | inr many ↦
          let all : count ≡ 16 = omega (arith, is, many) in
          ap (λ n. take n (hex_digits (bits_of_word word))) all
          ∙ whole_digits rest word many shows ∙ ap (take 16) (digits_from bits k within)
      | inl few ↦
          let some : count ≡ 2 * byte_count (length rest) = omega (arith, is, few) in
          ap (λ n. take n (hex_digits (bits_of_word word))) some
          ∙ last_digits rest word (omega (arith, few)) shows
          ∙ ap (take 16) (digits_from bits k within)
    ]

-- ---- the digits of all words

-- one word more
pub one_word_more : (old text more digits : List ℕ) (k : ℕ) → text ≡ old ++ take (16 * k) digits
    → more ≡ take 16 (drop (16 * k) digits) → text ++ more ≡ old ++ take (16 * (k + 1)) digits
one_word_more old text more digits k before is =
    let next : 16 * (k + 1) ≡ 16 * k + 16 = omega arith in
    ap (λ text. text ++ more) before ∙ append_assoc old (take (16 * k) digits) more
    ∙ ap (λ more. old ++ (take (16 * k) digits ++ more)) is
    ∙ ap (λ text. old ++ text) (sym (take-add (16 * k) 16 digits))
    ∙ ap (λ n. old ++ take n digits) (sym next)

-- the text can be read as characters
pub IsUtf8-hex_digits : (bits : List Bool) → IsUtf8 (hex_digits bits)
IsUtf8-hex_digits bits =
    let digits = hex_digits bits in
    let each = AllPass-from_list_all is_lower_digit digits (hex_digits-is_lower bits) in
    IsUtf8-from_ascii digits (IsAscii-from_all digits
    (λ k d within. omega (arith, is_lower-lt (slice_index_or digits k d) (each k d within))))
