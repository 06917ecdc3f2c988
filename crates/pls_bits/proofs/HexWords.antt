-- Hex digits read as words of bits.
use Rattle.std.proofs.Common.{◌≡◌, ℕ, zero, suc, ◌+◌, ◌-◌, ◌*◌, ◌<◌, ◌≤◌, Bool, true, List, [], ◌∷◌, ◌++◌, length, slice_index, take, drop, replicate, refl, sym, ap, ◌∙◌, arith}
use Rattle.std.specs.Int.{from_be_bytes, w64}
use Rattle.std.specs.List.{list_all}
use Rattle.std.proofs.lemmas.List.{drop-append-le, drop-replicate, get_or_push, length-drop, length-take-le, take-append-le, take-replicate, take-take, take_at, take_rest}
use Rattle.std.proofs.lemmas.List.Folds.{list_all-append}
use Rattle.std.proofs.lemmas.Bool.{and_parts}
use Rattle.std.proofs.Math.Seq.{take-add, take-append-add}
use Rattle.std.proofs.lemmas.Nat.{be_bytes_8}
use Rattle.hex.specs.Hex.{encode_lower, encode_with, lower_digits}
use Rattle.hex.proofs.HexLemmas.{length-encode_with}
use Rattle.pls_bits.specs.Bytes.{bits_in, byte_count, bytes_of}
use Rattle.pls_bits.specs.Hex.{hex_digits, is_lower_digit}
use Rattle.pls_bits.specs.Words.{bits_of}
use Rattle.pls_bits.specs.inner.Word.{bits_of_word}
use Rattle.pls_bits.proofs.Appended.{bits_of-front}
use Rattle.pls_bits.proofs.Digits.{list_all-drop}
use Rattle.pls_bits.proofs.Packing.{bits_in-bytes_of, bits_in-fewer}
use Rattle.pls_bits.proofs.Ranges.{bits_of-append, bits_of-none, length-bits_of}
use Rattle.pls_bits.proofs.Text.{length-hex_digits, same_bytes}
use Rattle.pls_bits.proofs.Windows.{window-at}
use Rattle.pls_bits.proofs.WordBytes.{bytes_of-word, hex_digits-append, hex_digits-take}

-- ---- sixteen digits

-- the word of eight bytes has their digits as its text
pub word_text : (digits bytes : List ℕ) (w : ℕ) → length digits ≡ 16 → encode_lower bytes ≡ digits
    → ((i : ℕ) → slice_index bytes i < 256) → w ≡ from_be_bytes w64 bytes
    → hex_digits (bits_of_word w) ≡ digits
unfolding hex_digits
word_text digits bytes w long text small is =
    let twice = length-encode_with lower_digits bytes in
    let count : length bytes ≡ 8 = omega (arith, ap length text, long, twice) in
    ap encode_lower (bytes_of-word w ∙ be_bytes_8 bytes w count small is) ∙ text

-- ---- all of the words

-- no word yet
pub no_digits : (words : List ℕ) (start : ℕ) (padded : List ℕ)
    → hex_digits (bits_of words start (64 * 0)) ≡ take (16 * 0) padded
unfolding hex_digits bytes_of encode_with
no_digits words start padded =
    ap (λ bits. encode_lower (bytes_of bits)) (bits_of-none words start)

-- one more word
pub more_digits : (words padded : List ℕ) (base k w : ℕ) → length words ≡ base + k
    → hex_digits (bits_of words (64 * base) (64 * k)) ≡ take (16 * k) padded
    → hex_digits (bits_of_word w) ≡ take 16 (drop (16 * k) padded)
    → hex_digits (bits_of (words ++ w ∷ []) (64 * base) (64 * (k + 1))) ≡ take (16 * (k + 1)) padded
more_digits words padded base k w long before shown =
    let next = words ++ w ∷ [] in
    let kept : take (length words) next ≡ words = take_at words (w ∷ []) (length words) refl in
    let place : 64 * base + 64 * k ≡ 64 * length words = omega (arith, long) in
    let front : bits_of next (64 * base) (64 * k) ≡ bits_of words (64 * base) (64 * k) =
    bits_of-front next words (64 * base) (64 * k) kept (omega (arith, long)) in
    let back : bits_of next (64 * base + 64 * k) 64 ≡ bits_of_word w =
    ap (λ s. bits_of next s 64) place ∙ window-at next (length words)
    ∙ ap bits_of_word (get_or_push words w 0 (length words) refl) in
    let whole : 64 * (k + 1) ≡ 64 * k + 64 = omega arith in
    let count : 16 * (k + 1) ≡ 16 * k + 16 = omega arith in
    ap (λ n. hex_digits (bits_of next (64 * base) n)) whole
    ∙ ap hex_digits (bits_of-append next (64 * base) (64 * k) 64)
    ∙ hex_digits-append (bits_of next (64 * base) (64 * k)) (bits_of next (64 * base + 64 * k) 64)
    (8 * k) (length-bits_of next (64 * base) (64 * k) ∙ omega arith)
    ∙ ap (λ bits. hex_digits bits ++ hex_digits (bits_of next (64 * base + 64 * k) 64)) front
    ∙ ap (λ bits. hex_digits (bits_of words (64 * base) (64 * k)) ++ hex_digits bits) back
    ∙ ap (λ text. text ++ hex_digits (bits_of_word w)) before
    ∙ ap (λ text. take (16 * k) padded ++ text) shown
    ∙ sym (take-add (16 * k) 16 padded) ∙ ap (λ n. take n padded) (sym count)

-- bits whose text begins with the digits begin with the bits that the digits spell
pub spelled_bits : (all : List Bool) (len m : ℕ) (digits more : List ℕ) (bits : List Bool)
    → length all ≡ 64 * m → len ≤ 64 * m → hex_digits all ≡ take (16 * m) (digits ++ more)
    → length bits ≡ len → hex_digits bits ≡ digits → take len all ≡ bits
spelled_bits all len m digits more bits long within text len_is written =
    let n = byte_count len in
    let front = take (8 * n) all in
    let fits : 8 * n ≤ length all = omega (arith, long, within) in
    let size : length front ≡ 8 * n = length-take-le (8 * n) all fits in
    let count : length digits ≡ 2 * n = ap length (sym written) ∙ length-hex_digits bits
    ∙ ap (λ k. 2 * byte_count k) len_is in
    let same_text : hex_digits front ≡ hex_digits bits =
    hex_digits-take all n fits ∙ ap (take (2 * n)) text
    ∙ take-take (2 * n) (16 * m) (digits ++ more) (omega (arith, within))
    ∙ take_at digits more (2 * n) count ∙ sym written in
    sym (take-take len (8 * n) all (omega arith)) ∙ ap (take len) (sym (bits_in-bytes_of front))
    ∙ ap (λ k. take len (bits_in k (bytes_of front))) size
    ∙ bits_in-fewer len (8 * n) (bytes_of front) (omega arith)
    ∙ ap (bits_in len) (same_bytes front bits same_text)
    ∙ ap (λ k. bits_in k (bytes_of bits)) (sym len_is) ∙ bits_in-bytes_of bits

-- ---- the digits of one word

-- a whole word of them
pub whole_word : (digits more : List ℕ) (k : ℕ) → 16 * k + 16 ≤ length digits
    → take 16 (drop (16 * k) digits) ≡ take 16 (drop (16 * k) (digits ++ more))
whole_word digits more k within =
    let left : 16 ≤ length (drop (16 * k) digits) =
    omega (arith, length-drop (16 * k) digits, within) in
    sym (ap (take 16) (drop-append-le (16 * k) digits more (omega (arith, within)))
    ∙ take-append-le 16 (drop (16 * k) digits) more left)

-- digits from a place on
pub lower_from : (digits : List ℕ) (from : ℕ) → list_all is_lower_digit digits ≡ true
    → list_all is_lower_digit (take (length digits - from) (drop from digits)) ≡ true
lower_from digits from low =
    rw (take_rest digits from) (list_all-drop is_lower_digit digits from low)

pub lower_front : (digits : List ℕ) (n : ℕ) → list_all is_lower_digit digits ≡ true
    → list_all is_lower_digit (take n digits) ≡ true
lower_front digits zero low = refl
lower_front [] (suc n) low = refl
lower_front (digit ∷ digits) (suc n) low =
    let parts = and_parts (is_lower_digit digit) _ low in
    rw parts.0 (lower_front digits n parts.1)

-- digits with zeros behind them
pub lower_padded : (digits : List ℕ) (n : ℕ) → list_all is_lower_digit digits ≡ true
    → list_all is_lower_digit (digits ++ drop n (replicate 16 48)) ≡ true
lower_padded digits n low =
    list_all-append is_lower_digit digits (drop n (replicate 16 48))
    ∙ rw (low, list_all-drop is_lower_digit (replicate 16 48) n refl) refl

-- fewer, with zeros behind them
pub padded_word : (digits : List ℕ) (k : ℕ) → 16 * k ≤ length digits → length digits ≤ 16 * k + 16
    → drop (16 * k) digits ++ drop (length (drop (16 * k) digits)) (replicate 16 48)
    ≡ take 16 (drop (16 * k) (digits ++ replicate 16 48))
padded_word digits k within few =
    let rest = drop (16 * k) digits in
    let left : length rest ≤ 16 = omega (arith, length-drop (16 * k) digits, few) in
    let whole : 16 ≡ length rest + (16 - length rest) = omega (arith, left) in
    sym (ap (take 16) (drop-append-le (16 * k) digits (replicate 16 48) within)
    ∙ ap (λ n. take n (rest ++ replicate 16 48)) whole
    ∙ take-append-add rest (replicate 16 48) (16 - length rest)
    ∙ ap (λ zeros. rest ++ zeros) (take-replicate (16 - length rest) 16 48 (omega arith))
    ∙ ap (λ zeros. rest ++ zeros) (sym (drop-replicate (length rest) 16 48)))
