-- Hex words, and the digits that they are.
use Rattle.std.proofs.Common.{◌≡◌, ◌≢◌, ℕ, Bool, List, [], ◌∷◌, length, Ok, Err, refl, sym, ◌∙◌, ap, arith}
use Rattle.std.specs.Prelude.{Result}
use Rattle.pls_bits.specs.Hex.{Spells, hex_digits}
use Rattle.pls_bits.specs.Bytes.{bits_in}
use Rattle.hex.specs.Hex.{decode_of}
use Rattle.hex.specs.declared.error.FromHexError.{FromHexError}
use Rattle.pls_bits.proofs.Text.{decoded_bits, decoded_never_fails, length-hex_digits}
use Rattle.pls_labelfile.specs.inner.HexWord.{IsHexWord, bits_read, word_bits}
use Rattle.pls_labelfile.specs.LabelsText.{hex_word}

-- no bit is read of any bytes
none_read : (read : Result (List ℕ) FromHexError) → bits_read 0 read ≡ []
unfolding bits_in
none_read (Ok bytes) = refl
none_read (Err error) = refl

-- the bits of the digits of bits
spelt : (len : ℕ) (digits : List ℕ) (s : Spells len digits) (read : Result (List ℕ) FromHexError)
    → decode_of digits ≡ read → bits_read len read ≡ s.bits
spelt len digits s (Ok bytes) is = decoded_bits len digits bytes s is
spelt len digits s (Err error) is = absurd (decoded_never_fails len digits error s is)

-- the word for bits is that of these bits
pub bits_of_word : (bits : List Bool) → word_bits (length bits) (hex_word bits) ≡ bits
unfolding word_bits
bits_of_word [] = none_read (decode_of (hex_word []))
bits_of_word (bit ∷ bits) =
    spelt (length (bit ∷ bits)) (hex_word (bit ∷ bits))
    (record { bits = bit ∷ bits; long = refl; written = refl })
    (decode_of (hex_word (bit ∷ bits))) refl

-- so a word for so many bits is that of its bits
pub bits_of_hex : (len : ℕ) (word : List ℕ) (hex : IsHexWord len word) → word_bits len word ≡ hex.bits
bits_of_hex len word hex =
    ap (λ (n : ℕ). word_bits n word) (sym hex.long)
    ∙ ap (word_bits (length hex.bits)) (sym hex.is) ∙ bits_of_word hex.bits

pub bits_long : (len : ℕ) (word : List ℕ) → IsHexWord len word → length (word_bits len word) ≡ len
bits_long len word hex = ap length (bits_of_hex len word hex) ∙ hex.long

pub word_is : (len : ℕ) (word : List ℕ) → IsHexWord len word → hex_word (word_bits len word) ≡ word
word_is len word hex = ap hex_word (bits_of_hex len word hex) ∙ hex.is

-- no bits are those of a word for none
no_bits : (len : ℕ) (word : List ℕ) → IsHexWord len word → len ≡ 0 → [] ≡ word_bits len word
no_bits len word hex none = by (word_bits len word) (bits_long len word hex ∙ none)
  where
    by : (bits : List Bool) → length bits ≡ 0 → [] ≡ bits
    by [] long = refl
    by (bit ∷ bits) long = absurd (cc)

-- no bits have no digits
no_digits : (digits : List ℕ) → length digits ≡ 0 → digits ≡ []
no_digits [] none = refl
no_digits (digit ∷ digits) none = absurd (omega arith)

pub digits_of_none : (len : ℕ) (word : List ℕ) → IsHexWord len word → len ≡ 0
    → hex_digits (word_bits len word) ≡ []
digits_of_none len word hex none =
    ap hex_digits (sym (no_bits len word hex none)) ∙ no_digits (hex_digits []) (length-hex_digits [])

-- and some bits those of their word
pub digits_of_some : (len : ℕ) (word : List ℕ) → IsHexWord len word → len ≢ 0
    → hex_digits (word_bits len word) ≡ word
digits_of_some len word hex some =
    by (word_bits len word) (bits_long len word hex) (word_is len word hex)
  where
    by : (bits : List Bool) → length bits ≡ len → hex_word bits ≡ word → hex_digits bits ≡ word
    by [] long is = absurd (some (sym long))
    by (bit ∷ bits) long is = is
