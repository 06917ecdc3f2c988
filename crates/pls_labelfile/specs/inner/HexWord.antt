-- The word for the bits of a label, and the bits of a word.
use Rattle.std.specs.Prelude.{◌≡◌, ℕ, zero, suc, ◌*◌, Bool, List, [], length, Result, Ok, Err}
use Rattle.hex.specs.Hex.{decode_of}
use Rattle.hex.specs.declared.error.FromHexError.{FromHexError}
use Rattle.pls_bits.specs.Bytes.{bits_in, byte_count}
use Rattle.pls_labelfile.specs.LabelsText.{FitsLabel, NamedLabel, hex_word, label_line}
use Rattle.pls_lines.specs.ListPart.{Remains}

-- the word is that for some list of so many bits
pub record IsHexWord (len : ℕ) (word : List ℕ) : Type 0 where
  pub bits : List Bool
  pub long : length bits ≡ len
  pub is : hex_word bits ≡ word

-- the first bits of the bytes that were read
abbrev pub bits_read : ℕ → Result (List ℕ) FromHexError → List Bool
bits_read len (Ok bytes) = bits_in len bytes
bits_read len (Err error) = []

-- the bits that the word is for, where it is one for so many
unfoldable pub word_bits : ℕ → List ℕ → List Bool
word_bits len word = bits_read len (decode_of word)

-- how many bytes the word for so many bits has
abbrev pub word_length : ℕ → ℕ
word_length zero = 1
word_length (suc bits) = 2 * byte_count (suc bits)

-- the text says some labels, and then `end`
abbrev pub SaysLabels : List ℕ → Type 0
SaysLabels text = (labels : List NamedLabel) × Remains FitsLabel label_line text labels
