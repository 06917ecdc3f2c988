-- One word of bits, the first bit its greatest.
use Rattle.std.specs.Prelude.{ℕ, Bool, List}
use Rattle.pls_bits.specs.Gamma.{digits}

-- the bits of a word, its 64 binary digits
unfoldable pub bits_of_word : ℕ → List Bool
bits_of_word word = digits 64 word
