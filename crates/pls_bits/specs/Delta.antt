-- The delta code of Elias (1975, "Universal codeword sets and representations of the integers"):
-- for a number x, the gamma code of floor(log2(x + 1)) and then the digits of x + 1 in binary
-- without the one that they begin with.
use Rattle.std.specs.Prelude.{ℕ, ◌+◌, Bool, List, ◌++◌, Option, Some, None}
use Rattle.pls_bits.specs.Gamma.{behind_one, digits, floor_log, gamma_code, gamma_takes}

-- the code of a number
unfoldable pub delta_code : ℕ → List Bool
delta_code x = gamma_code (floor_log (x + 1)) ++ digits (floor_log (x + 1)) (x + 1)

-- the number whose code is a count of digits and then these digits, where the count and the bits
-- behind it are given, and the bits behind the code
abbrev pub behind_count : Option (ℕ × List Bool) → Option (ℕ × List Bool)
behind_count None = None
behind_count (Some (count, bits)) = behind_one count bits

-- the number whose code stands in front of the bits, and the bits behind it
unfoldable pub delta_takes : List Bool → Option (ℕ × List Bool)
delta_takes bits = behind_count (gamma_takes bits)
