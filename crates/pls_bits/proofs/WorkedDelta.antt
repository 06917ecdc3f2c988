-- Worked delta codes: numbers and their bits, and bits that no code stands in front of.
use Rattle.std.proofs.Common.{◌≡◌, List, [], ◌∷◌, ◌++◌, Bool, true, false, Some, None, map, replicate, refl}
use Rattle.std.specs.Prelude.{codes}
use Rattle.pls_bits.specs.Delta.{delta_code, delta_takes}
use Rattle.pls_bits.specs.Gamma.{floor_log, gamma_code, gamma_takes, log_below}
use Rattle.pls_bits.proofs.Worked.{bits}
use Rattle.pls_bits.proofs.WorkedGamma.{behind, numbers, taken}

-- the codes of the numbers, one for one
abbrev their_codes : List (List Bool)
their_codes =
    bits (codes "1")
    ∷ bits (codes "0100")
    ∷ bits (codes "0101")
    ∷ bits (codes "01100")
    ∷ bits (codes "01101") ∷ bits (codes "01110") ∷ bits (codes "00100000") ∷ bits (codes "00100010")
    ∷ []

-- the numbers have these codes
written : map delta_code numbers ≡ their_codes
unfolding delta_code gamma_code floor_log log_below
written = refl

-- each code is taken off, and the bits behind it are left
taken_off : map (λ code. delta_takes (code ++ behind)) their_codes ≡ map taken numbers
unfolding delta_takes gamma_takes
taken_off = refl

-- no code is cut off in its count
cut_off_count : delta_takes (bits (codes "001")) ≡ None
unfolding delta_takes gamma_takes
cut_off_count = refl

-- or among its digits
cut_off_digits : delta_takes (bits (codes "0110")) ≡ None
unfolding delta_takes gamma_takes
cut_off_digits = refl

-- 2 ^ 63 - 1 has no code: the code of 63, and 63 digits
too_great : delta_takes (bits (codes "0000001000000") ++ replicate 63 false) ≡ None
unfolding delta_takes gamma_takes
too_great = refl

-- the longest code, of 73 bits, is that of 2 ^ 63 - 2: the code of 62, and 62 ones
greatest : delta_takes (bits (codes "00000111111") ++ replicate 62 true)
    ≡ Some (9223372036854775806, [])
unfolding delta_takes gamma_takes
greatest = refl
