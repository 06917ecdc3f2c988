-- The number at the front of a text.
use Rattle.std.specs.Prelude.{ℕ, ◌+◌, ◌&&◌, nat_le, List, [], ◌∷◌, take, drop, decimal, Option, Some, None, if◌then◌else◌}
use Rattle.std.specs.Char.{is_ascii_digit}
use Rattle.std.specs.Str.{bytes_eq}
use Rattle.std.specs.Str.Parse.{digits_value}
use Rattle.pls_fronts.specs.Front.{Front, followed}

-- how many digits stand in front
abbrev pub digits_ahead : List ℕ → ℕ
digits_ahead [] = 0
digits_ahead (character ∷ text) = if is_ascii_digit character then 1 + digits_ahead text else 0

-- the number, at most `most`, that these digits are the decimal of, and what follows them
abbrev pub spelled : ℕ → List ℕ → List ℕ → Option (Front ℕ)
spelled most digits rest =
    if nat_le (digits_value 10 digits) most && bytes_eq digits (decimal (digits_value 10 digits))
    then Some (followed (digits_value 10 digits) rest) else None

-- the number that all digits in front spell
abbrev pub number_front : ℕ → List ℕ → Option (Front ℕ)
number_front most text =
    spelled most (take (digits_ahead text) text) (drop (digits_ahead text) text)
