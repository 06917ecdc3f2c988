-- A list of numbers as it is written: one number behind the other, each in a number code or as one
-- bit, and nothing more.
use Rattle.std.specs.Prelude.{◌≡◌, ℕ, zero, suc, ◌≤◌, ◌==◌, ◌++◌, Bool, true, false, ◌&&◌, List, [], ◌∷◌, length, Option, Some, None}
use Rattle.std.specs.Option.{option_map_or}
use Rattle.pls_bits.specs.Bytes.{weigh}
use Rattle.pls_bits.specs.declared.num_code.TheConstants.{MAX_CODED}
use Rattle.pls_numbers.specs.declared.kind.FieldKind.{FieldKind}
use Rattle.pls_numbers.specs.declared.kind.FieldKind.TheVariants.{Num, Bit}

-- the kind of the number that comes next: behind the last kind that is stated all are in code
abbrev pub next_kind : List FieldKind → FieldKind
next_kind [] = Num
next_kind (kind ∷ kinds) = kind

-- the kinds of the numbers behind the first
abbrev pub later_kinds : List FieldKind → List FieldKind
later_kinds [] = []
later_kinds (kind ∷ kinds) = kinds

-- the greatest number of a kind
abbrev pub most_of : FieldKind → ℕ
most_of Num = MAX_CODED
most_of Bit = 1

-- a number as it is written
abbrev pub field_code : (ℕ → List Bool) → FieldKind → ℕ → List Bool
field_code code Num number = code number
field_code code Bit number = (number == 1) ∷ []

-- numbers, one behind the other
abbrev pub codes_of : (ℕ → List Bool) → List FieldKind → List ℕ → List Bool
codes_of code kinds [] = []
codes_of code kinds (number ∷ numbers) =
    field_code code (next_kind kinds) number ++ codes_of code (later_kinds kinds) numbers

-- each number is small enough to be written
abbrev pub AreCoded : List FieldKind → List ℕ → Type 0
AreCoded kinds [] = Unit {0}
AreCoded kinds (number ∷ numbers) =
    (number ≤ most_of (next_kind kinds)) × AreCoded (later_kinds kinds) numbers

-- the bits are these numbers, and nothing more
pub record AreCodesOf (code : ℕ → List Bool) (kinds : List FieldKind) (numbers : List ℕ)
    (bits : List Bool) : Type 0 where
  pub coded : AreCoded kinds numbers
  pub written : bits ≡ codes_of code kinds numbers

-- the number of a kind that stands in front of the bits, and the bits behind it
abbrev pub takes_field : (List Bool → Option (ℕ × List Bool)) → FieldKind → List Bool
    → Option (ℕ × List Bool)
takes_field takes Num bits = takes bits
takes_field takes Bit [] = None
takes_field takes Bit (bit ∷ bits) = Some (weigh bit, bits)

-- the numbers that are left in a list of bits, and whether nothing stands behind them
pub record NumbersLeft : Type 0 where
  pub numbers : List ℕ
  pub clean : Bool

-- no number, and nothing behind it where there is no bit
abbrev pub ended : List Bool → NumbersLeft
ended [] = record { numbers = []; clean = true }
ended (bit ∷ bits) = record { numbers = []; clean = false }

-- one number more in front
abbrev pub with_number : ℕ → NumbersLeft → NumbersLeft
with_number number left = record { numbers = number ∷ left.numbers; clean = left.clean }

-- the first numbers in the bits, at most so many
abbrev pub left_within : (List Bool → Option (ℕ × List Bool)) → List FieldKind → ℕ → List Bool
    → NumbersLeft
left_within takes kinds zero bits = ended bits
left_within takes kinds (suc most) bits = option_map_or (λ (taken : ℕ × List Bool).
    with_number taken.0 (left_within takes (later_kinds kinds) most taken.1))
    (takes_field takes (next_kind kinds) bits) (ended bits)

-- all numbers in the bits, of which there are at most as many as bits
unfoldable pub left_in : (List Bool → Option (ℕ × List Bool)) → List FieldKind → List Bool
    → NumbersLeft
left_in takes kinds bits = left_within takes kinds (length bits) bits

-- these numbers and nothing behind them
abbrev pub whole : List ℕ → NumbersLeft
whole numbers = record { numbers = numbers; clean = true }

-- there is no number
abbrev pub is_none : List ℕ → Bool
is_none [] = true
is_none (number ∷ numbers) = false

-- nothing is left
abbrev pub is_end : NumbersLeft → Bool
is_end left = is_none left.numbers && left.clean
