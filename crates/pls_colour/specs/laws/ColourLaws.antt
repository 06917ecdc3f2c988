-- Labels that are one colour.
use Rattle.std.proofs.Common.{◌≡◌, ℕ, zero, suc, Bool, true, false, if◌then◌else◌, List, [], ◌∷◌, length, slice_get, Option, Some, None, refl, sym, ap, arith}
use Rattle.pls_bits.specs.Bytes.{weigh}
use Rattle.pls_numbers.specs.Numbers.{NumbersLeft, left_in, left_within}
use Rattle.pls_numbers.specs.Shape.{AreItsNumbers, if_clean, said_by, spelling}
use Rattle.pls_colour.specs.declared.colour_format.ColourLabel.{ColourLabel}
use Rattle.pls_colour.specs.Bipartite.{colour_of_numbers, colour_says, colour_shape, numbers_of_colour}

-- a label of a number has this number
of_its_number : (list : List ℕ) (label : ColourLabel) → colour_of_numbers list ≡ Some label
    → list ≡ numbers_of_colour label
of_its_number [] label is = absurd (cc)
of_its_number (zero ∷ []) label is =
    let same : colour_says false ≡ label = cc in ap numbers_of_colour same
of_its_number (suc zero ∷ []) label is =
    let same : colour_says true ≡ label = cc in ap numbers_of_colour same
of_its_number (suc (suc number) ∷ []) label is = absurd (cc)
of_its_number (zero ∷ next ∷ others) label is = absurd (cc)
of_its_number (suc zero ∷ next ∷ others) label is = absurd (cc)
of_its_number (suc (suc number) ∷ next ∷ others) label is = absurd (cc)

-- and is the label that has it
number_back : (colour : Bool) → colour_of_numbers (weigh colour ∷ []) ≡ Some (colour_says colour)
number_back true = refl
number_back false = refl

-- numbers are a colour exactly where they are its number
pub colour_numbers : AreItsNumbers colour_shape
colour_numbers list label = (
  λ is. (of_its_number list label is, tt),
  λ its. let here : colour_of_numbers list ≡ colour_of_numbers (numbers_of_colour label) = ap colour_of_numbers its.0 in
      let back = number_back label.colour in cc,
)

-- the bit of a colour
pub colour_written : (code : ℕ → List Bool) (label : ColourLabel)
    → spelling colour_shape code label ≡ label.colour ∷ []
colour_written code label = by label.colour
  where
    by : (colour : Bool) → spelling colour_shape code (colour_says colour) ≡ colour ∷ []
    by true = refl
    by false = refl

-- two numbers are no colour
two_are_none : (colour : Bool) (next : ℕ) (others : List ℕ)
    → colour_of_numbers (weigh colour ∷ next ∷ others) ≡ None
two_are_none true next others = refl
two_are_none false next others = refl

-- nothing is said by what has one bit more
none_behind : (colour : Bool) (left : NumbersLeft) → (left.numbers ≡ [] → left.clean ≡ false)
    → if_clean colour_of_numbers (record { numbers = weigh colour ∷ left.numbers; clean = left.clean })
    ≡ None
none_behind colour left torn = by left.numbers left.clean torn
  where
    by : (numbers : List ℕ) (clean : Bool) → (numbers ≡ [] → clean ≡ false)
        → (if clean then colour_of_numbers (weigh colour ∷ numbers) else None) ≡ None
    by numbers false torn = refl
    by [] true torn = let no : true ≡ false = torn refl in absurd (cc)
    by (number ∷ numbers) true torn = two_are_none colour number numbers

module _ (takes : List Bool → Option (ℕ × List Bool)) where
  -- one bit says its colour
  pub one_said : (colour : Bool) → said_by colour_shape takes (colour ∷ []) ≡ Some (colour_says colour)
  unfolding left_in
  one_said true = refl
  one_said false = refl

  -- no bit says nothing
  pub none_said : said_by colour_shape takes [] ≡ None
  unfolding left_in
  none_said = refl

  -- where bits are left, numbers are, or the rest is no number
  left_torn : (most : ℕ) (bit : Bool) (bits : List Bool)
      → (left_within takes [] most (bit ∷ bits)).numbers ≡ []
      → (left_within takes [] most (bit ∷ bits)).clean ≡ false
  left_torn zero bit bits none = refl
  left_torn (suc most) bit bits none = by (takes (bit ∷ bits)) refl none
    where
      by : (found : Option (ℕ × List Bool)) → takes (bit ∷ bits) ≡ found
          → (left_within takes [] (suc most) (bit ∷ bits)).numbers ≡ []
          → (left_within takes [] (suc most) (bit ∷ bits)).clean ≡ false
      by None is = rw is (λ none. refl)
      by (Some found) is = rw is (λ none. absurd (cc))

  -- nor do two and more
  pub more_said : (colour next : Bool) (others : List Bool)
      → said_by colour_shape takes (colour ∷ next ∷ others) ≡ None
  unfolding left_in
  more_said colour next others = by colour
    where
      left : NumbersLeft
      left = left_within takes [] (suc (length others)) (next ∷ others)

      by : (colour : Bool)
          → if_clean colour_of_numbers (record { numbers = weigh colour ∷ left.numbers; clean = left.clean })
          ≡ None
      by colour = none_behind colour left (left_torn (suc (length others)) next others)

  -- what bits say by their number: a colour exactly where they are one
  pub colour_read : (bits : List Bool) (colour : Bool) → length bits ≡ 1
      → slice_get bits 0 ≡ Some colour
      → Some (colour_says colour) ≡ said_by colour_shape takes bits
  colour_read [] colour one first = absurd (omega (arith, one))
  colour_read (bit ∷ []) colour one first =
      let same : bit ≡ colour = cc in rw (sym same) (sym (one_said bit))
  colour_read (bit ∷ next ∷ others) colour one first = absurd (omega (arith, one))

  pub no_colour_read : (bits : List Bool) → (length bits ≡ 1 → ⊥)
      → None ≡ said_by colour_shape takes bits
  no_colour_read [] other = sym none_said
  no_colour_read (colour ∷ []) other = absurd (other refl)
  no_colour_read (colour ∷ next ∷ others) other = sym (more_said colour next others)
