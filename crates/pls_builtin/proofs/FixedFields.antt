-- Labels of a fixed count of numbers in code, read as fields.
use Rattle.std.proofs.Common.{◌≡◌, ◌∙◌, ℕ, zero, suc, Bool, true, false, List, [], ◌∷◌, length, Option, Some, None, option_map, refl, sym, ap}
use Rattle.pls_numbers.specs.declared.kind.FieldKind.{FieldKind}
use Rattle.pls_numbers.specs.declared.kind.FieldKind.TheVariants.{Num}
use Rattle.pls_numbers.specs.Fixed.{AreNumbers, fields_shape, fixed_shape, label_of_numbers, so_many}
use Rattle.pls_numbers.specs.Numbers.{left_in, left_within, with_number}
use Rattle.pls_numbers.specs.Shape.{if_clean, said_by}
use Rattle.pls_numbers.specs.laws.FixedLaws.{so_many-only}
use Rattle.pls_labels.specs.Seen.{Seen}
use Rattle.pls_scheme.specs.Basic.{verdict_by}
use Rattle.pls_scheme.specs.Reading.{Read, ReadPort, reading}
use Rattle.pls_compile.specs.RuleMeaning.{Sight}
use Rattle.pls_builtin.proofs.Agreeing.{PointsWithin, agrees, in_numbers}

-- so many fields in code
abbrev pub in_code : ℕ → List FieldKind
in_code zero = []
in_code (suc count) = Num ∷ in_code count

in_code-length : (count : ℕ) → length (in_code count) ≡ count
in_code-length zero = refl
in_code-length (suc count) = ap suc (in_code-length count)

module _ (takes : List Bool → Option (ℕ × List Bool)) where
  -- what is left is the same whether their kinds are stated or not
  within_same : (count most : ℕ) (bits : List Bool)
      → left_within takes (in_code count) most bits ≡ left_within takes [] most bits
  within_same zero most bits = refl
  within_same (suc count) zero bits = refl
  within_same (suc count) (suc most) bits = by (takes bits) refl (within_same count most)
    where
      by : (found : Option (ℕ × List Bool)) → takes bits ≡ found
          → ((bits : List Bool)
          → left_within takes (in_code count) most bits ≡ left_within takes [] most bits)
          → left_within takes (in_code (suc count)) (suc most) bits
          ≡ left_within takes [] (suc most) bits
      by None is shorter = rw is refl
      by (Some found) is shorter = rw is (ap (with_number found.0) (shorter found.1))

  left_same : (count : ℕ) (bits : List Bool)
      → left_in takes (in_code count) bits ≡ left_in takes [] bits
  unfolding left_in
  left_same count bits = within_same count (length bits) bits

  module _ {L : Type 0} (count : ℕ) (numbers : L → List ℕ) (of_numbers : List ℕ → L)
      (are : AreNumbers count numbers of_numbers) where
    -- the numbers of what so many numbers are, are these
    numbers_same : (list : List ℕ)
        → so_many count list ≡ option_map numbers (label_of_numbers of_numbers count list)
    numbers_same list = by (so_many count list) refl
      where
        by : (found : Option (List ℕ)) → so_many count list ≡ found
            → found ≡ option_map numbers (option_map of_numbers found)
        by None is = refl
        by (Some label) is =
            let its = so_many-only count list label is in
            ap Some (sym (are.back label its.1))

    clean_same : (list : List ℕ) (clean : Bool)
        → if_clean (so_many count) (record { numbers = list; clean = clean })
        ≡ option_map numbers
        (if_clean (label_of_numbers of_numbers count) (record { numbers = list; clean = clean }))
    clean_same list true = numbers_same list
    clean_same list false = refl

    -- fields in code are the numbers of the label that the bits are
    fixed_fields : (bits : List Bool)
        → said_by (fields_shape (in_code count)) takes bits
        ≡ option_map numbers (said_by (fixed_shape count numbers of_numbers) takes bits)
    fixed_fields bits =
        ap (λ (n : ℕ). if_clean (so_many n) (left_in takes (in_code count) bits))
        (in_code-length count)
        ∙ ap (if_clean (so_many count)) (left_same count bits)
        ∙ clean_same (left_in takes [] bits).numbers (left_in takes [] bits).clean

-- rules on numbers in code that say the same as a scheme's judge the same
pub fixed_agrees : {L : Type 0} (count : ℕ) (numbers : L → List ℕ) (of_numbers : List ℕ → L)
    → AreNumbers count numbers of_numbers
    → (rules : Read L → List Bool) (others : Sight → List Bool)
    (view : Seen) → PointsWithin view.state.up (length view.ports)
    → ((own : L) (ports : List (ReadPort L)) → PointsWithin view.state.up (length ports)
    → others (in_numbers numbers (reading view.id view.state own ports))
    ≡ rules (reading view.id view.state own ports))
    → (takes : List Bool → Option (ℕ × List Bool))
    → verdict_by (fields_shape (in_code count)) others takes view
    ≡ verdict_by (fixed_shape count numbers of_numbers) rules takes view
fixed_agrees count numbers of_numbers are rules others view within say takes =
    agrees numbers (said_by (fixed_shape count numbers of_numbers) takes)
    (said_by (fields_shape (in_code count)) takes)
    (fixed_fields takes count numbers of_numbers are) rules others view within say
