-- Labels of a fixed count of numbers.
use Rattle.std.specs.Prelude.{◌≡◌, ℕ, ◌≤◌, ◌==◌, ◌++◌, if◌then◌else◌, List, [], length, Option, Some, None, option_map}
use Rattle.pls_numbers.specs.declared.kind.FieldKind.{FieldKind}
use Rattle.pls_numbers.specs.Numbers.{NumbersLeft}
use Rattle.pls_numbers.specs.Shape.{Shape}

-- the list, where it is so many numbers
abbrev pub so_many : ℕ → List ℕ → Option (List ℕ)
so_many count list = if length list == count then Some list else None

-- the label that so many numbers are, and none where they are more or fewer
abbrev pub label_of_numbers : {L : Type 0} → (List ℕ → L) → ℕ → List ℕ → Option L
label_of_numbers of_numbers count list = option_map of_numbers (so_many count list)

-- labels of so many numbers, each in code
abbrev pub fixed_shape : {L : Type 0} → ℕ → (L → List ℕ) → (List ℕ → L) → Shape L
fixed_shape count numbers of_numbers = record {
  kinds = [];
  numbers = numbers;
  Proper = λ _. Unit {0};
  of_numbers = label_of_numbers of_numbers count;
}

-- labels of one number for each field
abbrev pub fields_shape : List FieldKind → Shape (List ℕ)
fields_shape kinds = record {
  kinds = kinds;
  numbers = λ label. label;
  Proper = λ label. length label ≡ length kinds;
  of_numbers = so_many (length kinds);
}

-- labels are so many numbers, at most 255
pub record AreNumbers {L : Type 0} (count : ℕ) (numbers : L → List ℕ)
    (of_numbers : List ℕ → L) : Type 0 where
  pub few : count ≤ 255
  pub many : (label : L) → length (numbers label) ≡ count
  pub there : (label : L) → of_numbers (numbers label) ≡ label
  pub back : (list : List ℕ) → length list ≡ count → numbers (of_numbers list) ≡ list

-- some numbers in front of those that are left
abbrev pub behind_numbers : List ℕ → NumbersLeft → NumbersLeft
behind_numbers front left = record { numbers = front ++ left.numbers; clean = left.clean }
