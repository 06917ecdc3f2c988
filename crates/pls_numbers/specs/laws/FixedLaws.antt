-- Labels of a fixed count of numbers: numbers are a label exactly where they are so many.
use Rattle.std.proofs.Common.{◌≡◌, ◌∙◌, ℕ, zero, suc, inl, inr, ◌+◌, ◌<◌, ◌++◌, ◌&&◌, nat_le, Bool, true, false, if◌then◌else◌, List, [], ◌∷◌, length, drop, get_or, Option, Some, None, option_map, refl, sym, ap, arith, append_assoc, length-append}
use Rattle.std.proofs.lemmas.Bool.{eq-eqb, leb-true}
use Rattle.std.proofs.lemmas.Bool.Decides.{eqb_tells}
use Rattle.std.proofs.lemmas.List.{append-nil, drop_more}
use Rattle.pls_bits.specs.NumberCode.{TakesCodes, TakesOnly}
use Rattle.pls_numbers.specs.Fixed.{AreNumbers, behind_numbers, fields_shape, fixed_shape, label_of_numbers, so_many}
use Rattle.pls_numbers.specs.Shape.{AreItsNumbers, if_clean}
use Rattle.pls_numbers.specs.declared.kind.FieldKind.{FieldKind}
use Rattle.pls_numbers.specs.Numbers.{NumbersLeft, ended, is_end, is_none, left_in, takes_field, whole, with_number}
use Rattle.pls_numbers.specs.laws.LeftLaws.{codes_of_left, left_next, left_none}

-- so many numbers are so many
pub so_many-all : (count : ℕ) (list : List ℕ) → length list ≡ count → so_many count list ≡ Some list
so_many-all count list many = rw (eq-eqb (length list) count many) refl

-- others are not
pub so_many-none : (count : ℕ) (list : List ℕ) → (length list ≡ count → ⊥)
    → so_many count list ≡ None
so_many-none count list other = elim (eqb_tells (length list) count) [
  | inl same ↦ absurd (other same.1)
  | inr differ ↦ rw differ.0 refl
]

-- what is so many is the list itself
pub so_many-only : (count : ℕ) (list label : List ℕ) → so_many count list ≡ Some label
    → (list ≡ label) × (length label ≡ count)
so_many-only count list label is = elim (eqb_tells (length list) count) [
  | inl same ↦
      let all : list ≡ label = so_many-same is same.1 in
      (all, sym (ap (λ (list : List ℕ). length list) all) ∙ same.1)
  | inr differ ↦ absurd (so_many-no is differ.1)
]
  where
    so_many-same : so_many count list ≡ Some label → length list ≡ count → list ≡ label
    so_many-same is many = let both : Some list ≡ Some label = sym (so_many-all count list many) ∙ is in cc

    so_many-no : so_many count list ≡ Some label → (length list ≡ count → ⊥) → ⊥
    so_many-no is other = let both : None ≡ Some label = sym (so_many-none count list other) ∙ is in absurd (cc)

-- lists of so many numbers are labels
pub lists_law : (kinds : List FieldKind) → AreItsNumbers (fields_shape kinds)
lists_law kinds list label = (
  so_many-only (length kinds) list label,
  λ its. ap (so_many (length kinds)) its.0 ∙ so_many-all (length kinds) label its.1,
)

-- so are what they are
pub fixed_law : {L : Type 0} (count : ℕ) (numbers : L → List ℕ) (of_numbers : List ℕ → L)
    → AreNumbers count numbers of_numbers → AreItsNumbers (fixed_shape count numbers of_numbers)
fixed_law {L} count numbers of_numbers are list label = (
  λ is. (by (so_many count list) refl is, tt),
  λ its. ap (label_of_numbers of_numbers count) its.0
      ∙ ap (option_map of_numbers) (so_many-all count (numbers label) (are.many label))
      ∙ ap Some (are.there label),
)
  where
    by : (found : Option (List ℕ)) → so_many count list ≡ found
        → option_map of_numbers found ≡ Some label → list ≡ numbers label
    by None read is = absurd (cc)
    by (Some found) read is =
        let its = so_many-only count list found read in
        let same : of_numbers found ≡ label = cc in
        its.0 ∙ sym (are.back found its.1) ∙ ap numbers same

-- the numbers of a list at its first places
abbrev pub at_places : List ℕ → ℕ → ℕ → List ℕ
at_places list first zero = []
at_places list first (suc count) = get_or list first 0 ∷ at_places list (suc first) count

at_places-behind : (x : ℕ) (xs : List ℕ) (first count : ℕ)
    → at_places (x ∷ xs) (suc first) count ≡ at_places xs first count
at_places-behind x xs first zero = refl
at_places-behind x xs first (suc count) =
    ap (λ (list : List ℕ). get_or xs first 0 ∷ list) (at_places-behind x xs (suc first) count)

-- so many numbers are those at their places
pub at_places-all : (list : List ℕ) (count : ℕ) → length list ≡ count
    → at_places list 0 count ≡ list
at_places-all [] zero long = refl
at_places-all [] (suc count) long = absurd (omega (arith, long))
at_places-all (x ∷ xs) zero long = absurd (omega (arith, long))
at_places-all (x ∷ xs) (suc count) long =
    ap (λ (list : List ℕ). x ∷ list)
    (at_places-behind x xs 0 count ∙ at_places-all xs count (omega (arith, long)))

-- what is taken from the places of a list, and written in this order, is so many numbers
pub are_numbers : {L : Type 0} (count : ℕ) (numbers : L → List ℕ) (of_numbers : List ℕ → L)
    → nat_le count 255 ≡ true
    → ((label : L) → length (numbers label) ≡ count)
    → ((label : L) → of_numbers (numbers label) ≡ label)
    → ((list : List ℕ) → numbers (of_numbers list) ≡ at_places list 0 count)
    → AreNumbers count numbers of_numbers
are_numbers count numbers of_numbers small many there places = record {
  few = leb-true count 255 small;
  many = many;
  there = there;
  back = λ list long. places list ∙ at_places-all list count long;
}

-- ---- numbers that are read one after another

-- a number goes from those to come to those that were read
pub behind_next : (front : List ℕ) (number : ℕ) (left : NumbersLeft)
    → behind_numbers front (with_number number left) ≡ behind_numbers (front ++ number ∷ []) left
behind_next front number left =
    ap (λ (list : List ℕ). let some : NumbersLeft = record { numbers = list; clean = left.clean } in some)
    (sym (append_assoc front (number ∷ []) left.numbers))

-- where so many are read and nothing is left, these are the numbers
pub read_all : (count : ℕ) (front : List ℕ) (left : NumbersLeft) → length front ≡ count
    → is_end left ≡ true → if_clean (so_many count) (behind_numbers front left) ≡ Some front
read_all count front left many ends = by left.numbers left.clean ends
  where
    by : (numbers : List ℕ) (clean : Bool) → (is_none numbers && clean) ≡ true
        → (if clean then so_many count (front ++ numbers) else None) ≡ Some front
    by [] true ends =
        ap (so_many count) (append-nil front) ∙ so_many-all count front many
    by [] false ends = absurd (cc)
    by (number ∷ numbers) true ends = absurd (cc)
    by (number ∷ numbers) false ends = absurd (cc)

-- where something is left, there are none
pub read_spare : (count : ℕ) (front : List ℕ) (left : NumbersLeft) → length front ≡ count
    → is_end left ≡ false → if_clean (so_many count) (behind_numbers front left) ≡ None
read_spare count front left many ends = by left.numbers left.clean ends
  where
    by : (numbers : List ℕ) (clean : Bool) → (is_none numbers && clean) ≡ false
        → (if clean then so_many count (front ++ numbers) else None) ≡ None
    by [] true ends = absurd (cc)
    by [] false ends = refl
    by (number ∷ numbers) true ends = so_many-none count (front ++ number ∷ numbers)
        (λ same. omega (arith, same, many, length-append front (number ∷ numbers)))
    by (number ∷ numbers) false ends = refl

-- where too few are there, there are none either
pub read_short : (count : ℕ) (front : List ℕ) (left : NumbersLeft) → length front < count
    → left.numbers ≡ [] → if_clean (so_many count) (behind_numbers front left) ≡ None
read_short count front left few none = by left.clean
  where
    by : (clean : Bool)
        → (if clean then so_many count (front ++ left.numbers) else None) ≡ None
    by true = so_many-none count (front ++ left.numbers)
        (λ same. let long = length-append front left.numbers in
        let empty = ap (λ (list : List ℕ). length list) none in
        omega (arith, same, few, long, empty))
    by false = refl

module _ (code : ℕ → List Bool) (takes : List Bool → Option (ℕ × List Bool))
    (taken : TakesCodes code takes) (only : TakesOnly code takes) where
  -- nothing is left in no bits, and in no others
  pub end_empty : (bits : List Bool) → bits ≡ [] → is_end (left_in takes [] bits) ≡ true
  unfolding left_in
  end_empty bits none = rw none refl

  pub empty_end : (bits : List Bool) → is_end (left_in takes [] bits) ≡ true → bits ≡ []
  empty_end bits ends = (codes_of_left code takes taken only [] [] bits
      (all_none (left_in takes [] bits) ends)).written
    where
      none : (numbers : List ℕ) (clean : Bool) → (is_none numbers && clean) ≡ true
          → (numbers ≡ []) × (clean ≡ true)
      none [] true ends = (refl, refl)
      none [] false ends = absurd (cc)
      none (number ∷ numbers) true ends = absurd (cc)
      none (number ∷ numbers) false ends = absurd (cc)

      all_none : (left : NumbersLeft) → is_end left ≡ true → left ≡ whole []
      all_none left ends =
          let both = none left.numbers left.clean ends in
          ap (λ (numbers : List ℕ). let some : NumbersLeft = record { numbers = numbers; clean = left.clean } in some) both.0
          ∙ ap (λ (clean : Bool). let some : NumbersLeft = record { numbers = []; clean = clean } in some) both.1

  -- a number more is read of the kind that comes next
  pub field_read : (kinds : List FieldKind) (i : ℕ) (d : FieldKind) → i < length kinds
      → (front : List ℕ) (bits old new : List Bool) (number : ℕ)
      → left_in takes kinds bits ≡ behind_numbers front (left_in takes (drop i kinds) old)
      → takes_field takes (get_or kinds i d) old ≡ Some (number, new)
      → left_in takes kinds bits
      ≡ behind_numbers (front ++ number ∷ []) (left_in takes (drop (i + 1) kinds) new)
  field_read kinds i d within front bits old new number before next =
      before
      ∙ ap (λ (kinds : List FieldKind). behind_numbers front (left_in takes kinds old))
      (drop_more kinds i d within)
      ∙ ap (behind_numbers front) (left_next code takes taken only (get_or kinds i d ∷ drop (i + 1) kinds)
      old number new next)
      ∙ behind_next front number (left_in takes (drop (i + 1) kinds) new)

  -- where none is, none is left
  pub field_none : (kinds : List FieldKind) (i : ℕ) (d : FieldKind) → i < length kinds
      → (old : List Bool) → takes_field takes (get_or kinds i d) old ≡ None
      → (left_in takes (drop i kinds) old).numbers ≡ []
  field_none kinds i d within old next =
      ap (λ (kinds : List FieldKind). (left_in takes kinds old).numbers)
      (drop_more kinds i d within)
      ∙ ap (λ (left : NumbersLeft). left.numbers)
      (left_none code takes taken only (get_or kinds i d ∷ drop (i + 1) kinds) old next)
      ∙ none old
    where
      none : (bits : List Bool) → (ended bits).numbers ≡ []
      none [] = refl
      none (bit ∷ bits) = refl

  -- whether nothing is left is whether there is no bit
  pub end_is : (bits : List Bool) (empty : Bool) → (empty ≡ true → bits ≡ [])
      → (bits ≡ [] → empty ≡ true) → empty ≡ is_end (left_in takes [] bits)
  end_is bits true there back = sym (end_empty bits (there refl))
  end_is bits false there back = by (is_end (left_in takes [] bits)) refl
    where
      by : (ends : Bool) → is_end (left_in takes [] bits) ≡ ends → false ≡ ends
      by false ends = refl
      by true ends = let no : false ≡ true = back (empty_end bits ends) in absurd (cc)
