-- Fields that are read off a list of bits one after the other.
use Rattle.std.proofs.Common.{◌≡◌, ◌∙◌, ℕ, ◌+◌, ◌<◌, ◌≤◌, ◌^◌, Bool, true, false, List, [], ◌∷◌, length, drop, get_or, slice_set, take, Some, None, refl, sym, ap, arith}
use Rattle.std.specs.Prelude.{All}
use Rattle.std.proofs.lemmas.List.{drop_all, length-take-le, take_more_set}
use Rattle.std.proofs.lemmas.List.Elements.{All-cons, All-nil}
use Rattle.pls_bits.specs.Gamma.{gamma_code, gamma_takes}
use Rattle.pls_bits.specs.laws.GammaLaws.{gamma_takes-code, gamma_takes-only}
use Rattle.pls_numbers.specs.declared.kind.FieldKind.{FieldKind}
use Rattle.pls_numbers.specs.declared.kind.FieldKind.TheVariants.{Num, Bit}
use Rattle.pls_numbers.specs.Fixed.{behind_numbers, fields_shape, so_many}
use Rattle.pls_numbers.specs.Numbers.{AreCoded, is_end, later_kinds, left_in, most_of, next_kind, takes_field}
use Rattle.pls_numbers.specs.Shape.{if_clean}
use Rattle.pls_numbers.specs.laws.FixedLaws.{end_empty, empty_end, field_none, field_read, lists_law, read_all, read_short, read_spare}
use Rattle.pls_numbers.specs.laws.FormatLaws.{said_spells}
use Rattle.pls_compile.specs.Readable.{IsLabel}
use Rattle.pls_compile.specs.ReadLabels.{numbers_in}

-- a number that can be written has at most 64 bits
most_small : (kind : FieldKind) (number : ℕ) → number ≤ most_of kind → number < 2 ^ 64
most_small Num number small = omega (arith, small)
most_small Bit number small = omega (arith, small)

coded_small : (kinds : List FieldKind) (numbers : List ℕ) → AreCoded kinds numbers
    → All (λ (number : ℕ). number < 2 ^ 64) numbers
coded_small kinds [] coded = All-nil (λ (number : ℕ). number < 2 ^ 64)
coded_small kinds (number ∷ numbers) coded =
    All-cons (λ (number : ℕ). number < 2 ^ 64) number numbers
    (most_small (next_kind kinds) number coded.0)
    (coded_small (later_kinds kinds) numbers coded.1)

-- what is read is a number for each field
pub fields_fit : (kinds : List FieldKind) (bits : List Bool) (values : List ℕ)
    → numbers_in kinds bits ≡ Some values → IsLabel (length kinds) values
fields_fit kinds bits values read =
    let spelled = (said_spells (fields_shape kinds) (lists_law kinds) gamma_code gamma_takes
    gamma_takes-code gamma_takes-only bits values).0 read in
    record { long = spelled.proper; small = coded_small kinds values spelled.codes.coded }

module _ (bits left : List Bool) (kinds : List FieldKind) (i : ℕ) (values : List ℕ)
    (few : length kinds ≤ length values)
    (so_far : left_in gamma_takes kinds bits
    ≡ behind_numbers (take i values) (left_in gamma_takes (drop i kinds) left)) where
  -- one field more is read
  pub fields_more : (rest : List Bool) (none : FieldKind) (value : ℕ) → i < length kinds
      → takes_field gamma_takes (get_or kinds i none) left ≡ Some (value, rest)
      → left_in gamma_takes kinds bits
      ≡ behind_numbers (take (i + 1) (slice_set values i value))
      (left_in gamma_takes (drop (i + 1) kinds) rest)
  fields_more rest none value within taken =
      field_read gamma_code gamma_takes gamma_takes-code gamma_takes-only kinds i none within
      (take i values) bits left rest value so_far taken
      ∙ ap (λ (front : List ℕ). behind_numbers front (left_in gamma_takes (drop (i + 1) kinds) rest))
      (sym (take_more_set values i value (omega (arith, within, few))))

  -- it cannot be
  pub fields_stop : (none : FieldKind) → i < length kinds
      → takes_field gamma_takes (get_or kinds i none) left ≡ None → numbers_in kinds bits ≡ None
  fields_stop none within taken =
      let long : length (take i values) ≡ i =
      length-take-le i values (omega (arith, within, few)) in
      ap (if_clean (so_many (length kinds))) so_far
      ∙ read_short (length kinds) (take i values) (left_in gamma_takes (drop i kinds) left)
      (omega (arith, long, within))
      (field_none gamma_code gamma_takes gamma_takes-code gamma_takes-only kinds i none within left
      taken)

  module _ (all : i ≡ length kinds) where
    -- the numbers so far are all
    long : length (take i values) ≡ length kinds
    long = length-take-le i values (omega (arith, all, few)) ∙ all

    last : left_in gamma_takes kinds bits ≡ behind_numbers (take i values) (left_in gamma_takes [] left)
    last =
        so_far ∙ ap (λ (kinds : List FieldKind). behind_numbers (take i values)
        (left_in gamma_takes kinds left)) (drop_all i kinds (omega (arith, all)))

    -- where nothing is left, they are the label's
    pub fields_end : left ≡ [] → numbers_in kinds bits ≡ Some (take (length kinds) values)
    fields_end ends =
        ap (if_clean (so_many (length kinds))) last
        ∙ read_all (length kinds) (take i values) (left_in gamma_takes [] left) long
        (end_empty gamma_code gamma_takes gamma_takes-code gamma_takes-only left ends)
        ∙ ap (λ (n : ℕ). Some (take n values)) all

    -- where something is left, there is none
    pub fields_spare : (left ≡ [] → ⊥) → numbers_in kinds bits ≡ None
    fields_spare more =
        ap (if_clean (so_many (length kinds))) last
        ∙ read_spare (length kinds) (take i values) (left_in gamma_takes [] left) long
        (not_ended (is_end (left_in gamma_takes [] left)) refl)
      where
        not_ended : (ends : Bool) → is_end (left_in gamma_takes [] left) ≡ ends
            → is_end (left_in gamma_takes [] left) ≡ false
        not_ended true is = absurd (more (empty_end gamma_code gamma_takes gamma_takes-code
            gamma_takes-only left is))
        not_ended false is = is
