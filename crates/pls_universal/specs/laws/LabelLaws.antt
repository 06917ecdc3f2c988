-- Labels as bits: the code of an identity, and behind it a map.
use Rattle.std.proofs.Common.{◌≡◌, ◌∙◌, ℕ, Bool, true, false, if◌then◌else◌, List, [], ◌∷◌, Option, Some, None, option_map, refl, sym, ap}
use Rattle.pls_bits.specs.NumberCode.{TakesCodes, TakesOnly}
use Rattle.pls_numbers.specs.Numbers.{ended, left_in}
use Rattle.pls_numbers.specs.Shape.{if_clean, said_by}
use Rattle.pls_numbers.specs.laws.LeftLaws.{left_next, left_none}
use Rattle.pls_universal.specs.declared.map.MapLabel.{MapLabel}
use Rattle.pls_universal.specs.declared.map.MapRow.{MapRow}
use Rattle.pls_universal.specs.Reading.{label_in, map_in, map_label_with, map_shape, rows_shape}

module _ (code : ℕ → List Bool) (takes : List Bool → Option (ℕ × List Bool))
    (taken : TakesCodes code takes) (only : TakesOnly code takes) where
  -- a label is what its first number says, and the map behind it
  pub label-parts : (bits : List Bool) (own : ℕ) (rest : List Bool)
      → takes bits ≡ Some (own, rest)
      → said_by map_shape takes bits
      ≡ option_map (map_label_with own) (said_by rows_shape takes rest)
  label-parts bits own rest first =
      ap (if_clean label_in) (left_next code takes taken only [] bits own rest first)
      ∙ by (left_in takes [] rest).numbers (left_in takes [] rest).clean
    where
      by : (list : List ℕ) (clean : Bool) → (if clean then label_in (own ∷ list) else None)
          ≡ option_map (map_label_with own) (if clean then map_in list else None)
      by list true = refl
      by list false = refl

  -- where no number is in front, there is none
  pub label-none : (bits : List Bool) → takes bits ≡ None → said_by map_shape takes bits ≡ None
  label-none bits none =
      ap (if_clean label_in) (left_none code takes taken only [] bits none) ∙ by bits
    where
      by : (bits : List Bool) → if_clean label_in (ended bits) ≡ None
      by [] = refl
      by (bit ∷ bits) = refl

  -- where a number is in front of a label, it is its identity, and the map is behind it
  pub behind_number : (bits : List Bool) (own : ℕ) (rest : List Bool) (label : MapLabel)
      → takes bits ≡ Some (own, rest) → said_by map_shape takes bits ≡ Some label
      → (own ≡ label.own) × (said_by rows_shape takes rest ≡ Some label.rows)
  behind_number bits own rest label first is =
      by (said_by rows_shape takes rest) (sym (label-parts bits own rest first) ∙ is)
    where
      by : (found : Option (List MapRow)) → option_map (map_label_with own) found ≡ Some label
          → (own ≡ label.own) × (found ≡ Some label.rows)
      by None is = absurd (cc)
      by (Some rows) is =
          let same : map_label_with own rows ≡ label = cc in (
            ap (λ (label : MapLabel). label.own) same,
            ap (λ (label : MapLabel). Some label.rows) same,
          )
