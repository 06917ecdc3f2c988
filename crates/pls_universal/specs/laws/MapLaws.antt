-- Numbers are a map, or a label, exactly where they are its numbers.
use Rattle.std.proofs.Common.{◌≡◌, ◌∙◌, ℕ, ◌++◌, List, [], ◌∷◌, Option, Some, None, option_map, refl, sym, ap}
use Rattle.std.specs.List.{flat_map}
use Rattle.pls_numbers.specs.Shape.{AreItsNumbers}
use Rattle.pls_numbers.specs.Taking.{IsExact, many_off}
use Rattle.pls_numbers.specs.laws.LeftLaws.{same_parts}
use Rattle.pls_numbers.specs.laws.TakingLaws.{all_any, items_only, items_read, many_only, many_read}
use Rattle.pls_universal.specs.declared.map.MapLabel.{MapLabel}
use Rattle.pls_universal.specs.declared.map.MapRow.{MapRow}
use Rattle.pls_universal.specs.Map.{numbers_of_label, numbers_of_map, numbers_of_port, numbers_of_row}
use Rattle.pls_universal.specs.Reading.{map_in, map_label_with, label_in, map_shape, port_off, row_off, row_with, rows_shape}

-- nothing more is asked
abbrev Any : {X : Type 0} → X → Type 0
Any x = Unit {0}

port_only : (list : List ℕ) (port : ℕ × ℕ) (rest : List ℕ) → port_off list ≡ Some (port, rest)
    → (list ≡ numbers_of_port port ++ rest) × Any port
port_only [] port rest is = absurd (cc)
port_only (nbr ∷ []) port rest is = absurd (cc)
port_only (nbr ∷ weight ∷ more) port rest is =
    let one : ℕ × ℕ = (nbr, weight) in
    let same = same_parts (one, more) (port, rest) is in
    rw (sym same.0, sym same.1) (refl, tt)

exact_port : IsExact port_off numbers_of_port Any
exact_port = record { read = λ port rest any. refl; only = port_only }

row_only : (list : List ℕ) (row : MapRow) (rest : List ℕ) → row_off list ≡ Some (row, rest)
    → (list ≡ numbers_of_row row ++ rest) × Any row
row_only [] row rest is = absurd (cc)
row_only (id ∷ []) row rest is = absurd (cc)
row_only (id ∷ up ∷ []) row rest is = absurd (cc)
row_only (id ∷ up ∷ mark ∷ []) row rest is = absurd (cc)
row_only (id ∷ up ∷ mark ∷ num ∷ []) row rest is = absurd (cc)
row_only (id ∷ up ∷ mark ∷ num ∷ degree ∷ more) row rest is =
    by (many_off port_off degree more) refl is
  where
    by : (found : Option (List (ℕ × ℕ) × List ℕ)) → many_off port_off degree more ≡ found
        → option_map (row_with id up mark num) found ≡ Some (row, rest)
        → (id ∷ up ∷ mark ∷ num ∷ degree ∷ more ≡ numbers_of_row row ++ rest) × Any row
    by None read is = absurd (cc)
    by (Some found) read is =
        let same = same_parts (row_with id up mark num found) (row, rest) is in
        let all = many_only port_off numbers_of_port Any exact_port degree more found.0 found.1
        read in
        rw (sym same.0, sym same.1) (
          ap (λ (tail : List ℕ). id ∷ up ∷ mark ∷ num ∷ degree ∷ tail) all.1
              ∙ ap (λ (degree : ℕ). id ∷ up ∷ mark ∷ num ∷ degree
              ∷ (flat_map numbers_of_port found.0 ++ found.1)) (sym all.0),
          tt,
        )

exact_row : IsExact row_off numbers_of_row Any
exact_row = record {
  read = λ row rest any. ap (option_map (row_with row.id row.up row.mark row.num))
      (many_read port_off numbers_of_port Any exact_port row.ports rest (all_any row.ports));
  only = row_only;
}

rows_only : (list : List ℕ) (rows : List MapRow) → map_in list ≡ Some rows
    → (list ≡ numbers_of_map rows) × Any rows
rows_only [] rows is = absurd (cc)
rows_only (count ∷ rest) rows is =
    let all = items_only row_off numbers_of_row Any exact_row count rest rows is in (
      ap (λ (tail : List ℕ). count ∷ tail) all.1
          ∙ ap (λ (count : ℕ). count ∷ flat_map numbers_of_row rows) (sym all.0),
      tt,
    )

-- numbers are a map exactly where they are its numbers
pub rows_numbers : AreItsNumbers rows_shape
rows_numbers list rows = (
  rows_only list rows,
  λ its. ap map_in its.0 ∙ items_read row_off numbers_of_row Any exact_row rows (all_any rows),
)

label_only : (list : List ℕ) (label : MapLabel) → label_in list ≡ Some label
    → (list ≡ numbers_of_label label) × Any label
label_only [] label is = absurd (cc)
label_only (own ∷ rest) label is = by (map_in rest) refl is
  where
    by : (found : Option (List MapRow)) → map_in rest ≡ found
        → option_map (map_label_with own) found ≡ Some label
        → (own ∷ rest ≡ numbers_of_label label) × Any label
    by None read is = absurd (cc)
    by (Some rows) read is =
        let same : map_label_with own rows ≡ label = cc in
        rw (sym same) (
          ap (λ (tail : List ℕ). own ∷ tail) ((rows_numbers rest rows).0 read).0,
          tt,
        )

-- and a label exactly where they are its numbers
pub map_numbers : AreItsNumbers map_shape
map_numbers list label = (
  label_only list label,
  λ its. ap label_in its.0 ∙ ap (option_map (map_label_with label.own))
      ((rows_numbers (numbers_of_map label.rows) label.rows).1 (refl, tt)),
)
