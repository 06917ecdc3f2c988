-- What numbers say, where they are a map, and the labels that are maps as lists of numbers.
use Rattle.std.specs.Prelude.{ℕ, List, [], ◌∷◌, Option, Some, None, option_map}
use Rattle.pls_numbers.specs.Shape.{Shape}
use Rattle.pls_numbers.specs.Taking.{items_in, many_off}
use Rattle.pls_universal.specs.declared.map.MapLabel.{MapLabel}
use Rattle.pls_universal.specs.declared.map.MapRow.{MapRow}
use Rattle.pls_universal.specs.Map.{numbers_of_label, numbers_of_map}

-- the port that stands in front, and the numbers behind it
abbrev pub port_off : List ℕ → Option ((ℕ × ℕ) × List ℕ)
port_off (nbr ∷ weight ∷ rest) = Some ((nbr, weight), rest)
port_off list = None

-- the record of four numbers and these ports
abbrev pub row_with : ℕ → ℕ → ℕ → ℕ → List (ℕ × ℕ) × List ℕ → MapRow × List ℕ
row_with id up mark num taken = (
  record { id = id; up = up; mark = mark; num = num; ports = taken.0 },
  taken.1,
)

-- the record that stands in front, and the numbers behind it
abbrev pub row_off : List ℕ → Option (MapRow × List ℕ)
row_off (id ∷ up ∷ mark ∷ num ∷ degree ∷ rest) =
    option_map (row_with id up mark num) (many_off port_off degree rest)
row_off list = None

-- the map that has these numbers, if there is one
abbrev pub map_in : List ℕ → Option (List MapRow)
map_in (count ∷ rest) = items_in row_off count rest
map_in [] = None

-- the label of an identity and a map
abbrev pub map_label_with : ℕ → List MapRow → MapLabel
map_label_with own rows = record { own = own; rows = rows }

-- the label that has these numbers, if there is one
abbrev pub label_in : List ℕ → Option MapLabel
label_in (own ∷ rest) = option_map (map_label_with own) (map_in rest)
label_in [] = None

-- maps, each number in code
abbrev pub rows_shape : Shape (List MapRow)
rows_shape = record {
  kinds = [];
  numbers = numbers_of_map;
  Proper = λ _. Unit {0};
  of_numbers = map_in;
}

-- labels that are an identity and a map, each number in code
abbrev pub map_shape : Shape MapLabel
map_shape = record {
  kinds = [];
  numbers = numbers_of_label;
  Proper = λ _. Unit {0};
  of_numbers = label_in;
}
