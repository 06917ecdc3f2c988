-- What a node sees, with its labels read as fields; a label that cannot be read has none.
use Rattle.std.specs.Prelude.{ℕ, Bool, List, [], map, Option, unwrap_or}
use Rattle.std.specs.Option.{is_some}
use Rattle.pls_labels.specs.Seen.{Seen, SeenPort}
use Rattle.pls_scheme.specs.Reading.{ReadPort}
use Rattle.pls_numbers.specs.declared.kind.FieldKind.{FieldKind}
use Rattle.pls_bits.specs.Gamma.{gamma_takes}
use Rattle.pls_numbers.specs.Fixed.{fields_shape}
use Rattle.pls_numbers.specs.Shape.{said_by}
use Rattle.pls_compile.specs.RuleMeaning.{Sight}

-- the numbers of the fields that the bits are a label of, read to their last bit
abbrev pub numbers_in : List FieldKind → List Bool → Option (List ℕ)
numbers_in kinds bits = said_by (fields_shape kinds) gamma_takes bits

-- the bits are a label of the fields
abbrev pub is_read : List FieldKind → List Bool → Bool
is_read kinds bits = is_some (numbers_in kinds bits)

-- the numbers of the fields of a label
abbrev pub values_of : List FieldKind → List Bool → List ℕ
values_of kinds bits = unwrap_or (numbers_in kinds bits) []

-- what the node reads at a port
abbrev pub port_values : List FieldKind → SeenPort → ReadPort (List ℕ)
port_values kinds port = record { weight = port.weight; label = values_of kinds port.label }

-- what the node reads
abbrev pub sight_of : List FieldKind → Seen → Sight
sight_of kinds view =
    record {
      id = view.id;
      state = view.state;
      own = values_of kinds view.own;
      ports = map (port_values kinds) view.ports;
    }
