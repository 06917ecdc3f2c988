-- The map of a network, as a label states it: how many records there are, and for each node in
-- their order its identity, its pointer, its mark, its number, its degree, and for each port the
-- neighbour and the weight.
use Rattle.std.specs.Prelude.{ℕ, ◌+◌, List, [], ◌∷◌, map, length, Option}
use Rattle.std.specs.List.{flat_map}
use Rattle.std.specs.Option.{option_map_or}
use Rattle.pls_configuration.specs.declared.row.Port.{Port}
use Rattle.pls_configuration.specs.declared.row.NodeRow.{NodeRow}
use Rattle.pls_universal.specs.declared.map.MapLabel.{MapLabel}
use Rattle.pls_universal.specs.declared.map.MapRow.{MapRow}

-- the numbers of a port
abbrev pub numbers_of_port : ℕ × ℕ → List ℕ
numbers_of_port port = port.0 ∷ port.1 ∷ []

-- the numbers of a record, in the order in which they are written
abbrev pub numbers_of_row : MapRow → List ℕ
numbers_of_row row =
    row.id ∷ row.up ∷ row.mark ∷ row.num ∷ length row.ports ∷ flat_map numbers_of_port row.ports

-- the numbers of a map
abbrev pub numbers_of_map : List MapRow → List ℕ
numbers_of_map rows = length rows ∷ flat_map numbers_of_row rows

-- a pointer, as a record states it: one more than the port's number, and 0 for none
abbrev pub up_stated : Option ℕ → ℕ
up_stated up = option_map_or (λ port. port + 1) up 0

-- a port, as a record states it
abbrev pub port_stated : Port → ℕ × ℕ
port_stated port = (port.nbr, port.weight)

-- the record of a node
abbrev pub row_stated : NodeRow → MapRow
row_stated row = record {
  id = row.id;
  up = up_stated row.state.up;
  mark = row.state.mark;
  num = row.state.num;
  ports = map port_stated row.ports;
}

-- the map of a network
abbrev pub map_of : List NodeRow → List MapRow
map_of rows = map row_stated rows

-- the numbers of a label: the node's identity, and those of the map
abbrev pub numbers_of_label : MapLabel → List ℕ
numbers_of_label label = label.own ∷ numbers_of_map label.rows
