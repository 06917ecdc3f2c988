-- What is asked of labels as they are lent.
use Rattle.std.specs.Prelude.{ℕ, ◌==◌, ◌&&◌, Bool, false, List, map, Option, option_map}
use Rattle.std.specs.List.{list_all}
use Rattle.std.specs.Option.{option_map_or}
use Rattle.pls_configuration.specs.declared.row.Port.{Port}
use Rattle.pls_configuration.specs.declared.row.NodeRow.{NodeRow}
use Rattle.pls_configuration.specs.Configuration.{row_of}
use Rattle.pls_labels.specs.declared.view.PortView.{PortView}
use Rattle.pls_labels.specs.Seen.{Seen, SeenPort, shown}
use Rattle.pls_numbers.specs.Shape.{said_by}
use Rattle.pls_scheme.specs.Reading.{read_ports}
use Rattle.pls_universal.specs.declared.map.MapRow.{MapRow}
use Rattle.pls_universal.specs.Reading.{map_shape}
use Rattle.pls_universal.specs.Rules.{has_map, matched, same_record, same_state}

-- what lent ports show
abbrev pub ports_shown : List PortView → List SeenPort
ports_shown ports = map (λ port. shown port.weight port.label) ports

-- the number in front of a label is this one
abbrev pub is_called : (List Bool → Option (ℕ × List Bool)) → ℕ → List Bool → Bool
is_called takes id bits = option_map_or (λ (own : ℕ × List Bool). id == own.0) (takes bits) false

-- the port has the weight, and names the number in front of the label
abbrev pub is_port_seen : (List Bool → Option (ℕ × List Bool)) → Port → SeenPort → Bool
is_port_seen takes port seen = port.weight == seen.weight && is_called takes port.nbr seen.label

-- the node has the state and the ports of the view
abbrev pub is_seen : (List Bool → Option (ℕ × List Bool)) → Seen → NodeRow → Bool
is_seen takes view row =
    same_state row.state view.state && matched (is_port_seen takes) row.ports view.ports

-- the network has the node of the view
abbrev pub has_node : (List Bool → Option (ℕ × List Bool)) → List NodeRow → Seen → Bool
has_node takes rows view = option_map_or (is_seen takes view) (row_of rows view.id) false

-- whether the map of a label is this one, where the label can be read
abbrev pub same_map : (List Bool → Option (ℕ × List Bool)) → List MapRow → List Bool → Option Bool
same_map takes rows bits =
    option_map (λ label. matched same_record label.rows rows) (said_by map_shape takes bits)

-- whether the map of each port's label is this one, where each label can be read
abbrev pub agreement : (List Bool → Option (ℕ × List Bool)) → List MapRow → List SeenPort
    → Option Bool
agreement takes rows ports =
    option_map (list_all (has_map rows)) (read_ports (said_by map_shape takes) ports)
