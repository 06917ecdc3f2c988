-- What a node asks of the maps in its view. Rules 1 and 2 are that the labels can be read.
use Rattle.std.specs.Prelude.{◌≡◌, ◌↔◌, ℕ, zero, suc, ◌-◌, ◌^◌, ◌==◌, ◌&&◌, nat_le, Bool, true, false, List, [], ◌∷◌, map, length, Option, Some, None}
use Rattle.std.specs.List.{list_all}
use Rattle.std.specs.Option.{is_none, option_map_or}
use Rattle.pls_configuration.specs.declared.limits.TheConstants.{MAX_NODES, MAX_NUM, MAX_PORTS}
use Rattle.pls_configuration.specs.declared.row.Port.{Port}
use Rattle.pls_configuration.specs.declared.row.State.{State}
use Rattle.pls_configuration.specs.declared.row.NodeRow.{NodeRow}
use Rattle.pls_configuration.specs.Configuration.{IsNetwork, ids_of, ports_in, refusal_of, row_of}
use Rattle.pls_configuration.specs.Walk.{IsConnected, edges_of}
use Rattle.pls_facts.specs.Classes.{joins_all}
use Rattle.pls_scheme.specs.Reading.{Read, ReadPort}
use Rattle.pls_universal.specs.declared.map.MapLabel.{MapLabel}
use Rattle.pls_universal.specs.declared.map.MapRow.{MapRow}
use Rattle.pls_universal.specs.Map.{map_of}

-- the pointer that a record states
abbrev pub up_of : ℕ → Option ℕ
up_of zero = None
up_of (suc port) = Some port

-- the port that a record states
abbrev pub port_of : ℕ × ℕ → Port
port_of port = record { nbr = port.0; weight = port.1 }

-- the node that a record states
abbrev pub node_of : MapRow → NodeRow
node_of row = record {
  id = row.id;
  state = record { up = up_of row.up; mark = row.mark; num = row.num };
  ports = map port_of row.ports;
}

-- the rows that a map states
abbrev pub nodes_of : List MapRow → List NodeRow
nodes_of rows = map node_of rows

-- two lists are as long, and item by item the test passes
abbrev pub matched : {X Y : Type 0} → (X → Y → Bool) → List X → List Y → Bool
matched test [] [] = true
matched test [] (y ∷ ys) = false
matched test (x ∷ xs) [] = false
matched test (x ∷ xs) (y ∷ ys) = test x y && matched test xs ys

-- two pairs of numbers are the same
abbrev pub same_port : ℕ × ℕ → ℕ × ℕ → Bool
same_port one other = one.0 == other.0 && one.1 == other.1

-- two records are the same
abbrev pub same_record : MapRow → MapRow → Bool
same_record one other =
    one.id == other.id && one.up == other.up && one.mark == other.mark && one.num == other.num
    && matched same_port one.ports other.ports

-- the neighbour's map is this one
abbrev pub has_map : List MapRow → ReadPort MapLabel → Bool
has_map rows port = matched same_record port.label.rows rows

-- a number of 32 bits
abbrev pub fits_32_bits : ℕ → Bool
fits_32_bits number = nat_le number (2 ^ 32 - 1)

-- the neighbour and the weight of a port are numbers of 32 bits
abbrev pub is_port_small : ℕ × ℕ → Bool
is_port_small port = fits_32_bits port.0 && fits_32_bits port.1

-- a record's identity, mark and ports have numbers of 32 bits, and its number is at most 2^62
abbrev pub is_small : MapRow → Bool
is_small row =
    fits_32_bits row.id && fits_32_bits row.mark && nat_le row.num MAX_NUM
    && list_all is_port_small row.ports

-- a map is within the limits: its counts and its numbers
abbrev pub is_within_limits : List MapRow → Bool
is_within_limits rows =
    nat_le 1 (length rows) && nat_le (length rows) MAX_NODES
    && nat_le (ports_in (nodes_of rows)) MAX_PORTS && list_all is_small rows

-- the edges join all nodes
abbrev pub is_joined : List NodeRow → Bool
is_joined rows = joins_all (edges_of rows) (ids_of rows)

-- rule 3: own is the identity
abbrev pub names_itself : Read MapLabel → Bool
names_itself view = view.own.own == view.id

-- rule 4: every neighbour's map is the own map
abbrev pub agrees_on_map : Read MapLabel → Bool
agrees_on_map view = list_all (has_map view.own.rows) view.ports

-- rule 5: the map is a network within the limits, and connected
abbrev pub is_network : List MapRow → Bool
is_network rows =
    is_within_limits rows && is_none (refusal_of (nodes_of rows)) && is_joined (nodes_of rows)

-- two pointers are the same
abbrev pub same_up : Option ℕ → Option ℕ → Bool
same_up None None = true
same_up None (Some other) = false
same_up (Some port) None = false
same_up (Some port) (Some other) = port == other

-- two states are the same
abbrev pub same_state : State → State → Bool
same_state one other =
    same_up one.up other.up && one.mark == other.mark && one.num == other.num

-- the port has the weight, and names what the neighbour calls itself
abbrev pub is_port_right : Port → ReadPort MapLabel → Bool
is_port_right port read = port.weight == read.weight && port.nbr == read.label.own

-- the node's state and ports are these
abbrev pub is_node_right : Read MapLabel → NodeRow → Bool
is_node_right view row =
    same_state row.state view.state && matched is_port_right row.ports view.ports

-- rule 6: the map has a record of the identity, with the node's state and ports
abbrev pub is_in_map : Read MapLabel → Bool
is_in_map view =
    option_map_or (is_node_right view) (row_of (nodes_of view.own.rows) view.id) false

-- the rules from 3 on; rule 7 is that the network of the map passes the test of the property
abbrev pub map_rules : (List NodeRow → Bool) → Read MapLabel → List Bool
map_rules test view =
    names_itself view ∷ agrees_on_map view ∷ is_network view.own.rows ∷ is_in_map view
    ∷ test (nodes_of view.own.rows) ∷ []

-- a test passes exactly where a connected network has the property
abbrev pub IsTestOf : (List NodeRow → Bool) → (List NodeRow → Type 0) → Type 0
IsTestOf test holds =
    (rows : List NodeRow) → IsNetwork rows → IsConnected rows → (test rows ≡ true) ↔ holds rows

-- a label that is right for a node: its own is the identity, its map is that of the network
abbrev pub map_says : List NodeRow → NodeRow → MapLabel → Type 0
map_says rows row label = (label.own ≡ row.id) × (label.rows ≡ map_of rows)
