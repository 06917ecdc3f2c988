-- Edits of networks, as functions on lists of rows, and why they are refused.
use Rattle.std.specs.Prelude.{◌≡◌, ℕ, ◌-◌, ◌==◌, ◌||◌, nat_lt, nat_le, Bool, true, false, not, List, [], ◌∷◌, ◌++◌, map, filter, length, position, Option, Some, None, option_and_then, if◌then◌else◌}
use Rattle.std.specs.Option.{is_none, is_some, option_map_or}
use Rattle.pls_configuration.specs.declared.row.Port.{Port}
use Rattle.pls_configuration.specs.declared.row.State.{State}
use Rattle.pls_configuration.specs.declared.row.NodeRow.{NodeRow}
use Rattle.pls_configuration.specs.declared.limits.TheConstants.{MAX_NODES, MAX_PORTS}
use Rattle.pls_configuration.specs.Configuration.{first_of, ports_in, port_to, refused_if, row_of}
use Rattle.pls_graph.specs.Rows.{gaining}
use Rattle.pls_graph_edits.specs.declared.edit_error.EditError.{EditError}
use Rattle.pls_graph_edits.specs.declared.edit_error.EditError.TheVariants.{Absent, Present, Pointer, SelfLink, HasPorts, Last, Full, NoMemory}

-- the row, changed where it has the identity
abbrev pub changed : ℕ → (NodeRow → NodeRow) → NodeRow → NodeRow
changed id change row = if id == row.id then change row else row

-- the rows, of which the one with the identity is changed, and no other
abbrev pub change_row : ℕ → (NodeRow → NodeRow) → List NodeRow → List NodeRow
change_row id change rows = map (changed id change) rows

-- both ends of an edge are changed, each by a change that is told the other end
abbrev pub change_ends : (ℕ → NodeRow → NodeRow) → ℕ → ℕ → List NodeRow → List NodeRow
change_ends change a b rows = change_row b (change a) (change_row a (change b) rows)

-- the row in another state
abbrev pub in_state : State → NodeRow → NodeRow
in_state state row = record row { state = state }

-- the state of a node is the given one
abbrev pub with_state : List NodeRow → ℕ → State → List NodeRow
with_state rows id state = change_row id (in_state state) rows

-- the port, where it names this neighbour with another weight
abbrev pub weighed : ℕ → ℕ → Port → Port
weighed nbr weight port = if nbr == port.nbr then record port { weight = weight } else port

-- the row, whose port to a neighbour has this weight
abbrev pub weighing : ℕ → ℕ → NodeRow → NodeRow
weighing weight nbr row = record row { ports = map (weighed nbr weight) row.ports }

-- both ports of the edge have the weight
abbrev pub with_weight : List NodeRow → ℕ → ℕ → ℕ → List NodeRow
with_weight rows a b weight = change_ends (weighing weight) a b rows

-- the row with a new last port to a neighbour
abbrev pub linking : ℕ → ℕ → NodeRow → NodeRow
linking weight nbr row = gaining (record { nbr = nbr; weight = weight }) row

-- a new last port at both ends
abbrev pub linked : List NodeRow → ℕ → ℕ → ℕ → List NodeRow
linked rows a b weight = change_ends (linking weight) a b rows

-- a pointer, after the port of a number went: to that port it becomes none, and to a later one it
-- still names the same neighbour
abbrev pub pointer_without : ℕ → ℕ → Option ℕ
pointer_without port up =
    if up == port then None else if nat_lt port up then Some (up - 1) else Some up

-- the row without its port to a neighbour
abbrev pub losing : ℕ → NodeRow → NodeRow
losing nbr row =
    record row {
      state = record row.state {
        up = option_and_then (λ up. option_map_or (λ port. pointer_without port up)
            (position (λ port. nbr == port.nbr) row.ports) (Some up)) row.state.up;
      };
      ports = filter (λ port. not (nbr == port.nbr)) row.ports;
    }

-- the ports that two nodes have to each other go
abbrev pub unlinked : List NodeRow → ℕ → ℕ → List NodeRow
unlinked rows a b = change_ends losing a b rows

-- a node without ports and pointer
abbrev pub lone_node : ℕ → ℕ → ℕ → NodeRow
lone_node id mark num =
    record { id = id; state = record { up = None; mark = mark; num = num }; ports = [] }

-- a row is put in, in the order of identities
abbrev pub with_row : NodeRow → List NodeRow → List NodeRow
with_row row rows =
    filter (λ other. nat_lt other.id row.id) rows
    ++ row ∷ filter (λ other. nat_lt row.id other.id) rows

-- a node without ports and pointer comes, in the order of identities
abbrev pub joined : List NodeRow → ℕ → ℕ → ℕ → List NodeRow
joined rows id mark num = with_row (lone_node id mark num) rows

-- the node goes
abbrev pub without_node : List NodeRow → ℕ → List NodeRow
without_node rows id = filter (λ row. not (id == row.id)) rows

-- no row has the identity
abbrev pub is_absent : List NodeRow → ℕ → Bool
is_absent rows id = is_none (row_of rows id)

-- a port of the first names the second
abbrev pub are_linked : List NodeRow → ℕ → ℕ → Bool
are_linked rows a b = is_some (option_and_then (λ row. port_to row b) (row_of rows a))

-- a row has so many ports that the state points at one of them, or it points at none
abbrev pub fits_state : State → NodeRow → Bool
fits_state state row = option_map_or (λ up. nat_lt up (length row.ports)) state.up true

-- why a state is refused: there is no such node, or else it lacks the port that the state points at
abbrev pub state_refusal : List NodeRow → ℕ → State → Option EditError
state_refusal rows id state = first_of (
    refused_if (is_absent rows id) Absent
    ∷ refused_if (option_map_or (λ row. not (fits_state state row)) (row_of rows id) false)
    Pointer ∷ [])

-- why an edge is neither changed nor taken away: the two are not linked nodes
abbrev pub edge_refusal : List NodeRow → ℕ → ℕ → Option EditError
edge_refusal rows a b =
    refused_if (is_absent rows a || is_absent rows b || not (are_linked rows a b)) Absent

-- why a new edge is refused: one of the nodes is not there, or else they are one node, or are
-- linked, or there is no room for two more ports
abbrev pub link_refusal : List NodeRow → ℕ → ℕ → Option EditError
link_refusal rows a b = first_of (
    refused_if (is_absent rows a || is_absent rows b) Absent
    ∷ refused_if (a == b) SelfLink
    ∷ refused_if (are_linked rows a b) Present
    ∷ refused_if (nat_lt (MAX_PORTS - 2) (ports_in rows)) Full ∷ [])

-- why a node does not join: its identity is there, or else there is no room for one more
abbrev pub join_refusal : List NodeRow → ℕ → Option EditError
join_refusal rows id = first_of (
    refused_if (not (is_absent rows id)) Present
    ∷ refused_if (nat_le MAX_NODES (length rows)) Full ∷ [])

-- why a node does not leave: it is not there, or else it has ports, or is the only one
abbrev pub leave_refusal : List NodeRow → ℕ → Option EditError
leave_refusal rows id = first_of (
    refused_if (is_absent rows id) Absent
    ∷ refused_if (option_map_or (λ row. nat_lt 0 (length row.ports)) (row_of rows id) false)
    HasPorts
    ∷ refused_if (length rows == 1) Last ∷ [])

-- an edit that may lack memory is refused for this cause, or there was no memory
abbrev pub SaysEdit : Option EditError → EditError → Type 0
SaysEdit refusal NoMemory = Unit {0}
SaysEdit refusal error = refusal ≡ Some error
