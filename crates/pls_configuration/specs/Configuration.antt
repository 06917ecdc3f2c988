-- Configurations, as lists of rows, one a node; here is which lists are networks, by one test for
-- each refusal over the whole list (Korman, Kutten and Peleg 2010, "Proof labeling schemes").
use Rattle.std.specs.Prelude.{◌≡◌, ℕ, ◌≤◌, Bool, false, not, ◌||◌, ◌==◌, nat_le, List, [], ◌∷◌, map, drop, length, zip, find, sum_by, All, Option, Some, None, option_map, option_and_then, if◌then◌else◌}
use Rattle.std.specs.List.{list_any}
use Rattle.std.specs.Option.{is_none, option_map_or}
use Rattle.pls_configuration.specs.declared.row.Port.{Port}
use Rattle.pls_configuration.specs.declared.row.NodeRow.{NodeRow}
use Rattle.pls_configuration.specs.declared.refusal.BuildError.{BuildError}
use Rattle.pls_configuration.specs.declared.refusal.BuildError.TheVariants.{Order, SelfLink, Twice, Unknown, OneWay, Weights, Pointer}
use Rattle.pls_configuration.specs.declared.limits.TheConstants.{MAX_NODES, MAX_PORTS, MAX_NUM}

-- the identities of the rows, in their order
abbrev pub ids_of : List NodeRow → List ℕ
ids_of rows = map (λ row. row.id) rows

-- the row of an identity
abbrev pub row_of : List NodeRow → ℕ → Option NodeRow
row_of rows id = find (λ row. id == row.id) rows

-- the port of a row that names a node
abbrev pub port_to : NodeRow → ℕ → Option Port
port_to row id = find (λ port. id == port.nbr) row.ports

-- the port at the other end of a row's port, which names the row again
abbrev pub port_back : List NodeRow → NodeRow → Port → Option Port
port_back rows row port = option_and_then (λ other. port_to other row.id) (row_of rows port.nbr)

-- the first row at which identities do not rise: its own is at most that of the row above it
abbrev pub out_of_order : List NodeRow → Option NodeRow
out_of_order rows =
    option_map (λ pair. pair.1) (find (λ pair. nat_le pair.1.id pair.0.id) (zip rows (drop 1 rows)))

-- a port names the row's own node
abbrev pub links_itself : NodeRow → Bool
links_itself row = list_any (λ port. row.id == port.nbr) row.ports

-- a number stands at two places of the list
abbrev pub has_repeat : List ℕ → Bool
has_repeat [] = false
has_repeat (first ∷ others) = list_any (λ other. first == other) others || has_repeat others

-- some neighbour is named by two of the row's ports
abbrev pub names_twice : NodeRow → Bool
names_twice row = has_repeat (map (λ port. port.nbr) row.ports)

-- a port names no row
abbrev pub names_unknown : List NodeRow → NodeRow → Bool
names_unknown rows row = list_any (λ port. is_none (row_of rows port.nbr)) row.ports

-- the node at the other end of the row's port has none that leads back
abbrev pub lacks_back : List NodeRow → NodeRow → Port → Bool
lacks_back rows row port =
    option_map_or (λ other. is_none (port_to other row.id)) (row_of rows port.nbr) false

-- one of the row's ports has no way back
abbrev pub lacks_way_back : List NodeRow → NodeRow → Bool
lacks_way_back rows row = list_any (lacks_back rows row) row.ports

-- the row's port and the one that leads back have two weights
abbrev pub differs_back : List NodeRow → NodeRow → Port → Bool
differs_back rows row port =
    option_map_or (λ back. not (port.weight == back.weight)) (port_back rows row port) false

-- one of the row's ports has another weight than the way back
abbrev pub differs_in_weight : List NodeRow → NodeRow → Bool
differs_in_weight rows row = list_any (differs_back rows row) row.ports

-- the pointer names no port of the row
abbrev pub points_nowhere : NodeRow → Bool
points_nowhere row = option_map_or (λ up. nat_le (length row.ports) up) row.state.up false

-- the first of some answers that is there
abbrev pub first_of : {X : Type 0} → List (Option X) → Option X
first_of [] = None
first_of (Some answer ∷ later) = Some answer
first_of (None ∷ later) = first_of later

-- the refusal, where the test says so
abbrev pub refused_if : {E : Type 0} → Bool → E → Option E
refused_if test refusal = if test then Some refusal else None

-- each condition under which rows are no network, in the order in which they are tried, with the
-- identity of the first row at which it occurs
abbrev pub refusals_of : List NodeRow → List (Option BuildError)
refusals_of rows =
    option_map (λ row. Order row.id) (out_of_order rows)
    ∷ option_map (λ row. SelfLink row.id) (find links_itself rows)
    ∷ option_map (λ row. Twice row.id) (find names_twice rows)
    ∷ option_map (λ row. Unknown row.id) (find (names_unknown rows) rows)
    ∷ option_map (λ row. OneWay row.id) (find (lacks_way_back rows) rows)
    ∷ option_map (λ row. Weights row.id) (find (differs_in_weight rows) rows)
    ∷ option_map (λ row. Pointer row.id) (find points_nowhere rows)
    ∷ []

-- why the rows are no network, if they are none
abbrev pub refusal_of : List NodeRow → Option BuildError
refusal_of rows = first_of (refusals_of rows)

-- how many ports all rows have together
abbrev pub ports_in : List NodeRow → ℕ
ports_in rows = sum_by (λ row. length row.ports) rows

-- there is a row, and the rows, their ports and their numbers are within the limits
pub record AreWithinLimits (rows : List NodeRow) : Type 0 where
  pub some : 1 ≤ length rows
  pub few_nodes : length rows ≤ MAX_NODES
  pub few_ports : ports_in rows ≤ MAX_PORTS
  pub small : All (λ row. row.state.num ≤ MAX_NUM) rows

-- the rows are a network: within the limits, and no refusal occurs
pub record IsNetwork (rows : List NodeRow) : Type 0 where
  pub limits : AreWithinLimits rows
  pub valid : refusal_of rows ≡ None
