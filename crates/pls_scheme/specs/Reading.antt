-- Views whose labels are read, and verdicts by rules on what was read. Rule 1 asks that the own
-- label can be read, rule 2 that each neighbour's can; the others are asked of what they say.
use Rattle.std.specs.Prelude.{ℕ, ◌==◌, Bool, false, List, [], ◌∷◌, map, slice_get, Option, Some, None, option_map, option_and_then}
use Rattle.std.specs.List.{list_all}
use Rattle.pls_configuration.specs.declared.row.State.{State}
use Rattle.pls_configuration.specs.declared.row.Port.{Port}
use Rattle.pls_configuration.specs.declared.row.NodeRow.{NodeRow}
use Rattle.pls_configuration.specs.declared.verdict.Verdict.{Verdict}
use Rattle.pls_configuration.specs.declared.verdict.Verdict.TheVariants.{Reject}
use Rattle.pls_labels.specs.Seen.{Seen, SeenPort}
use Rattle.pls_scheme.specs.Judging.{judged_from}

-- what a node reads at one of its ports
pub record ReadPort (L : Type 0) : Type 0 where
  pub weight : ℕ
  pub label : L

-- what a node reads in its view
pub record Read (L : Type 0) : Type 0 where
  pub id : ℕ
  pub state : State
  pub own : L
  pub ports : List (ReadPort L)

-- what a node reads at the port that it points at, if it points at one
abbrev pub target : {L : Type 0} → Read L → Option (ReadPort L)
target view = option_and_then (slice_get view.ports) view.state.up

-- the neighbour's label has this number
abbrev pub has_number : {L : Type 0} → (L → ℕ) → ℕ → ReadPort L → Bool
has_number number value port = number port.label == value

-- every neighbour's label has the number of the own one
abbrev pub agrees_on : {L : Type 0} → (L → ℕ) → Read L → Bool
agrees_on number view = list_all (has_number number (number view.own)) view.ports

-- a port with its label read, where that can be
abbrev pub read_port : {L : Type 0} → (List Bool → Option L) → SeenPort → Option (ReadPort L)
read_port read port =
    option_map (λ label. record { weight = port.weight; label = label }) (read port.label)

-- the ports with their labels read, where each can be
abbrev pub read_ports : {L : Type 0} → (List Bool → Option L) → List SeenPort
    → Option (List (ReadPort L))
read_ports read [] = Some []
read_ports read (port ∷ ports) =
    option_and_then (λ first. option_map (λ others. first ∷ others) (read_ports read ports))
    (read_port read port)

-- the verdict on a view of which the own label and the ports are read so far as they can be
abbrev pub judged_read : {L : Type 0} → (Read L → List Bool) → Seen → Option L
    → Option (List (ReadPort L)) → Verdict
judged_read rules view None ports = Reject 1 1
judged_read rules view (Some own) None = Reject 1 2
judged_read rules view (Some own) (Some ports) =
    judged_from 3 (rules (record { id = view.id; state = view.state; own = own; ports = ports }))

-- the verdict by a way to read a label, and by the rules from 3 on
abbrev pub judge_by : {L : Type 0} → (List Bool → Option L) → (Read L → List Bool) → Seen → Verdict
judge_by read rules view = judged_read rules view (read view.own) (read_ports read view.ports)

-- a node with this pointer points at the port of this number, from 0
abbrev pub is_pointer : Option ℕ → ℕ → Bool
is_pointer None place = false
is_pointer (Some number) place = number == place

-- a port with this weight, whose label says this
abbrev pub port_with : {L : Type 0} → ℕ → L → ReadPort L
port_with weight label = record { weight = weight; label = label }

-- what the label says at the port with this number, if there is one
abbrev pub label_above : {L : Type 0} → List (ReadPort L) → Option ℕ → Option L
label_above ports up = option_map (λ port. port.label) (option_and_then (slice_get ports) up)

-- what a node reads that has this identity, state and label, and reads this at its ports
abbrev pub reading : {L : Type 0} → ℕ → State → L → List (ReadPort L) → Read L
reading id state own ports = record { id = id; state = state; own = own; ports = ports }

-- what a port shows where each label says what a function of the identity says
abbrev pub port_where : {L : Type 0} → (ℕ → L) → Port → ReadPort L
port_where say port = record { weight = port.weight; label = say port.nbr }

-- what the node of a row reads where each label says what a function of the identity says
abbrev pub read_where : {L : Type 0} → (ℕ → L) → NodeRow → Read L
read_where say row =
    record {
      id = row.id;
      state = row.state;
      own = say row.id;
      ports = map (port_where say) row.ports;
    }
