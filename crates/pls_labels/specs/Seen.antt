-- What a node sees: itself with its label, and behind each port the weight of the edge and the
-- label at its other end, and nothing else (the local view of Korman, Kutten and Peleg 2010).
use Rattle.std.specs.Prelude.{ℕ, All, ◌==◌, ◌<◌, ◌≤◌, Bool, List, [], map, position, slice_get, Option, unwrap_or, option_and_then}
use Rattle.std.specs.Option.{ForSome}
use Rattle.pls_configuration.specs.declared.limits.TheConstants.{MAX_DEGREE}
use Rattle.pls_configuration.specs.declared.row.State.{State}
use Rattle.pls_configuration.specs.declared.row.Port.{Port}
use Rattle.pls_configuration.specs.declared.row.NodeRow.{NodeRow}

-- what a node sees at one of its ports
pub record SeenPort : Type 0 where
  pub weight : ℕ
  pub label : List Bool

-- the view of a node
pub record Seen : Type 0 where
  pub id : ℕ
  pub state : State
  pub own : List Bool
  pub ports : List SeenPort

-- a pointer and a number of ports that a node may have: the pointer is a port's number, and there
-- are at most as many ports as a node of a network may have
pub record IsProper (up : Option ℕ) (count : ℕ) : Type 0 where
  pub pointer : ForSome up (λ port. port < count)
  pub few : count ≤ MAX_DEGREE

-- the labels as a function: the label of an identity, the empty one where it is no node's
abbrev pub label_of : List NodeRow → List (List Bool) → ℕ → List Bool
label_of rows labels id =
    unwrap_or (option_and_then (slice_get labels) (position (λ row. id == row.id) rows)) []

-- what a port shows under a labelling
abbrev pub seen_port : (ℕ → List Bool) → Port → SeenPort
seen_port label port = record { weight = port.weight; label = label port.nbr }

-- the view of a row under a labelling
abbrev pub seen : (ℕ → List Bool) → NodeRow → Seen
seen label row =
    record {
      id = row.id;
      state = row.state;
      own = label row.id;
      ports = map (seen_port label) row.ports;
    }

-- the views of all nodes, in the order of the rows
abbrev pub views : List NodeRow → List (List Bool) → List Seen
views rows labels = map (seen (label_of rows labels)) rows

-- what a port with this weight and label shows
abbrev pub shown : ℕ → List Bool → SeenPort
shown weight label = record { weight = weight; label = label }

-- a port that shows a part of its label
abbrev pub narrow_port : (List Bool → List Bool) → SeenPort → SeenPort
narrow_port narrowed port = shown port.weight (narrowed port.label)

-- the view with each label replaced by its part
abbrev pub narrow_by : (List Bool → List Bool) → Seen → Seen
narrow_by narrowed view =
    record {
      id = view.id;
      state = view.state;
      own = narrowed view.own;
      ports = map (narrow_port narrowed) view.ports;
    }

-- each label of the view has the part
pub record EachFits (fits : List Bool → Type 0) (view : Seen) : Type 0 where
  pub own : fits view.own
  pub ports : All (λ port. fits port.label) view.ports
