-- What a report tells of each component of a network.
use Rattle.std.specs.Prelude.{ℕ, List, length, map}
use Rattle.pls_configuration.specs.declared.row.NodeRow.{NodeRow}
use Rattle.pls_sim.specs.declared.outcome.Outcome.{Outcome}
use Rattle.pls_report.specs.declared.component_row.ComponentRow.{ComponentRow}
use Rattle.pls_report.specs.Report.{rejecting, waiting}
use Rattle.pls_components.specs.Components.{items_at, least_id}

-- of the component at these places: its smallest identity, and how many nodes it has, how many of
-- them reject, and how many wait
abbrev pub component_row : List NodeRow → List (ℕ × Outcome) → List ℕ → ComponentRow
component_row rows outcomes places = record {
  id = least_id rows places;
  nodes = length places;
  rejecting = rejecting (items_at outcomes places);
  waiting = waiting (items_at outcomes places);
}

-- what is told of each component, in their order
abbrev pub component_rows : List NodeRow → List (List ℕ) → List (ℕ × Outcome) → List ComponentRow
component_rows rows parts outcomes = map (component_row rows outcomes) parts
