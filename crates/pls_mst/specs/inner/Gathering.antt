-- What a node gathers of its ports.
use Rattle.std.specs.Prelude.{ℕ, ◌==◌, min, max, Bool, ◌&&◌, ◌||◌, if◌then◌else◌}
use Rattle.pls_scheme.specs.Reading.{Read}
use Rattle.pls_mst.specs.declared.comparing.LevelComparison.{LevelComparison}
use Rattle.pls_mst.specs.declared.comparing.PortEdge.{PortEdge}
use Rattle.pls_mst.specs.declared.gathering.PortTally.{PortTally}
use Rattle.pls_levels.specs.declared.label.LevelHead.{LevelHead}
use Rattle.pls_mst.specs.Labels.{MstLabel}
use Rattle.pls_mst.specs.Rules.{agrees_on_root_and_levels, chosen_edges_are_least, pointed_edge_is_chosen, shares_with_target}

-- which rules on the ports hold
abbrev pub mst_tally : Read MstLabel → PortTally
mst_tally view = record {
  agrees = agrees_on_root_and_levels view;
  shares = shares_with_target view;
  least = chosen_edges_are_least view;
  chosen = pointed_edge_is_chosen view;
}

-- the edge to a neighbour, of which this is known, and whether it is in the tree
abbrev pub port_edge : Bool → ℕ → LevelHead → LevelHead → PortEdge
port_edge pointer weight mine theirs = record {
  weight = weight;
  in_tree = pointer || theirs.parent == mine.own;
  a = min mine.own theirs.own;
  b = max mine.own theirs.own;
}

-- what is gathered with one more port, which the pointer is or not
abbrev pub mst_tally_with : Bool → LevelHead → LevelHead → LevelComparison → PortTally → PortTally
mst_tally_with pointer own theirs both before = record {
  agrees = before.agrees && (theirs.root == own.root && theirs.count == own.count);
  shares = if pointer then both.shares else before.shares;
  least = before.least && both.least;
  chosen = if pointer then both.chosen else before.chosen;
}
