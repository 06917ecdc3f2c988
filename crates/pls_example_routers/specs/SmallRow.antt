-- Rows that a network of few nodes may have.
use Rattle.std.specs.Prelude.{◌≡◌, ◌≤◌, length}
use Rattle.pls_configuration.specs.declared.row.NodeRow.{NodeRow}

-- at most two ports, and the number 0
pub record IsSmallRow (row : NodeRow) : Type 0 where
  pub ports : length row.ports ≤ 2
  pub num : row.state.num ≡ 0
