-- How many nodes there are, as each node's state says it.
use Rattle.std.specs.Prelude.{◌≡◌, List, length, Contains}
use Rattle.pls_configuration.specs.declared.row.NodeRow.{NodeRow}

-- the number in each node's state is the number of nodes
abbrev pub AreCounted : List NodeRow → Type 0
AreCounted rows = (row : NodeRow) → Contains rows row → row.state.num ≡ length rows
