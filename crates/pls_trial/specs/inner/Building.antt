-- What the steps that build a network say to each other.
use Rattle.std.specs.Prelude.{ℕ, nat_lt, ◌≤◌, ◌+◌, Bool, false, List, length, ◌≡◌}
use Rattle.std.specs.List.{range_with_len}
use Rattle.std.specs.Option.{option_map_or}
use Rattle.pls_configuration.specs.declared.row.NodeRow.{NodeRow}
use Rattle.pls_configuration.specs.declared.limits.TheConstants.{MAX_PORTS}
use Rattle.pls_configuration.specs.Configuration.{ids_of, ports_in, row_of}

-- the node has a port
abbrev pub has_port : List NodeRow → ℕ → Bool
has_port rows id = option_map_or (λ row. nat_lt 0 (length row.ports)) (row_of rows id) false

-- the nodes are those from 1 on, and there is room for so many ports
pub record AreReady (rows : List NodeRow) (nodes ports : ℕ) : Type 0 where
  pub ids : ids_of rows ≡ range_with_len 1 nodes
  pub room : ports_in rows + ports ≤ MAX_PORTS
