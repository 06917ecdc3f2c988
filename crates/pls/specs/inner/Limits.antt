-- The limits of networks as a test.
use Rattle.std.specs.Prelude.{Bool, ◌&&◌, nat_le, List, length}
use Rattle.std.specs.List.{list_all}
use Rattle.pls_configuration.specs.declared.limits.TheConstants.{MAX_NODES, MAX_NUM, MAX_PORTS}
use Rattle.pls_configuration.specs.declared.row.NodeRow.{NodeRow}
use Rattle.pls_configuration.specs.Configuration.{ports_in}

-- the rows are within the limits
abbrev pub is_within_limits : List NodeRow → Bool
is_within_limits rows =
    nat_le 1 (length rows) && nat_le (length rows) MAX_NODES
    && nat_le (ports_in rows) MAX_PORTS
    && list_all (λ row. nat_le row.state.num MAX_NUM) rows
