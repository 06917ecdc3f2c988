-- What is found out of a map, once for all nodes that have it.
use Rattle.std.specs.Prelude.{◌≡◌, ℕ, nat_le, Bool, true, false, List, length, sum_by, Option, Some, None}
use Rattle.pls_configuration.specs.declared.limits.TheConstants.{MAX_PORTS}
use Rattle.pls_configuration.specs.declared.row.NodeRow.{NodeRow}
use Rattle.pls_universal.specs.declared.map.MapRow.{MapRow}
use Rattle.pls_universal.specs.declared.stating.StatedNetwork.{StatedNetwork}
use Rattle.pls_universal.specs.Rules.{is_network, nodes_of}

-- how many ports all records state together
abbrev pub ports_stated : List MapRow → ℕ
ports_stated rows = sum_by (λ row. length row.ports) rows

-- the pointer that a record states is no greater than that of any node of a network
abbrev pub is_pointer_small : MapRow → Bool
is_pointer_small row = nat_le row.up MAX_PORTS

-- the network is the connected one that the records state, where they state one
abbrev pub IsNetworkOf : List MapRow → Option (List NodeRow) → Type 0
IsNetworkOf rows None = is_network rows ≡ false
IsNetworkOf rows (Some net) = (is_network rows ≡ true) × (net ≡ nodes_of rows)

-- so is the network here, beside the answer of the test on it
abbrev pub IsStated : (List NodeRow → Bool) → List MapRow → Option StatedNetwork → Type 0
IsStated test rows None = is_network rows ≡ false
IsStated test rows (Some stated) =
    (is_network rows ≡ true) × (stated.net ≡ nodes_of rows)
    × (stated.has_property ≡ test (nodes_of rows))
