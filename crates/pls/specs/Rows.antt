-- Rows that are made, and why rows are no network.
use Rattle.std.specs.Prelude.{ℕ, List, map, Option}
use Rattle.pls_configuration.specs.declared.row.NodeRow.{NodeRow}
use Rattle.pls_configuration.specs.declared.row.Port.{Port}
use Rattle.pls_configuration.specs.Configuration.{AreWithinLimits}
use Rattle.pls_graph.specs.Build.{IsRefusal}
use Rattle.pls.specs.declared.networks.NetworkError.{NetworkError}
use Rattle.pls.specs.declared.networks.NetworkError.TheVariants.{Limits, Refused}

-- a port beyond an edge of weight 1
abbrev pub plain_port : ℕ → Port
plain_port nbr = record { nbr = nbr; weight = 1 }

-- a row without mark and number, whose edges weigh 1
abbrev pub plain_row : ℕ → Option ℕ → List ℕ → NodeRow
plain_row id up neighbours =
    record {
      id = id;
      state = record { up = up; mark = 0; num = 0 };
      ports = map plain_port neighbours;
    }

-- the error says why these rows are no network
abbrev pub IsNoNetwork : List NodeRow → NetworkError → Type 0
IsNoNetwork rows Limits = ¬ AreWithinLimits rows
IsNoNetwork rows (Refused refusal) = AreWithinLimits rows × IsRefusal rows refusal
