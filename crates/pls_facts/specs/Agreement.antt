-- What neighbours have in common.
use Rattle.std.specs.Prelude.{◌≡◌, ℕ, List, Contains}
use Rattle.pls_configuration.specs.declared.row.Port.{Port}
use Rattle.pls_configuration.specs.declared.row.NodeRow.{NodeRow}

-- the node at each port says what the node of the port says
abbrev pub AgreeAtPorts : {L : Type 0} → List NodeRow → (ℕ → L) → Type 0
AgreeAtPorts rows say = (row : NodeRow) (port : Port) → Contains rows row → Contains row.ports port
    → say port.nbr ≡ say row.id
